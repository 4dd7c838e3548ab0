-- What a variable rests on, and which vectors have the kept values. Assumes nothing.
use Rattle.std.specs.Prelude.{◌≡◌, ℕ, ◌+◌, ◌<◌, List, [], length, Some, Option, ◌↔◌, slice_index_or}
use Rattle.std.specs.List.{Contains}
use Rattle.field.specs.Laws.{Model}
use Rattle.variables.specs.declared.LcIndex.{LcIndex}
use Rattle.variables.specs.declared.Variable.{Variable}
use Rattle.variables.specs.declared.Variable.TheVariants.{Zero, One, Instance, Witness, SymbolicLc}
use Rattle.variables.specs.declared.Term.{Term}

-- a variable rests on itself, and a symbol on all that the terms of its list rest on
pub data RestsOn {V : Type 0} (lists : List (List (Term V))) : Variable → Variable → Type 0 where
  itself : {v : Variable} → RestsOn lists v v
  through : {k : LcIndex} {t : Term V} {u : Variable} → Contains (slice_index_or lists k.0 []) t → RestsOn lists t.variable u → RestsOn lists (SymbolicLc k) u

-- an instance or witness is kept where it is below the number of values; the others need no kept value
abbrev pub IsKept : (instances witnesses : ℕ) → Variable → Type 0
IsKept instances witnesses Zero = Unit {0}
IsKept instances witnesses One = Unit {0}
IsKept instances witnesses (Instance i) = i < instances
IsKept instances witnesses (Witness i) = i < witnesses
IsKept instances witnesses (SymbolicLc k) = Unit {0}

abbrev pub AllKept : {V : Type 0} → (instances witnesses : ℕ) → List (List (Term V)) → Variable → Type 0
AllKept instances witnesses lists v = (u : Variable) → RestsOn lists v u → IsKept instances witnesses u

module _ {V : Type 0} (m : Model V) where
  open m.ring use {Member, zero}

  -- a vector of n instances and then the witnesses that has the kept values in their columns
  pub record HasKept (n : ℕ) (instances witnesses : List V) (z : List Member) : Type 0 where
    pub of_instances : (i : ℕ) → i < length instances → slice_index_or z i zero ≡ m.stands (slice_index_or instances i m.zero)
    pub of_witnesses : (i : ℕ) → i < length witnesses → slice_index_or z (n + i) zero ≡ m.stands (slice_index_or witnesses i m.zero)

  -- There is a value exactly where one is due, and then it stands for the worth under every vector that has the kept values.
  pub record Found (n : ℕ) (instances witnesses : List V) (Due : Type 0) (worth : List Member → Member) (answer : Option V) : Type 0 where
    pub there : ((a : V) × (answer ≡ Some a)) ↔ Due
    pub stands : (z : List Member) → HasKept n instances witnesses z → (a : V) → answer ≡ Some a → m.stands a ≡ worth z
