-- The order of the variables. Assumes nothing.
use Rattle.std.specs.Prelude.{◌≡◌, ℕ, Bool, true, false, cond, ◌&&◌, ◌⊎◌, ◌↔◌, List, [], ◌∷◌, ◌==◌, nat_lt}
use Rattle.variables.specs.declared.Variable.{Variable}
use Rattle.variables.specs.declared.Variable.TheVariants.{Zero, One, Instance, Witness, SymbolicLc}
use Rattle.variables.specs.declared.Term.{Term}

-- Zero, One, then instances, witnesses and symbols ..
abbrev pub kind : Variable → ℕ
kind Zero = 0
kind One = 1
kind (Instance i) = 2
kind (Witness i) = 3
kind (SymbolicLc k) = 4

-- .. each by number
abbrev pub place : Variable → ℕ
place Zero = 0
place One = 0
place (Instance i) = i
place (Witness i) = i
place (SymbolicLc k) = k.0

abbrev pub equal : Variable → Variable → Bool
equal v w = kind v == kind w && place v == place w

abbrev pub below : Variable → Variable → Bool
below v w = cond (kind v == kind w) (nat_lt (place v) (place w)) (nat_lt (kind v) (kind w))

-- each variable is above the one before it
abbrev pub Rises : {V : Type 0} → List (Term V) → Type 0
Rises [] = Unit {0}
Rises (t ∷ []) = Unit {0}
Rises (t ∷ u ∷ ts) = (below t.variable u.variable ≡ true) × Rises (u ∷ ts)

-- this is a total order, and `equal` tells whether two variables are one
pub record Ordered : Type 0 where
  pub irreflexive : (v : Variable) → below v v ≡ false
  pub transitive : (u v w : Variable) → below u v ≡ true → below v w ≡ true → below u w ≡ true
  pub connected : (v w : Variable) → (v ≡ w) ⊎ ((below v w ≡ true) ⊎ (below w v ≡ true))
  pub same : (v w : Variable) → (equal v w ≡ true) ↔ (v ≡ w)
