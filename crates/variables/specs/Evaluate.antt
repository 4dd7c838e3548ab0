-- What a list is worth at kept values, term by term. Assumes nothing.
use Rattle.std.specs.Prelude.{ℕ, ◌<◌, List, [], ◌∷◌, Some, None, Option, slice_index_or}
use Rattle.std.specs.List.{slice_get}
use Rattle.field.specs.Laws.{Model}
use Rattle.variables.specs.declared.Variable.{Variable}
use Rattle.variables.specs.declared.Variable.TheVariants.{Zero, One, Instance, Witness, SymbolicLc}
use Rattle.variables.specs.declared.Term.{Term}

-- what a list may name whose worth hangs on instances and witnesses alone: no symbol, and the rest below its count
abbrev pub SymbolFree : ℕ → ℕ → Variable → Type 0
SymbolFree n w Zero = Unit {0}
SymbolFree n w One = Unit {0}
SymbolFree n w (Instance i) = i < n
SymbolFree n w (Witness i) = i < w
SymbolFree n w (SymbolicLc k) = ⊥

module _ {V : Type 0} (m : Model V) where
  -- the value of a variable, or nothing where it is not kept; `named` has those of the symbols
  abbrev pub read : List V → List V → List (Option V) → Variable → Option V
  read instances witnesses named Zero = Some m.zero
  read instances witnesses named One = Some m.one
  read instances witnesses named (Instance i) = slice_get instances i
  read instances witnesses named (Witness i) = slice_get witnesses i
  read instances witnesses named (SymbolicLc k) = slice_index_or named k.0 None

  abbrev pub accumulated : Option V → V → Option V → Option V
  accumulated None k value = None
  accumulated (Some sum) k None = None
  accumulated (Some sum) k (Some value) = Some (m.plus sum (m.times k value))

  abbrev pub evaluated_from : (Variable → Option V) → Option V → List (Term V) → Option V
  evaluated_from at sum [] = sum
  evaluated_from at sum (t ∷ ts) = evaluated_from at (accumulated sum t.number (at t.variable)) ts

  -- a list from its first term on, or nothing where any term rests on a value not kept
  abbrev pub evaluated : (Variable → Option V) → List (Term V) → Option V
  evaluated at ts = evaluated_from at (Some m.zero) ts
