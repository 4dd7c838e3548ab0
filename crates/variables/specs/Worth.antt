-- What a variable and a list of terms are worth under a vector. Assumes nothing.
use Rattle.std.specs.Prelude.{ℕ, ◌+◌, List, [], ◌∷◌, slice_index_or}
use Rattle.field.specs.Laws.{Model}
use Rattle.variables.specs.declared.Variable.{Variable}
use Rattle.variables.specs.declared.Variable.TheVariants.{Zero, One, Instance, Witness, SymbolicLc}
use Rattle.variables.specs.declared.Term.{Term}

module _ {V : Type 0} (m : Model V) where
  open m.ring use {Member, zero, one, ◌⊕◌, ◌⊗◌}

  infixl 50 ◌⊕◌
  infixl 60 ◌⊗◌
  -- The vector z holds the n instances and then the witnesses, and `named` what each list is worth that a symbol may name.
  abbrev pub value : ℕ → List Member → List Member → Variable → Member
  value n z named Zero = zero
  value n z named One = one
  value n z named (Instance i) = slice_index_or z i zero
  value n z named (Witness i) = slice_index_or z (n + i) zero
  value n z named (SymbolicLc k) = slice_index_or named k.0 zero

  -- a list is worth the sum of number times worth
  abbrev pub worth : (Variable → Member) → List (Term V) → Member
  worth at [] = zero
  worth at (t ∷ ts) = m.stands t.number ⊗ at t.variable ⊕ worth at ts
