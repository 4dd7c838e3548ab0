-- What each of some given lists is worth under a vector, read in two ways. Assumes nothing.
use Rattle.std.specs.Prelude.{ℕ, suc, List, [], ◌∷◌, ◌++◌, map}
use Rattle.field.specs.Laws.{Model}
use Rattle.variables.specs.declared.Variable.{Variable}
use Rattle.variables.specs.declared.Term.{Term}
use Rattle.variables.specs.Worth.{value, worth}

module _ {V : Type 0} (m : Model V) where
  open m.ring use {Member}

  -- What each list is worth, in rising order, where `named` has those before: a symbol is worth the list of its number, which comes
  -- before the list that names it. The vector z holds the n instances and then the witnesses.
  abbrev pub worths_after : ℕ → List Member → List Member → List (List (Term V)) → List Member
  worths_after n z named [] = named
  worths_after n z named (l ∷ ls) = worths_after n z (named ++ worth m (value m n z named) l ∷ []) ls

  abbrev pub worths : ℕ → List Member → List (List (Term V)) → List Member
  worths n z lists = worths_after n z [] lists

  -- What a variable is worth by following its symbol to the list of its number, and the symbols there, at most d deep.
  abbrev pub followed : ℕ → ℕ → List Member → List (List (Term V)) → Variable → Member
  followed ℕ.zero n z lists v = value m n z [] v
  followed (suc d) n z lists v = value m n z (map (worth m (followed d n z lists)) lists) v
