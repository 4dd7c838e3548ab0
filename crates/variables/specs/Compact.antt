-- A list with equal variables put together. Assumes nothing.
use Rattle.std.specs.Prelude.{cond, List, [], ◌∷◌}
use Rattle.field.specs.Laws.{Model}
use Rattle.variables.specs.declared.Term.{Term}
use Rattle.variables.specs.Order.{equal, below}
use Rattle.variables.specs.Terms.{term}

module _ {V : Type 0} (m : Model V) where
  -- a term placed among rising ones: an equal one gains its number, and a sum of zero stays
  abbrev pub placed : Term V → List (Term V) → List (Term V)
  placed t [] = t ∷ []
  placed t (u ∷ us) =
      cond (equal t.variable u.variable)
      (term (m.plus u.number t.number) u.variable ∷ us)
      (cond (below t.variable u.variable) (t ∷ u ∷ us) (u ∷ placed t us))

  -- the terms placed in turn
  abbrev pub all_placed : List (Term V) → List (Term V) → List (Term V)
  all_placed us [] = us
  all_placed us (t ∷ ts) = all_placed (placed t us) ts

  abbrev pub compactify : List (Term V) → List (Term V)
  compactify ts = all_placed [] ts
