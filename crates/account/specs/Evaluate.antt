-- What is worked out at kept values, list by list. Assumes nothing.
use Rattle.std.specs.Prelude.{ℕ, suc, cond, List, [], ◌∷◌, ◌++◌, Some, None, Option}
use Rattle.std.specs.Option.{option_map, option_to_list, unwrap_or}
use Rattle.field.specs.Laws.{Model}
use Rattle.variables.specs.declared.Term.{Term}
use Rattle.variables.specs.Evaluate.{read, evaluated}
use Rattle.account.specs.Finish.{Outlined}
use Rattle.account.specs.Rows.{Row}

module _ {V : Type 0} (m : Model V) where
  -- The work table, in rising order, after the places of `named`: each list at the kept values and the places before it, or nothing where
  -- a term rests on a value that is not kept.
  abbrev pub filled_after : List V → List V → List (Option V) → List (List (Term V)) → List (Option V)
  filled_after instances witnesses named [] = named
  filled_after instances witnesses named (l ∷ ls) =
      filled_after instances witnesses (named ++ evaluated m (read m instances witnesses named) l ∷ []) ls

  abbrev pub filled : List V → List V → List (List (Term V)) → List (Option V)
  filled instances witnesses lists = filled_after instances witnesses [] lists

  -- The values of added witnesses, in their order, after those of `added`: each from its merged list, at the instances, the witnesses
  -- and the witnesses added before it.
  abbrev pub added_after : List V → List V → List V → List (Outlined V) → List V
  added_after instances witnesses added [] = added
  added_after instances witnesses added (o ∷ os) =
      added_after instances witnesses (added ++ option_to_list (evaluated m (read m instances (witnesses ++ added) []) o.merged)) os

  abbrev pub added_values : List V → List V → List (Outlined V) → List V
  added_values instances witnesses os = added_after instances witnesses [] os

  -- a value, or zero for one that is missing; where a check is accepted none is missing
  abbrev pub or_zero : Option V → V
  or_zero o = unwrap_or o m.zero

  -- the first row of values that fails the test, or none
  abbrev pub failing : List (Row V) → Option ℕ
  failing [] = None
  failing (r ∷ rs) = cond (m.same (m.times r.a r.b) r.c) (option_map suc (failing rs)) (Some 0)
