-- The windows of a run of readings. Assumes nothing.
use Rattle.std.specs.Prelude.{ℕ, ◌+◌, cond, List, [], ◌∷◌, ◌++◌, map, length, drop, None, Ok, Option, Result, nat_le}
use Rattle.std.specs.List.{range_with_len}
use Rattle.field.specs.Laws.{Model}
use Rattle.variables.specs.declared.Term.{Term}
use Rattle.variables.specs.declared.Variable.TheVariants.{Witness}
use Rattle.variables.specs.Terms.{once}
use Rattle.variables.specs.Evaluate.{read, evaluated}
use Rattle.variables.specs.Refusals.{Told, refused}

-- an answer, and what the places hold after it
pub record Smoothed (V : Type 0) : Type 0 where
  pub answer : Result (Option V) Told
  pub places : List (Term V)

module _ {V : Type 0} (m : Model V) where
  open m.ring use {Member, zero, ◌⊕◌}

  infixl 50 ◌⊕◌
  -- the sum of `width` readings from `first` on, reading k named Witness(k)
  abbrev pub window : ℕ → ℕ → List (Term V)
  window first width = map (λ k. once m (Witness k)) (range_with_len first width)

  abbrev pub gathered : List V → ℕ → ℕ → List (Term V) → Smoothed V
  gathered readings first width places = record {
    answer = Ok (evaluated m (read m [] readings []) (window first width));
    places = window first width ++ drop width places;
  }

  abbrev pub smoothed : List V → ℕ → ℕ → List (Term V) → Smoothed V
  smoothed readings first width places =
      cond (nat_le (first + width) (length readings))
      (cond (nat_le width (length places)) (gathered readings first width places) (record { answer = refused 19; places = places }))
      (record { answer = Ok None; places = places })

  -- what readings stand for, added up
  abbrev pub total : List V → Member
  total [] = zero
  total (x ∷ xs) = m.stands x ⊕ total xs
