-- Matrices that were written into the first places of tables, in the whole tables. Assumes nothing.
use Rattle.std.proofs.Common.{◌≡◌, ℕ, ◌≤◌, List, [], ◌∷◌, ◌++◌, map, length, take, drop, Some, None, Ok, Option, ap, ◌∙◌, sym, ap₂, append_assoc, arith}
use lib.ListN.{length-map}
use Rattle.std.proofs.lemmas.List.{drop-append-le, take-append-drop}
use Rattle.field.specs.Laws.{Model}
use Rattle.variables.specs.Refusals.{Told}
use Rattle.account.specs.Rows.{Matrices}
use Rattle.account.specs.Calls.{written}
use Rattle.account.specs.Finish.{lacks}
use Rattle.account.specs.Refusals.{when, writing_refusal}
use Rattle.account.specs.Run.{by_refusal}
use Rattle.account.proofs.Refuses.{enough, first_none}
use Rattle.matrices.specs.Writing.{lent, placed, over, with_matrices}
use Rattle.calls.specs.Calls.{Beside}
use Rattle.calls.specs.Laws.{part_of, with_part}

-- what fits the first places of a table lies in the table as it does in them
over_part : {X : Type 0} (n : ℕ) (xs ys : List X) → length ys ≤ length (take n xs) → over (take n xs) ys ++ drop n xs ≡ over xs ys
over_part n xs ys h =
    append_assoc ys (drop (length ys) (take n xs)) (drop n xs)
    ∙ ap (λ l. ys ++ l) (sym (drop-append-le (length ys) (take n xs) (drop n xs) h) ∙ ap (drop (length ys)) (take-append-drop n xs))

-- what a run is lent beside the four tables, with matrices written into it
abbrev pub with_written : {V : Type 0} → Beside V → Option (Matrices V) → Beside V
with_written b o = record { work = b.work; written = with_matrices o b.written }

module _ {V : Type 0} (b : Beside V) (cells ends : ℕ) where
  -- the first places as they were
  pub part_same : with_part b cells ends (part_of b.written cells ends) ≡ b
  part_same =
      ap₂ (λ cs es. record { work = b.work; written = lent cs es }) (take-append-drop cells b.written.cells)
      (take-append-drop ends b.written.ends)

  -- the first places with matrices that fit them
  pub part_written : (o : Option (Matrices V)) → let t = part_of b.written cells ends in
      writing_refusal (length t.cells) (length t.ends) o ≡ None → with_part b cells ends (with_matrices o t) ≡ with_written b o
  part_written None e = part_same
  part_written (Some w) e =
      let t = part_of b.written cells ends in
      let fit = first_none (when (lacks (length w.cells) (length t.cells)) 19 ∷ when (lacks (length w.ends) (length t.ends)) 19 ∷ []) e in
      let enough_cells : length w.cells ≤ length t.cells = enough (length w.cells) (length t.cells) 19 fit.0 in
      let enough_ends : length w.ends ≤ length t.ends = enough (length w.ends) (length t.ends) 19 fit.1.0 in
      ap₂ (λ cs es. record { work = b.work; written = lent cs es })
      (over_part cells b.written.cells (map placed w.cells) (omega (arith, length-map w.cells placed)))
      (over_part ends b.written.ends w.ends enough_ends)

-- matrices that are answered as is due are those that are due
pub answered_is : {V : Type 0} (m : Model V) (p : Option Told) (o due : Option (Matrices V))
    → Ok (written o) ≡ by_refusal m p (written due) → o ≡ due
answered_is m None o due e = cc
answered_is m (Some r) o due e = absurd (let z : ◌≡◌ {A = ℕ} 0 1 = cc in omega arith)
