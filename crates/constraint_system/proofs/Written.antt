-- What follows from what a writing answers and leaves. Assumes nothing.
use Rattle.std.proofs.Common.{◌≡◌, length, Option, Result, IfOk, refl, subst}
use Rattle.std.specs.Option.{option_map}
use Rattle.field.specs.Laws.{Model, Keeps}
use Rattle.variables.specs.declared.Refusal.{Refusal}
use Rattle.variables.specs.Refusals.{answered}
use Rattle.account.specs.Calls.{to_matrices}
use Rattle.account.specs.Refusals.{first}
use Rattle.tables.specs.Held.{State}
use Rattle.tables.specs.Calls.{Outcome}
use Rattle.tables.specs.Follows.{answer_by, answer_as}
use Rattle.finishing.specs.Follows.{FollowsFinished}
use Rattle.matrices.specs.declared.ConstraintMatrices.{ConstraintMatrices}
use Rattle.matrices.specs.Writing.{Lent, counts_of, with_matrices, matrices_at, to_matrices_tests, writing}
use Rattle.matrices.specs.Laws.{as_written, Writes}
use Rattle.matrices.proofs.Rows.{writes_rows}
use Rattle.matrices.proofs.Follows.{writing_follows}
use Rattle.constraint_system.proofs.Outcomes.{when_done, follows_answered}

module _ {V : Type 0} {m : Model V} (keeps : Keeps m) (s : State V) (t u : Lent V) (r : Result (Option ConstraintMatrices) Refusal)
    (is : writing m s t ≡ record { answer = answered r; state = u }) where
  -- an answer says that the matrices of the rows lie in the tables that are left
  pub written_well : IfOk r (λ answer. Writes m s u answer)
  written_well =
      let written = matrices_at m s s.counts.mode in
      when_done (first (to_matrices_tests m s (length t.cells) (length t.ends))) (option_map counts_of written) (with_matrices written t) t r u
      (λ answer left. Writes m s left answer) (writes_rows keeps s t) is

  -- it is the answer that is due by the account
  pub written_as_due : FollowsFinished m (to_matrices (length t.cells) (length t.ends)) (answer_by (as_written u) r) s
  written_as_due =
      let call = to_matrices (length t.cells) (length t.ends) in
      follows_answered m call (as_written u) (answered r) r s refl
      (subst (λ (o : Outcome (Lent V) (Option ConstraintMatrices)). FollowsFinished m call (answer_as (as_written o.state) o.answer) s) is
      (writing_follows m s t))
