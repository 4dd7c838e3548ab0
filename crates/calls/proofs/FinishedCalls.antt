-- Each call of a finished circuit goes by the account. Assumes nothing.
use Rattle.std.proofs.Common.{◌≡◌, ℕ, not, [], ◌∷◌, length, Some, None, Ok, Err, Option, sym, refl, ap, ◌∙◌, ap₂}
use Rattle.std.specs.Prelude.{min}
use Rattle.std.specs.Option.{option_map}
use Rattle.std.proofs.lemmas.List.{length-take}
use Rattle.field.specs.Laws.{Model}
use Rattle.variables.specs.Refusals.{Told}
use Rattle.account.specs.Account.{Account, matrices_of}
use Rattle.account.specs.Calls.{effect_of, which_is_unsatisfied, assigned_value, to_matrices, unsatisfied, assigned, written}
use Rattle.account.specs.Refusals.{first, refusal}
use Rattle.account.specs.Run.{due}
use Rattle.account.proofs.Refuses.{first_none}
use Rattle.tables.specs.Held.{State, lengths}
use Rattle.tables.specs.Calls.{outcome}
use Rattle.tables.specs.Follows.{answer_as}
use Rattle.finishing.specs.Checks.{checking, asking}
use Rattle.finishing.proofs.AccountCalls.{finished_follow}
use Rattle.matrices.specs.Writing.{counts_of, with_matrices, matrices_at, to_matrices_tests}
use Rattle.matrices.specs.Laws.{as_written}
use Rattle.matrices.proofs.WrittenBack.{option_back}
use Rattle.matrices.proofs.Follows.{writing_follows}
use Rattle.calls.specs.Calls.{Beside}
use Rattle.calls.specs.Standing.{Stands}
use Rattle.calls.specs.Runs.{Runs}
use Rattle.calls.specs.Laws.{when_finished, part_of, with_part, FinishedCallsGo}
use Rattle.calls.proofs.FinishedOne.{finished_as, none_written, beside_same, beside_written, runs_one, runs_none, not_built}
use Rattle.calls.proofs.WritesWhole.{with_written, part_same, part_written, answered_is}

module _ {V : Type 0} (m : Model V) where
  module _ (s : State V) (b : Beside V) (x : Account V) (stands : Stands (when_finished s b) x) where
    -- a writing into the first places goes by the account, refused or not
    writing_goes : (o : Option Told) (cells ends i j : ℕ)
        → let k = lengths s.tables in
        let call = to_matrices i j in
        let t = part_of b.written cells ends in
        let w = matrices_at m s s.counts.mode in
        let u = outcome o (option_map counts_of w) (with_matrices w t) t in
        let left = with_part b cells ends u.state in
        first (to_matrices_tests m s (length t.cells) (length t.ends)) ≡ o → answer_as (as_written u.state) u.answer ≡ due m k x call
        → Runs m k x (when_finished s b) (call ∷ []) (Some (answer_as (as_written left.written) u.answer) ∷ []) (when_finished s left)
    writing_goes None cells ends i j e follows =
        let d = finished_as x.finished stands.phase in
        let t = part_of b.written cells ends in
        let mode = s.counts.mode in
        let w = matrices_at m s mode in
        let counts = option_map counts_of w in
        let left = with_part b cells ends (with_matrices w t) in
        let fit = first_none (to_matrices_tests m s (length t.cells) (length t.ends)) e in
        let whole : left ≡ with_written b w = part_written b cells ends w fit.1.0 in
        let read : as_written left.written counts ≡ written w
        = ap (λ (l : Beside V). as_written l.written counts) whole ∙ ap written (option_back m s b.written mode) in
        let read_part : as_written (with_matrices w t) counts ≡ written w = ap written (option_back m s t mode) in
        let same : w ≡ matrices_of m x x.finished
        = answered_is m (refusal m (lengths s.tables) x (to_matrices i j)) w (matrices_of m x x.finished) (ap Ok (sym read_part) ∙ follows) in
        runs_one m s x b left stands (to_matrices i j) (Ok (as_written left.written counts)) (ap not (sym stands.phase)) refl
        (ap Ok (read ∙ sym read_part) ∙ follows)
        (whole ∙ ap (with_written b) same ∙ beside_written m x d.0 d.1 b i j (as_written left.written counts))
    writing_goes (Some r) cells ends i j e follows =
        let d = finished_as x.finished stands.phase in
        let left = with_part b cells ends (part_of b.written cells ends) in
        runs_one m s x b left stands (to_matrices i j) (Err r) (ap not (sym stands.phase)) refl follows
        (part_same b cells ends ∙ beside_same m x d.0 d.1 b (to_matrices i j) (Err r) refl)

  pub finished_calls_go : FinishedCallsGo m
  finished_calls_go = record {
    which_is_unsatisfied = λ s b work x stands.
        let d = finished_as x.finished stands.phase in
        let a = answer_as unsatisfied (checking m s) in
        let call = which_is_unsatisfied work in
        runs_one m s x b b stands call a refl refl ((finished_follow m).which_is_unsatisfied s work x d.0 d.1 (stands.shows.1 d.0 d.1))
        (beside_same m x d.0 d.1 b call a (none_written a));
    assigned_value = λ s b work v x stands.
        let d = finished_as x.finished stands.phase in
        let a = answer_as assigned (asking m s v) in
        let call = assigned_value work v in
        runs_one m s x b b stands call a refl refl ((finished_follow m).assigned_value s work v x d.0 d.1 (stands.shows.1 d.0 d.1))
        (beside_same m x d.0 d.1 b call a (none_written a));
    to_matrices = λ s b cells ends x stands.
        let d = finished_as x.finished stands.phase in
        let t = part_of b.written cells ends in
        writing_goes s b x stands (first (to_matrices_tests m s (length t.cells) (length t.ends))) cells ends
        (min cells (length b.written.cells)) (min ends (length b.written.ends)) refl
        (writing_follows m s t x d.0 d.1 (stands.shows.1 d.0 d.1)
        ∙ ap₂ (λ i j. due m (lengths s.tables) x (to_matrices i j)) (length-take cells b.written.cells) (length-take ends b.written.ends));
    others = λ s b call h x stands. runs_none m s x b b stands call (not_built m s x b b stands (effect_of call) h) refl;
  }
