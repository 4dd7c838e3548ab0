-- Writing follows the account that the tables show. Assumes nothing.
use Rattle.std.proofs.Common.{◌≡◌, ℕ, ◌+◌, ◌*◌, true, false, not, [], ◌∷◌, ◌++◌, length, Some, None, Ok, Option, sym, refl, ap, ◌∙◌, subst, ap₂, arith}
use Rattle.std.specs.Prelude.{drop}
use Rattle.std.specs.Option.{option_map}
use mathlib.Core.List.{map-append}
use lib.ListN.{length-map}
use Rattle.std.proofs.lemmas.List.{length-drop}
use Rattle.field.specs.Laws.{Model}
use Rattle.variables.specs.declared.Variable.TheVariants.{Zero}
use Rattle.variables.specs.Refusals.{Told}
use Rattle.account.specs.declared.SynthesisMode.{SynthesisMode}
use Rattle.account.specs.declared.SynthesisMode.TheVariants.{Setup, Prove}
use Rattle.account.specs.Given.{Given, marks}
use Rattle.account.specs.Rows.{rows, row_marks, Matrices, matrices}
use Rattle.account.specs.Account.{Finished, Account, KeepsMatrices, added_count, added_given, rows_of, matrices_in, matrices_of}
use Rattle.account.specs.Calls.{Answer, to_matrices, assigned, written}
use Rattle.account.specs.Refusals.{when, first, writing_refusal, unsound, refusal}
use Rattle.account.specs.Run.{by_refusal}
use Rattle.account.proofs.SoundLists.{row_marks_long, beside_marks}
use Rattle.tables.specs.Held.{State, lengths}
use Rattle.tables.specs.Sound.{given_in, entries_of, marks_of, given_of}
use Rattle.tables.specs.Follows.{answer_as}
use Rattle.tables.specs.Calls.{outcome}
use Rattle.tables.proofs.Holds.{many_given, same_marks}
use Rattle.finishing.specs.Sound.{finished_in, finished_of}
use Rattle.finishing.specs.Sound as here
use Rattle.finishing.specs.Checks.{unless_refused, unsound_finished}
use Rattle.finishing.specs.Follows.{ShowsFinished}
use Rattle.finishing.proofs.SoundWhen.{sound_finished_when}
use Rattle.finishing.proofs.AccountCalls.{finished_follow}
use Rattle.matrices.specs.Writing.{Lent, counts_of, written_in, with_matrices, matrices_at, to_matrices_tests}
use Rattle.matrices.specs.Laws.{as_written, WritingFollows}
use Rattle.matrices.proofs.WrittenBack.{option_back}

module _ {V : Type 0} (m : Model V) where
  -- what is answered was not refused by its first test
  not_refused : (o : Option Told) (a b : Answer V) → Ok a ≡ by_refusal m (first (o ∷ None ∷ [])) b → o ≡ None
  not_refused None a b e = refl
  not_refused (Some r) a b e = absurd (let z : ◌≡◌ {A = ℕ} 0 1 = cc in omega arith)

  -- a writing that is refused as is due, and else answered by what is read in the lent tables
  due_as : (o p : Option Told) (given due : Option (Matrices V)) (t : Lent V) → o ≡ p
      → option_map (written_in (with_matrices given t)) (option_map counts_of given) ≡ due
      → let u = outcome o (option_map counts_of given) (with_matrices given t) t in answer_as (as_written u.state) u.answer ≡ by_refusal m p (written due)
  due_as None p given due t e h = ap₂ (λ q a. by_refusal m q (written a)) e h
  due_as (Some r) p given due t e h = ap (λ q. by_refusal m q (written due)) e

  module _ (s : State V) (x : Account V) (done : Finished V) (finished : x.finished ≡ Some done) (shows : ShowsFinished s x done) where
    added : added_count x.finished ≡ length done.combinations
    added = ap added_count finished

    -- the tables are not refused by 17, nor is the account, since a question about Zero is answered as is due by it
    tables_sound : unsound_finished s ≡ None
    tables_sound = ap (λ b. when (not b) 17) ((sound_finished_when s).1 shows.sound)

    account_sound : unsound (lengths s.tables) x ≡ None
    account_sound =
        let zero = assigned (Some m.zero) in
        not_refused (unsound (lengths s.tables) x) zero zero
        (ap (λ o. answer_as assigned (unless_refused (first (o ∷ [])) (Some m.zero))) (sym tables_sound)
        ∙ (finished_follow m).assigned_value s 0 Zero x done finished shows)

    -- where matrices are kept the tables hold the account's rows
    module _ (kept : KeepsMatrices x.mode) where
      lists_long : length done.lists ≡ length x.given + 3 * length done.combinations
      lists_long =
          let as_finished : length (finished_of s) ≡ length (entries_of s) = length-map (entries_of s) (finished_in s.tables.terms) in
          let as_given : length (given_of s) ≡ length (entries_of s) = length-map (entries_of s) (given_in s.tables.terms) in
          omega (arith, ap length (shows.finished kept), as_finished, as_given, many_given s shows.sound.given.entries, shows.entries, added)

      marks_same : marks_of s ≡ marks x.given ++ row_marks done.combinations
      marks_same =
          let ms = row_marks done.combinations in
          let ls = drop (length x.given) done.lists in
          let long : length ls ≡ length ms = omega (arith, length-drop (length x.given) done.lists, lists_long, row_marks_long done.combinations) in
          same_marks s ∙ ap marks shows.given ∙ ap (λ o. marks (x.given ++ added_given (length x.given) o)) finished
          ∙ map-append (λ (g : Given V). g.mark) x.given (added_given (length x.given) (Some done))
          ∙ ap (λ r. marks x.given ++ r) (beside_marks ms ls long)

      rows_same : here.rows_of s ≡ rows_of x done
      rows_same = ap₂ (λ ms ls. rows [] ms ls) marks_same (shows.finished kept)

      -- and so its matrices are theirs
      matrices_same : matrices m s.counts.instances s.counts.witnesses (here.rows_of s)
          ≡ matrices m x.instances.count (x.witnesses.count + length done.combinations) (rows_of x done)
      matrices_same =
          ap (λ rs. matrices m s.counts.instances s.counts.witnesses rs) rows_same
          ∙ ap₂ (λ n w. matrices m n w (rows_of x done)) shows.instance_count (shows.witnesses_counted ∙ ap (λ k. x.witnesses.count + k) added)

    by_mode : (mode : SynthesisMode) → x.mode ≡ mode → matrices_at m s mode ≡ matrices_in m mode x done
    by_mode Setup e = ap Some (matrices_same (subst KeepsMatrices (sym e) tt))
    by_mode (Prove true) e = ap Some (matrices_same (subst KeepsMatrices (sym e) tt))
    by_mode (Prove false) e = refl

    given_same : matrices_at m s s.counts.mode ≡ matrices_of m x x.finished
    given_same = ap (matrices_at m s) shows.mode ∙ by_mode x.mode refl ∙ ap (matrices_of m x) (sym finished)

    refused_same : (cells ends : ℕ) → first (to_matrices_tests m s cells ends) ≡ refusal m (lengths s.tables) x (to_matrices cells ends)
    refused_same cells ends =
        ap₂ (λ o w. first (o ∷ writing_refusal cells ends w ∷ [])) tables_sound given_same
        ∙ ap (λ o. first (o ∷ writing_refusal cells ends (matrices_of m x x.finished) ∷ [])) (sym account_sound)

  pub writing_follows : WritingFollows m
  writing_follows s t x done finished shows =
      let cells = length t.cells in
      let ends = length t.ends in
      due_as (first (to_matrices_tests m s cells ends)) (refusal m (lengths s.tables) x (to_matrices cells ends))
      (matrices_at m s s.counts.mode) (matrices_of m x x.finished) t
      (refused_same s x done finished shows cells ends) (option_back m s t s.counts.mode ∙ given_same s x done finished shows)
