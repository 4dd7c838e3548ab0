-- Checks and questions of a finished circuit follow the account that the tables show. Assumes nothing.
use Rattle.std.proofs.Common.{◌≡◌, ℕ, ◌+◌, ◌*◌, true, false, not, eqb, List, [], ◌∷◌, ◌++◌, map, length, Some, None, Option, sym, refl, ap, ◌∙◌, subst, ap₂, arith}
use Rattle.std.specs.Prelude.{drop}
use Rattle.std.specs.List.{slice_get, zip}
use mathlib.Core.List.{map-append, map-map}
use lib.ListN.{length-map}
use Rattle.std.proofs.lemmas.List.{length-drop}
use Rattle.std.proofs.lemmas.Slice.Zip.{firsts-zip}
use Rattle.field.specs.Laws.{Model}
use Rattle.variables.specs.declared.Variable.{Variable}
use Rattle.variables.specs.declared.Variable.TheVariants.{Zero, One, Instance, Witness, SymbolicLc}
use Rattle.variables.specs.declared.Term.{Term}
use Rattle.variables.specs.Evaluate.{read, evaluated}
use Rattle.variables.specs.Refusals.{Told}
use Rattle.account.specs.declared.Mark.{Mark}
use Rattle.account.specs.declared.SynthesisMode.{SynthesisMode}
use Rattle.account.specs.declared.SynthesisMode.TheVariants.{Setup, Prove}
use Rattle.account.specs.Given.{Given, marks, marked}
use Rattle.account.specs.Rows.{each, rows, row_marks}
use Rattle.account.specs.Evaluate.{or_zero, failing}
use Rattle.account.specs.Account.{Finished, Account, KeepsMatrices, KeepsValues, added_kept, added_count, added_given, rows_of, values_of, failing_of, symbol_value, value_of}
use Rattle.account.specs.Calls.{Answer, which_is_unsatisfied, assigned_value, unsatisfied, assigned}
use Rattle.account.specs.Conditions.{Fits}
use Rattle.account.specs.Refusals.{when, first, if_known, variable_refusal, check_refusal, work_refusal, question_refusal, refusal}
use Rattle.account.specs.Refusals as account
use Rattle.account.specs.Run.{by_refusal}
use Rattle.account.proofs.Accepts.{unsound_iff}
use Rattle.account.proofs.SoundLists.{row_marks_long}
use Rattle.tables.specs.Held.{State, lengths}
use Rattle.tables.specs.Sound.{given_in, entries_of, marks_of, given_of, account_of}
use Rattle.tables.specs.Follows.{answer_as}
use Rattle.tables.proofs.Holds.{many_given, same_marks}
use Rattle.finishing.specs.Sound.{finished_in, finished_of, instances_of, witnesses_of}
use Rattle.finishing.specs.Sound as here
use Rattle.finishing.specs.Checks.{unless_refused, unsound_finished, check_tests, question_tests, value_at, row_values, failing_row}
use Rattle.finishing.specs.Follows.{ShowsFinished}
use Rattle.finishing.specs.Laws.{FinishedFollow}
use Rattle.finishing.proofs.SoundWhen.{sound_finished_when}

-- a test that does not refuse changes nothing
known_none : (u : Option ℕ) → if_known u None ≡ None
known_none None = refl
known_none (Some number) = refl

then_none : (o : Option Told) → first (o ∷ []) ≡ first (o ∷ None ∷ [])
then_none None = refl
then_none (Some r) = refl

module _ {V : Type 0} where
  -- lists with their marks
  marks_beside : (ms : List Mark) (ls : List (List (Term V))) → length ls ≡ length ms → marks (map (λ e. marked e.0 e.1) (zip ms ls)) ≡ ms
  marks_beside ms ls e = map-map (λ (g : Given V). g.mark) (λ e. marked e.0 e.1) (zip ms ls) ∙ firsts-zip ms ls e

  -- a call that is refused as is due, and else answered so
  due_as : {X : Type 0} (m : Model V) (f : X → Answer V) (o p : Option Told) (a b : X) → o ≡ p → a ≡ b
      → answer_as f (unless_refused o a) ≡ by_refusal m p (f b)
  due_as m f None p a b e h = ap₂ (λ q x. by_refusal m q (f x)) e h
  due_as m f (Some r) p a b e h = ap (λ q. by_refusal m q (f b)) e

  module _ (m : Model V) (s : State V) (x : Account V) (done : Finished V) (finished : x.finished ≡ Some done) (shows : ShowsFinished s x done) where
    added : added_count x.finished ≡ length done.combinations
    added = ap added_count finished

    -- neither is refused by 17
    tables_sound : unsound_finished s ≡ None
    tables_sound = ap (λ b. when (not b) 17) ((sound_finished_when s).1 shows.sound)

    account_fits : Fits (lengths s.tables) x
    account_fits =
        let sound = shows.sound.given in
        record {
          terms = omega (arith, shows.terms, sound.terms);
          entries = omega (arith, shows.entries, sound.entries);
          first = λ k. sound.first (λ v. k (subst KeepsValues shows.mode v));
          instances = λ k. omega (arith, shows.instance_count, sound.instances (subst KeepsValues (sym shows.mode) k));
          witnesses = λ k. omega (arith, shows.witnesses_counted, sound.witnesses (subst KeepsValues (sym shows.mode) k));
        }

    account_sound : account.unsound (lengths s.tables) x ≡ None
    account_sound = (unsound_iff (lengths s.tables) x).1 account_fits

    -- in bare mode the constraints are those that were counted before, and nothing was added
    bare_constraints : (KeepsMatrices x.mode → ⊥) → s.counts.constraints ≡ x.constraints
    bare_constraints k = omega (arith, shows.constraints, added, ap (λ (d : Finished V). length d.combinations) (shows.bare k))

    check_same : (mode : SynthesisMode) → x.mode ≡ mode → check_refusal mode (account_of s) ≡ check_refusal mode x
    check_same Setup e = refl
    check_same (Prove true) e = refl
    check_same (Prove false) e = ap (λ c. when (not (eqb c 0)) 18) (bare_constraints (λ k. subst KeepsMatrices e k))

    no_work : (work : ℕ) → work_refusal x.finished work x ≡ None
    no_work work = ap (λ o. work_refusal o work x) finished

    check_refused : (work : ℕ) → first (check_tests s) ≡ refusal m (lengths s.tables) x (which_is_unsatisfied work)
    check_refused work =
        let check : check_refusal s.counts.mode (account_of s) ≡ check_refusal x.mode x
        = ap (λ mode. check_refusal mode (account_of s)) shows.mode ∙ check_same x.mode refl in
        ap₂ (λ o p. first (o ∷ p ∷ [])) tables_sound check ∙ then_none (check_refusal x.mode x)
        ∙ sym (ap₂ (λ o p. first (o ∷ check_refusal x.mode x ∷ p ∷ [])) account_sound (no_work work))

    question_free : (work : ℕ) (v : Variable) → question_refusal work x v ≡ None
    question_free work Zero = refl
    question_free work One = refl
    question_free work (Instance i) = refl
    question_free work (Witness i) = refl
    question_free work (SymbolicLc k) =
        let u = variable_refusal x.instances.count x.witnesses.count (marks x.given) (SymbolicLc k) in
        ap (if_known u) (no_work work) ∙ known_none u

    question_refused : (work : ℕ) (v : Variable) → first (question_tests s) ≡ refusal m (lengths s.tables) x (assigned_value work v)
    question_refused work v = ap (λ o. first (o ∷ [])) tables_sound ∙ sym (ap₂ (λ o p. first (o ∷ p ∷ [])) account_sound (question_free work v))

    -- where matrices are kept the tables hold the account's rows
    module _ (kept : KeepsMatrices x.mode) where
      lists_long : length done.lists ≡ length x.given + 3 * length done.combinations
      lists_long =
          let as_finished : length (finished_of s) ≡ length (entries_of s) = length-map (entries_of s) (finished_in s.tables.terms) in
          let as_given : length (given_of s) ≡ length (entries_of s) = length-map (entries_of s) (given_in s.tables.terms) in
          omega (arith, ap length (shows.finished kept), as_finished, as_given, many_given s shows.sound.given.entries, shows.entries, added)

      marks_same : marks_of s ≡ marks x.given ++ row_marks done.combinations
      marks_same =
          let ms = row_marks done.combinations in
          let ls = drop (length x.given) done.lists in
          let long : length ls ≡ length ms = omega (arith, length-drop (length x.given) done.lists, lists_long, row_marks_long done.combinations) in
          same_marks s ∙ ap marks shows.given ∙ ap (λ o. marks (x.given ++ added_given (length x.given) o)) finished
          ∙ map-append (λ (g : Given V). g.mark) x.given (added_given (length x.given) (Some done))
          ∙ ap (λ r. marks x.given ++ r) (marks_beside ms ls long)

      rows_same : here.rows_of s ≡ rows_of x done
      rows_same = ap₂ (λ ms ls. rows [] ms ls) marks_same (shows.finished kept)

      values_same : row_values m s ≡ values_of m x x.finished
      values_same =
          ap (map (each (λ ts. or_zero m (evaluated m (value_at m s) ts)))) rows_same
          ∙ ap₂ (λ is ws. map (each (λ ts. or_zero m (evaluated m (read m is ws []) ts))) (rows_of x done)) shows.instances shows.witnesses
          ∙ ap (values_of m x) (sym finished)

    fails_same : (mode : SynthesisMode) → x.mode ≡ mode → failing_row m s mode ≡ failing_of m mode x
    fails_same Setup e = refl
    fails_same (Prove true) e = ap (failing m) (values_same (subst KeepsMatrices (sym e) tt))
    fails_same (Prove false) e = refl

    value_same : (v : Variable) → value_at m s v ≡ value_of m x v
    value_same Zero = refl
    value_same One = refl
    value_same (Instance i) = ap (λ l. slice_get l i) shows.instances
    value_same (Witness i) = ap (λ l. slice_get l i) (shows.witnesses ∙ ap (λ o. x.witnesses.kept ++ added_kept o) (sym finished))
    value_same (SymbolicLc k) = ap (λ o. symbol_value m o x k.0) (sym finished)

module _ {V : Type 0} (m : Model V) where
  pub finished_follow : FinishedFollow m
  finished_follow = record {
    which_is_unsatisfied = λ s work x done finished shows.
        due_as m unsatisfied (first (check_tests s)) (refusal m (lengths s.tables) x (which_is_unsatisfied work))
        (failing_row m s s.counts.mode) (failing_of m x.mode x)
        (check_refused m s x done finished shows work) (ap (failing_row m s) shows.mode ∙ fails_same m s x done finished shows x.mode refl);
    assigned_value = λ s work v x done finished shows.
        due_as m assigned (first (question_tests s)) (refusal m (lengths s.tables) x (assigned_value work v)) (value_at m s v) (value_of m x v)
        (question_refused m s x done finished shows work v) (value_same m s x done finished shows v);
  }
