-- Checks and questions on sound tables follow the account that the tables show. Assumes nothing.
use Rattle.std.proofs.Common.{◌≡◌, ℕ, Bool, ◌&&◌, List, [], ◌∷◌, length, Some, None, Option, sym, refl, ap₂, ◌∙◌}
use Rattle.std.specs.Option.{is_none}
use Rattle.field.specs.Laws.{Model}
use Rattle.variables.specs.declared.Variable.{Variable}
use Rattle.variables.specs.declared.Variable.TheVariants.{Zero, One, Instance, Witness, SymbolicLc}
use Rattle.account.specs.Finish.{lacks}
use Rattle.account.specs.Account.{Account, failing_of, value_of}
use Rattle.account.specs.Calls.{which_is_unsatisfied, assigned_value, unsatisfied, assigned}
use Rattle.account.specs.Refusals.{when, first, if_known, variable_refusal, check_refusal, question_refusal, refusal}
use Rattle.account.specs.Refusals as account
use Rattle.tables.specs.Held.{State, lengths}
use Rattle.tables.specs.Sound.{marks_of, account_of}
use Rattle.tables.specs.Calls.{unsound, is_known_symbol, which_is_unsatisfied_tests, assigned_value_tests, work_of, work_for, checking, asking}
use Rattle.tables.specs.Follows.{Shows, answer_as, Follows}
use Rattle.tables.proofs.Holds.{reads}
use Rattle.tables.proofs.Fitting.{tables_sound, account_sound}
use Rattle.tables.proofs.Dues.{outcome_follows}

-- a test that is made where nothing is unknown
asked_if_known : (u : Option ℕ) (b : Bool) → when (is_none u && b) 19 ≡ if_known u (when b 19)
asked_if_known None b = refl
asked_if_known (Some number) b = refl

module _ {V : Type 0} (m : Model V) (s : State V) where
  abbrev x : Account V
  x = account_of s

  module _ (shows : Shows s x) where
    unsound_same : unsound s ≡ account.unsound (lengths s.tables) x
    unsound_same = tables_sound s shows ∙ sym (account_sound s shows)

    check_refused : (work : ℕ) → first (which_is_unsatisfied_tests s work) ≡ refusal m (lengths s.tables) x (which_is_unsatisfied work)
    check_refused work = ap₂ (λ o entries. first (o ∷ check_refusal s.counts.mode x ∷ when (lacks entries work) 19 ∷ [])) unsound_same (reads s shows).entries

    question_tested : (work : ℕ) (v : Variable) → when (is_known_symbol s v && lacks s.counts.entries work) 19 ≡ question_refusal work x v
    question_tested work Zero = refl
    question_tested work One = refl
    question_tested work (Instance i) = refl
    question_tested work (Witness i) = refl
    question_tested work (SymbolicLc j) =
        let r = reads s shows in
        asked_if_known (variable_refusal s.counts.instances s.counts.witnesses (marks_of s) (SymbolicLc j)) (lacks s.counts.entries work)
        ∙ ap₂ (λ ms entries. if_known (variable_refusal s.counts.instances s.counts.witnesses ms (SymbolicLc j)) (when (lacks entries work) 19)) r.marks r.entries

    question_refused : (work : ℕ) (v : Variable) → first (assigned_value_tests s work v) ≡ refusal m (lengths s.tables) x (assigned_value work v)
    question_refused work v = ap₂ (λ o test. first (o ∷ test ∷ [])) unsound_same (question_tested work v)

  pub checks_follow : (work : List (Option V)) → Follows m (which_is_unsatisfied (length work)) (answer_as unsatisfied (checking m s work).answer) s s
  checks_follow work =
      outcome_follows m (which_is_unsatisfied (length work)) unsatisfied (λ _. s) (first (which_is_unsatisfied_tests s (length work))) (failing_of m s.counts.mode x) (work_of m s work) work
      (λ shows. check_refused shows (length work)) (λ shows. refl) (λ shows e. shows)

  pub questions_follow : (v : Variable) (work : List (Option V)) → Follows m (assigned_value (length work) v) (answer_as assigned (asking m s v work).answer) s s
  questions_follow v work =
      outcome_follows m (assigned_value (length work) v) assigned (λ _. s) (first (assigned_value_tests s (length work) v)) (value_of m x v) (work_for m s v work) work
      (λ shows. question_refused shows (length work) v) (λ shows. refl) (λ shows e. shows)
