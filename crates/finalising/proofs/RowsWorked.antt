-- An accepted check of a finished circuit works out its rows. Assumes nothing.
use Rattle.std.proofs.Common.{◌≡◌, ℕ, true, false, cond, List, [], map, length, None, Ok, Option, sym, refl, ap, ap₂, ◌∙◌}
use Rattle.std.specs.List.{list_all}
use Rattle.std.proofs.lemmas.Bool.{and_parts, true≢false}
use Rattle.field.specs.Laws.{Model}
use Rattle.variables.specs.Evaluate.{read, evaluated}
use Rattle.account.specs.declared.SynthesisMode.{SynthesisMode}
use Rattle.account.specs.declared.SynthesisMode.TheVariants.{Setup, Prove}
use Rattle.account.specs.Rows.{rows, each}
use Rattle.account.specs.Evaluate.{or_zero, failing}
use Rattle.account.specs.Refusals.{first, check_refusal}
use Rattle.account.proofs.Refuses.{some_none, when_not, first_none}
use Rattle.tables.specs.declared.Entry.{Entry}
use Rattle.tables.specs.Held.{State}
use Rattle.tables.specs.Sound.{entries_of, account_of, sound}
use Rattle.tables.specs.Calls.{keeps_matrices}
use Rattle.finishing.specs.Sound.{finished_in, finished_fits, lists_finished, instances_of, witnesses_of, sound_finished}
use Rattle.finishing.specs.Checks.{unless_refused, check_tests, row_values, failing_row, checking}
use Rattle.finalising.proofs.Lies.{finished_wider, terms_there}

module _ {V : Type 0} (s : State V) where
  -- where matrices are kept, the finished lists of sound tables lie in the term table
  pub finished_lie : sound_finished s ≡ true → keeps_matrices s.counts.mode ≡ true
      → list_all (finished_fits (length s.tables.terms)) (entries_of s) ≡ true
  unfolding sound_finished
  finished_lie e k =
      let parts = and_parts (sound s) _ e in
      let lists : lists_finished s ≡ true = ap (λ b. cond b (lists_finished s) true) (sym k) ∙ parts.1 in
      finished_wider s.counts.terms _ (entries_of s) (terms_there s parts.0)
      (and_parts (list_all (finished_fits s.counts.terms) (entries_of s)) _ lists).0

  pub check_sound : first (check_tests s) ≡ None → sound_finished s ≡ true
  check_sound e = when_not (sound_finished s) 17 (first_none (check_tests s) e).0

  module _ (m : Model V) where
    mode_checked : (mode : SynthesisMode) → check_refusal mode (account_of s) ≡ None → keeps_matrices mode ≡ true
        → failing_row m s mode ≡ failing m (row_values m s)
    mode_checked Setup e k = absurd (some_none _ _ refl e)
    mode_checked (Prove true) e k = refl
    mode_checked (Prove false) e k = absurd (true≢false (sym k))

    -- what the rows are worked out to, by the entries and the values
    abbrev found : List Entry → (instances witnesses : List V) → Option ℕ
    found es i w =
        failing m
        (map (each (λ ts. or_zero m (evaluated m (read m i w []) ts))) (rows [] (map (λ e. e.mark) es) (map (finished_in s.tables.terms) es)))

    pub rows_checked : first (check_tests s) ≡ None → keeps_matrices s.counts.mode ≡ true → (es : List Entry) → es ≡ entries_of s
        → (i w : List V) → i ≡ instances_of s → w ≡ witnesses_of s → (r : Option ℕ) → r ≡ found es i w → checking m s ≡ Ok r
    rows_checked e k es same i w instances witnesses r rs =
        let values : r ≡ failing_row m s s.counts.mode
        = rs ∙ ap₂ (found es) instances witnesses ∙ ap (λ l. found l (instances_of s) (witnesses_of s)) same
        ∙ sym (mode_checked s.counts.mode (first_none (check_tests s) e).1.0 k) in
        ap (λ o. unless_refused o (failing_row m s s.counts.mode)) e ∙ ap Ok (sym values)
