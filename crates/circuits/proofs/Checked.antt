-- What checks and questions answer is read off a work table that was filled. Assumes nothing.
use Rattle.std.proofs.Common.{◌≤◌, not, ◌&&◌, ◌≡◌, ℕ, true, false, cond, List, [], ◌∷◌, map, length, get_or, take, drop, Some, None, Ok, Option, sym, refl, ap, ap₂, ◌∙◌, append-nil, arith}
use lib.ListN.{length-map}
use Rattle.std.specs.List.{slice_get}
use Rattle.std.specs.Option.{is_none}
use Rattle.std.proofs.lemmas.Bool.{true≢false, le-ltb}
use Rattle.std.proofs.lemmas.List.{take_at}
use Rattle.std.proofs.lemmas.Option.{slice_get-get_or}
use Rattle.field.specs.Laws.{Model}
use Rattle.variables.specs.declared.LcIndex.{LcIndex}
use Rattle.variables.specs.declared.Variable.{Variable}
use Rattle.variables.specs.declared.Variable.TheVariants.{Zero, One, Instance, Witness, SymbolicLc}
use Rattle.variables.specs.Evaluate.{read}
use Rattle.account.specs.declared.Mark.{Mark}
use Rattle.account.specs.declared.Mark.TheVariants.{Plain, A, B, C}
use Rattle.account.specs.declared.SynthesisMode.{SynthesisMode}
use Rattle.account.specs.declared.SynthesisMode.TheVariants.{Setup, Prove}
use Rattle.account.specs.Given.{Given, marks, lists, KnownVariable}
use Rattle.account.specs.Rows.{rows}
use Rattle.account.specs.Evaluate.{filled, or_zero, failing}
use Rattle.account.specs.Finish.{lacks}
use Rattle.account.specs.Account.{Account, if_plain, values_of, failing_of, value_of}
use Rattle.account.specs.Refusals.{when, first, variable_refusal, check_refusal}
use Rattle.account.proofs.Finds.{filled_long, slice_there, some_is}
use Rattle.account.proofs.Refuses.{some_none, when_not, first_none, variables_refused}
use Rattle.account.proofs.Values.{value_read}
use Rattle.tables.specs.declared.Entry.{Entry}
use Rattle.tables.specs.Held.{State}
use Rattle.tables.specs.Sound.{given_in, entries_of, marks_of, given_of, account_of, sound}
use Rattle.tables.specs.Calls.{keeps_matrices, outcome, is_known_symbol, work_for, which_is_unsatisfied_tests, assigned_value_tests, work_of, checking, asking}
use Rattle.tables.proofs.Holds.{same_marks}
use Rattle.circuits.proofs.SoundParts.{entries_counted}

is_none_means : {X : Type 0} (o : Option X) → is_none o ≡ true → o ≡ None
is_none_means None e = refl
is_none_means (Some x) e = absurd (true≢false (sym e))

module _ {V : Type 0} (m : Model V) where
  module _ (s : State V) (work : List (Option V)) where
    abbrev x : Account V
    x = account_of s

    abbrev table : List (Option V)
    table = filled m x.instances.kept x.witnesses.kept (lists x.given)

    table_long : sound s ≡ true → length table ≡ s.counts.entries
    table_long h =
        omega (arith, filled_long m x.instances.kept x.witnesses.kept [] (lists x.given), length-map (given_of s) (λ (g : Given V). g.terms), length-map (entries_of s) (given_in s.tables.terms), entries_counted s h)

    -- the places that were filled
    front : sound s ≡ true → take s.counts.entries (work_of m s work) ≡ table
    unfolding work_of
    front h =
        take_at table (drop s.counts.entries work) s.counts.entries
        (table_long h)

    -- the rows that they hold are those that a check reads
    rows_read : sound s ≡ true → failing m (rows m.zero (marks_of s) (map (or_zero m) (take s.counts.entries (work_of m s work)))) ≡ failing m (values_of m x None)
    rows_read h = ap₂ (λ ms xs. failing m (rows m.zero ms (map (or_zero m) xs))) (same_marks s) (front h)

    mode_checked : (mode : SynthesisMode) → check_refusal mode x ≡ None → keeps_matrices mode ≡ true → failing m (values_of m x None) ≡ failing_of m mode x
    mode_checked Setup e k = absurd (some_none _ _ refl e)
    mode_checked (Prove true) e k = refl
    mode_checked (Prove false) e k = absurd (true≢false (sym k))

    -- an accepted check, where matrices are kept
    pub checked : first (which_is_unsatisfied_tests s (length work)) ≡ None → keeps_matrices s.counts.mode ≡ true → (entries : List Entry) → entries ≡ entries_of s
        → (out : List (Option V)) → out ≡ work_of m s work
        → (r : Option ℕ) → r ≡ failing m (rows m.zero (map (λ e. e.mark) entries) (map (or_zero m) (take s.counts.entries out)))
        → checking m s work ≡ record { answer = Ok r; state = out }
    checked e k entries es out ws r rs =
        let tests = first_none (which_is_unsatisfied_tests s (length work)) e in
        let answer : r ≡ failing_of m s.counts.mode x
        = rs ∙ ap₂ (λ es ws. failing m (rows m.zero (map (λ (e : Entry). e.mark) es) (map (or_zero m) (take s.counts.entries ws)))) es ws
        ∙ rows_read (when_not (sound s) 17 tests.0) ∙ mode_checked s.counts.mode tests.1.0 k in
        ap (λ o. outcome o (failing_of m s.counts.mode x) (work_of m s work) work) e ∙ ap₂ (λ a w. record { answer = Ok a; state = w }) (sym answer) (sym ws)

    module _ (j : LcIndex) where
      abbrev known : Type 0
      known = KnownVariable s.counts.instances s.counts.witnesses (marks x.given) (SymbolicLc j)

      symbol_known : is_known_symbol s (SymbolicLc j) ≡ true → known
      symbol_known e =
          (variables_refused s.counts.instances s.counts.witnesses (marks x.given) (SymbolicLc j)).known.0
          (ap (λ ms. variable_refusal s.counts.instances s.counts.witnesses ms (SymbolicLc j)) (sym (same_marks s)) ∙ is_none_means _ e)

      unknown_none : (o : Option Mark) → slice_get (marks x.given) j.0 ≡ o → is_known_symbol s (SymbolicLc j) ≡ false → if_plain m o (get_or table j.0 None) ≡ None
      unknown_none None e h = refl
      unknown_none (Some A) e h = refl
      unknown_none (Some B) e h = refl
      unknown_none (Some C) e h = refl
      unknown_none (Some Plain) e h =
          let lt = slice_there (marks x.given) j.0 (Plain, e) in
          let here : known = (lt, some_is _ _ (sym (slice_get-get_or (marks x.given) j.0 A lt) ∙ e)) in
          let none = (variables_refused s.counts.instances s.counts.witnesses (marks x.given) (SymbolicLc j)).known.1 here in
          absurd (true≢false (sym (ap is_none (ap (λ ms. variable_refusal s.counts.instances s.counts.witnesses ms (SymbolicLc j)) (same_marks s) ∙ none)) ∙ h))

    -- what is no known symbol has the value that is kept of it
    other_kept : (v : Variable) → is_known_symbol s v ≡ false → value_of m x v ≡ read m x.instances.kept x.witnesses.kept [] v
    other_kept Zero h = refl
    other_kept One h = refl
    other_kept (Instance i) h = refl
    other_kept (Witness i) h = ap (λ l. slice_get l i) (append-nil x.witnesses.kept)
    other_kept (SymbolicLc j) h = unknown_none j (slice_get (marks x.given) j.0) refl h

    -- an accepted question for anything else than a known symbol, ..
    pub asked_other : (v : Variable) → sound s ≡ true → is_known_symbol s v ≡ false
        → (instances witnesses : List V) → instances ≡ x.instances.kept → witnesses ≡ x.witnesses.kept
        → (r : Option V) → r ≡ read m instances witnesses [] v → asking m s v work ≡ record { answer = Ok r; state = work }
    asked_other v safe h instances witnesses i w r rs =
        let e : first (assigned_value_tests s (length work) v) ≡ None
        = ap₂ (λ a b. first (when (not a) 17 ∷ when (b && lacks s.counts.entries (length work)) 19 ∷ [])) safe h in
        let value : value_of m x v ≡ r = other_kept v h ∙ ap₂ (λ a b. read m a b [] v) (sym i) (sym w) ∙ sym rs in
        ap (λ o. outcome o (value_of m x v) (work_for m s v work) work) e
        ∙ ap₂ (λ a b. record { answer = Ok a; state = cond b (work_of m s work) work }) value h

    -- .. and for one
    known_symbol : (v : Variable) → is_known_symbol s v ≡ true → KnownVariable s.counts.instances s.counts.witnesses (marks x.given) v
    known_symbol Zero h = tt
    known_symbol One h = tt
    known_symbol (Instance i) h = absurd (true≢false (sym h))
    known_symbol (Witness i) h = absurd (true≢false (sym h))
    known_symbol (SymbolicLc j) h = symbol_known j h

    pub asked_known : (v : Variable) → sound s ≡ true → is_known_symbol s v ≡ true → s.counts.entries ≤ length work
        → (instances witnesses : List V) → instances ≡ x.instances.kept → witnesses ≡ x.witnesses.kept
        → (out : List (Option V)) → out ≡ work_of m s work
        → (r : Option V) → r ≡ read m instances witnesses (take s.counts.entries out) v → asking m s v work ≡ record { answer = Ok r; state = out }
    asked_known v safe h long instances witnesses i w out ws r rs =
        let e : first (assigned_value_tests s (length work) v) ≡ None
        = ap₂ (λ a b. first (when (not a) 17 ∷ when (b && lacks s.counts.entries (length work)) 19 ∷ [])) safe h
        ∙ ap (λ b. first (None ∷ when b 19 ∷ [])) (le-ltb (length work) s.counts.entries long) in
        let filled_part : take s.counts.entries out ≡ table = ap (take s.counts.entries) ws ∙ front safe in
        let value : value_of m x v ≡ r
        = value_read m x refl v (known_symbol v h) ∙ sym (rs ∙ ap₂ (λ a b. read m a b (take s.counts.entries out) v) i w ∙ ap (λ t. read m x.instances.kept x.witnesses.kept t v) filled_part) in
        ap (λ o. outcome o (value_of m x v) (work_for m s v work) work) e
        ∙ ap₂ (λ a b. record { answer = Ok a; state = cond b (work_of m s work) work }) value h ∙ ap (λ (l : List (Option V)). record { answer = Ok r; state = l }) (sym ws)
