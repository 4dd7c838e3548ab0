-- Each refusal has its cause. Assumes nothing.
use Rattle.std.proofs.Common.{◌≡◌, ℕ, ◌<◌, Bool, true, false, not, eqb, ◌≢◌, List, [], ◌∷◌, length, Some, None, Ok, Err, Option, Result, sym, refl, ap, ◌∙◌, subst, ⊎_elim, arith}
use Rattle.std.proofs.lemmas.Bool.{ltb-true, eq-eqb, true≢false}
use lib.ListN.{length-map}
use Rattle.std.specs.Result.{result_err}
use Rattle.field.specs.Laws.{Model}
use Rattle.variables.specs.declared.Variable.{Variable}
use Rattle.variables.specs.declared.Variable.TheVariants.{Zero, One, Instance, Witness, SymbolicLc}
use Rattle.variables.specs.declared.Term.{Term}
use Rattle.variables.specs.Refusals.{Told, error_number, number_alone, number_at}
use Rattle.account.specs.declared.SynthesisMode.{SynthesisMode}
use Rattle.account.specs.declared.SynthesisMode.TheVariants.{Setup, Prove}
use Rattle.variables.specs.declared.SynthesisError.{SynthesisError}
use Rattle.account.specs.Given.{Given, marks, lists}
use Rattle.account.specs.Finish.{Stage, places, lacks}
use Rattle.account.specs.Rows.{Matrices}
use Rattle.account.specs.Account.{Finished, Account, KeepsMatrices, KeepsValues, fresh, KnownAt, rule_of, matrices_of}
use Rattle.account.specs.Calls.{Call, set_mode, set_optimization_goal, new_input_variable, new_witness_variable, new_lc, enforce_constraint, which_is_unsatisfied, assigned_value, finalize, to_matrices}
use Rattle.account.specs.Refusals.{Lengths, when, first, unless_bare, if_known, variable_refusal, value_refusal, list_refusal, used_entries, fits, unsound, check_refusal, work_refusal, question_refusal, writing_refusal, room_of, start_of, stages_of, tests}
use Rattle.account.specs.Conditions.{Fresh, Fits}
use Rattle.account.specs.Causes.{UnknownBy, names_own, names_no_own, FirstUnknown, Cause, mode_set_late, goal_set_late, no_instance_place, no_witness_place, instance_error, witness_error, no_entry_for_list, no_places_for_list, no_entries_for_constraint, no_places_for_constraint, unknown_in_list, unknown_in_a, unknown_in_b, unknown_in_c, no_constraint_more, check_unfit, question_unfit, finalize_unfit, writing_unfit, check_in_setup, check_in_bare_mode, check_short_of_work, question_short_of_work, short_of_cells, short_of_ends, finalize_stops, RefusedForCause}
use Rattle.account.proofs.Refuses.{some_none, some_is, when_not, variables_refused, lists_refused}
use Rattle.account.proofs.Places.{places_refused}
use Rattle.account.proofs.Stops.{places_lacking}
use Rattle.account.proofs.Accepts.{fresh_from, fits_iff}

-- P holds of what each test tells, where the tests before it do not refuse
abbrev Explains : (Told → Type 0) → Told → List (Option Told) → Type 0
Explains P r [] = Unit {0}
Explains P r (o ∷ os) = (o ≡ Some r → P r) × (o ≡ None → Explains P r os)

module _ (P : Told → Type 0) (r : Told) where
  explained : (os : List (Option Told)) → Explains P r os → first os ≡ Some r → P r
  explained [] h e = absurd (some_none r _ e refl)
  explained (None ∷ os) h e = explained os (h.1 refl) e
  explained (Some t ∷ os) h e = h.0 e

  -- one test
  by_none : (o : Option Told) → o ≡ Some r → o ≡ None → P r
  by_none o e f = absurd (some_none r o e f)

  failing : (b : Bool) (number : ℕ) → (b ≡ false → P (number_alone number)) → when (not b) number ≡ Some r → P r
  failing true number cause e = by_none _ e refl
  failing false number cause e = subst P (some_is _ r e) (cause refl)

  lacking : (due places number : ℕ) → (places < due → P (number_alone number)) → when (lacks due places) number ≡ Some r → P r
  lacking due places number cause e = by (lacks due places) (ltb-true places due) e
    where
      by : (b : Bool) → (b ≡ true → places < due) → when b number ≡ Some r → P r
      by true less f = subst P (some_is _ r f) (cause (less refl))
      by false less f = by_none _ f refl

  keeping : (mode : SynthesisMode) (o : Option Told) → (KeepsMatrices mode → o ≡ Some r → P r) → unless_bare mode o ≡ Some r → P r
  keeping Setup o cause e = cause tt e
  keeping (Prove true) o cause e = cause tt e
  keeping (Prove false) o cause e = by_none _ e refl

  knowing : (u : Option ℕ) (o : Option Told) → (u ≡ None → o ≡ Some r → P r) → if_known u o ≡ Some r → P r
  knowing None o cause e = cause refl e
  knowing (Some number) o cause e = by_none _ e refl

  an_error : (V : Type 0) (mode : SynthesisMode) (error : SynthesisError) → (KeepsValues mode → P (number_alone (error_number error)))
      → value_refusal {V = V} mode (Err error) ≡ Some r → P r
  an_error V Setup error cause e = by_none _ e refl
  an_error V (Prove matrices) error cause e = subst P (some_is _ r e) (cause tt)

  module _ {V : Type 0} where
    no_error : (mode : SynthesisMode) (v : V) → value_refusal mode (Ok v) ≡ Some r → P r
    no_error Setup v e = by_none _ e refl
    no_error (Prove matrices) v e = by_none _ e refl

    checking : (mode : SynthesisMode) (x : Account V) → ((KeepsValues mode → ⊥) → P (number_alone 2))
        → ((KeepsMatrices mode → ⊥) → x.constraints ≢ 0 → P (number_alone 18)) → check_refusal mode x ≡ Some r → P r
    checking Setup x setup bare e = subst P (some_is _ r e) (setup (λ v. v))
    checking (Prove true) x setup bare e = by_none _ e refl
    checking (Prove false) x setup bare e = failing (eqb x.constraints 0) 18 (λ b. bare (λ k. k) (λ same. true≢false (sym (eq-eqb _ _ same) ∙ b))) e

    working : (o : Option (Finished V)) (work : ℕ) (x : Account V) → (o ≡ None → work < used_entries x → P (number_alone 19))
        → work_refusal o work x ≡ Some r → P r
    working None work x cause e = lacking _ _ 19 (cause refl) e
    working (Some done) work x cause e = by_none _ e refl

    writing : (cells ends : ℕ) (o : Option (Matrices V)) → ((answer : Matrices V) → o ≡ Some answer → cells < length answer.cells → P (number_alone 19))
        → ((answer : Matrices V) → o ≡ Some answer → ends < length answer.ends → P (number_alone 19)) → writing_refusal cells ends o ≡ Some r → P r
    writing cells ends None of_cells of_ends e = by_none _ e refl
    writing cells ends (Some answer) of_cells of_ends e =
        explained (when (lacks (length answer.cells) (cells)) 19 ∷ when (lacks (length answer.ends) (ends)) 19 ∷ [])
        (lacking _ _ 19 (of_cells answer refl), λ _. (lacking _ _ 19 (of_ends answer refl), λ _. tt)) e

    -- a term that is refused
    unknown_by : (x : Account V) (v : Variable) (number : ℕ) → variable_refusal x.instances.count x.witnesses.count (marks x.given) v ≡ Some number → UnknownBy x v number
    unknown_by x v number e =
        let refuses = variables_refused x.instances.count x.witnesses.count (marks x.given) v in
        let long = length-map x.given (λ (g : Given V). g.mark) in
        ⊎_elim
        (λ (is : number ≡ 15). subst (UnknownBy x v) (sym is)
        (names_no_own (λ own.
        let sixteen = refuses.own.1 (own.list, own.symbol, omega (arith, long, own.there), own.own) in
        let same : number ≡ 16 = some_is number 16 (sym e ∙ sixteen) in
        omega arith)))
        (λ (is : number ≡ 16).
        let own = refuses.own.0 (e ∙ ap (λ (i : ℕ). Some i) is) in
        subst (UnknownBy x v) (sym is) (names_own (record { list = own.0; symbol = own.1; there = omega (arith, long, own.2); own = own.3 })))
        (refuses.numbers number e)

    naming : (x : Account V) (list : ℕ) (ts : List (Term V)) → ((place number : ℕ) → FirstUnknown x ts place number → P (number_at number list place))
        → list_refusal x list ts ≡ Some r → P r
    naming x list ts cause e =
        let bad = (lists_refused x.instances.count x.witnesses.count (marks x.given) list ts).at_first r e in
        subst P (sym bad.6) (cause bad.0 bad.2 (record {
          term = bad.1;
          here = bad.3;
          known_before = bad.4;
          not_known = λ known. some_none bad.2 _ bad.5 ((variables_refused _ _ _ bad.1.variable).known.1 known);
          numbered = unknown_by x bad.1.variable bad.2 bad.5;
        }))

    finalising : (s : Result (Stage V) Told) → (s ≡ Err r → P r) → result_err s ≡ Some r → P r
    finalising (Ok stage) cause e = by_none _ e refl
    finalising (Err t) cause e = cause (ap (λ (u : Told). Err u) (some_is t r e))

module _ {V : Type 0} where
  known_after : (x : Account V) (list : ℕ) (ts : List (Term V)) → list_refusal x list ts ≡ None → KnownAt x ts
  known_after x list ts e = (lists_refused _ _ _ list ts).known.0 e

  not_fresh : (x : Account V) → fresh x ≡ false → Fresh x → ⊥
  not_fresh x b f = true≢false (sym (fresh_from x f) ∙ b)

  unfit : (k : Lengths) (x : Account V) → fits k x ≡ false → Fits k x → ⊥
  unfit k x b f = true≢false (sym ((fits_iff k x).1 f) ∙ b)

  fit : (k : Lengths) (x : Account V) → unsound k x ≡ None → Fits k x
  fit k x e = (fits_iff k x).0 (when_not (fits k x) 17 e)

  module _ (m : Model V) (k : Lengths) (x : Account V) where
    finalize_cause : KeepsMatrices x.mode → Fits k x → (r : Told) → stages_of m k x ≡ Err r → Cause m k x finalize r
    finalize_cause kept f r e =
        let rule = rule_of m x.goal (lists x.given) in
        let given = lists x.given in
        let terms = f.terms in
        let by : (number : ℕ) → r ≡ number_alone number → Cause m k x finalize r = λ number is.
        let stop = (places_lacking m rule (room_of k x) (start_of x) (places given) given number (omega arith)).0 (e ∙ ap (λ (t : Told). Err t) is) in
        subst (Cause m k x finalize) (sym is) (finalize_stops stop.0 stop.1 stop.2 kept stop.3 stop.4)
        in
        ⊎_elim (by 14) (λ rest. ⊎_elim (by 12) (by 13) rest) (places_refused m rule (room_of k x) (start_of x) (places given) given r e)

    question_cause : (work : ℕ) (v : Variable) (r : Told) → question_refusal work x v ≡ Some r → Cause m k x (assigned_value work v) r
    question_cause work Zero r e = by_none (Cause m k x (assigned_value work Zero)) r _ e refl
    question_cause work One r e = by_none (Cause m k x (assigned_value work One)) r _ e refl
    question_cause work (Instance i) r e = by_none (Cause m k x (assigned_value work (Instance i))) r _ e refl
    question_cause work (Witness i) r e = by_none (Cause m k x (assigned_value work (Witness i))) r _ e refl
    question_cause work (SymbolicLc j) r e =
        let P = Cause m k x (assigned_value work (SymbolicLc j)) in
        let n = x.instances.count in
        let w = x.witnesses.count in
        knowing P r (variable_refusal n w (marks x.given) (SymbolicLc j)) (work_refusal x.finished work x)
        (λ found. working P r x.finished work x (λ still lt. question_short_of_work ((variables_refused n w (marks x.given) (SymbolicLc j)).known.0 found) still lt)) e

    causes : (call : Call V) (r : Told) → Explains (Cause m k x call) r (tests m k x call)
    causes (set_mode mode) r = let P = Cause m k x (set_mode mode) in (failing P r (fresh x) 10 (λ b. mode_set_late (not_fresh x b)), λ _. tt)
    causes (set_optimization_goal goal) r = let P = Cause m k x (set_optimization_goal goal) in (failing P r (fresh x) 10 (λ b. goal_set_late (not_fresh x b)), λ _. tt)
    causes (new_input_variable (Ok v)) r =
        let P = Cause m k x (new_input_variable (Ok v)) in (lacking P r _ _ 11 (λ lt. no_instance_place lt), λ _. (no_error P r x.mode v, λ _. tt))
    causes (new_input_variable (Err e)) r =
        let P = Cause m k x (new_input_variable (Err e)) in
        (lacking P r _ _ 11 (λ lt. no_instance_place lt), λ _. (an_error P r V x.mode e (λ kept. instance_error kept), λ _. tt))
    causes (new_witness_variable (Ok v)) r =
        let P = Cause m k x (new_witness_variable (Ok v)) in (lacking P r _ _ 12 (λ lt. no_witness_place lt), λ _. (no_error P r x.mode v, λ _. tt))
    causes (new_witness_variable (Err e)) r =
        let P = Cause m k x (new_witness_variable (Err e)) in
        (lacking P r _ _ 12 (λ lt. no_witness_place lt), λ _. (an_error P r V x.mode e (λ kept. witness_error kept), λ _. tt))
    causes (new_lc ts) r =
        let P = Cause m k x (new_lc ts) in (
          lacking P r _ _ 13 (λ lt. no_entry_for_list lt),
          λ _. (lacking P r _ _ 14 (λ lt. no_places_for_list (omega arith)), λ _. (naming P r x 0 ts (λ place number u. unknown_in_list u), λ _. tt)),
        )
    causes (enforce_constraint a b c) r =
        let P = Cause m k x (enforce_constraint a b c) in (
          lacking P r _ _ 20 (λ lt. no_constraint_more lt),
          λ _. (
            keeping P r x.mode _ (λ kept. lacking P r _ _ 13 (λ lt. no_entries_for_constraint kept lt)),
            λ _. (
              keeping P r x.mode _ (λ kept. lacking P r _ _ 14 (λ lt. no_places_for_constraint kept (omega arith))),
              λ _. (
                naming P r x 0 a (λ place number u. unknown_in_a u),
                λ of_a. (
                  naming P r x 1 b (λ place number u. unknown_in_b (known_after x 0 a of_a) u),
                  λ of_b. (naming P r x 2 c (λ place number u. unknown_in_c (known_after x 0 a of_a) (known_after x 1 b of_b) u), λ _. tt),
                ),
              ),
            ),
          ),
        )
    causes (which_is_unsatisfied work) r =
        let P = Cause m k x (which_is_unsatisfied work) in (
          failing P r (fits k x) 17 (λ b. check_unfit (unfit k x b)),
          λ _. (
            checking P r x.mode x (λ setup. check_in_setup setup) (λ bare some. check_in_bare_mode bare some),
            λ _. (working P r x.finished work x (λ still lt. check_short_of_work still lt), λ _. tt),
          ),
        )
    causes (assigned_value work v) r =
        let P = Cause m k x (assigned_value work v) in (failing P r (fits k x) 17 (λ b. question_unfit (unfit k x b)), λ _. (question_cause work v r, λ _. tt))
    causes finalize r =
        let P = Cause m k x finalize in (
          failing P r (fits k x) 17 (λ b. finalize_unfit (unfit k x b)),
          λ sound. (keeping P r x.mode _ (λ kept. finalising P r (stages_of m k x) (finalize_cause kept (fit k x sound) r)), λ _. tt),
        )
    causes (to_matrices cells ends) r =
        let P = Cause m k x (to_matrices cells ends) in (
          failing P r (fits k x) 17 (λ b. writing_unfit (unfit k x b)),
          λ _. (writing P r cells ends (matrices_of m x x.finished) (λ answer is lt. short_of_cells answer is lt) (λ answer is lt. short_of_ends answer is lt), λ _. tt),
        )

  pub refused_for_cause : (m : Model V) → RefusedForCause m
  refused_for_cause m k x call r e = explained (Cause m k x call) r (tests m k x call) (causes m k x call r) e
