-- A call is accepted exactly where its conditions hold. Assumes nothing.
use Rattle.std.proofs.Common.{◌≡◌, ℕ, ◌+◌, ◌<◌, ◌≤◌, Bool, true, false, not, eqb, ◌↔◌, List, [], ◌∷◌, length, Some, None, Ok, Err, Option, Result, sym, refl, ap, ◌∙◌, subst, arith}
use Rattle.std.specs.List.{AllByRecursion}
use Rattle.std.proofs.lemmas.Bool.{and_parts, and_from, eqb-true, eq-eqb, ltb-false, le-ltb, not-true, not_from_false}
use Rattle.std.specs.Result.{result_err, result_ok}
use Rattle.field.specs.Laws.{Model}
use Rattle.variables.specs.declared.LcIndex.{LcIndex}
use Rattle.variables.specs.declared.Variable.{Variable}
use Rattle.variables.specs.declared.Variable.TheVariants.{Zero, One, Instance, Witness, SymbolicLc}
use Rattle.variables.specs.declared.Term.{Term}
use Rattle.variables.specs.Order.{kind}
use Rattle.variables.specs.Refusals.{Told}
use Rattle.account.specs.declared.SynthesisMode.{SynthesisMode}
use Rattle.account.specs.declared.SynthesisMode.TheVariants.{Setup, Prove}
use Rattle.variables.specs.declared.SynthesisError.{SynthesisError}
use Rattle.account.specs.Given.{marks, lists, KnownVariable}
use Rattle.account.specs.Finish.{Stage, places, lacks}
use Rattle.account.specs.Rows.{Matrices}
use Rattle.account.specs.Account.{Finished, Account, KeepsMatrices, KeepsValues, fresh, HasValue, Checkable, KnownAt, added_count, rule_of, matrices_of}
use Rattle.account.specs.Calls.{Call, set_mode, set_optimization_goal, new_input_variable, new_witness_variable, new_lc, enforce_constraint, which_is_unsatisfied, assigned_value, finalize, to_matrices}
use Rattle.account.specs.Refusals.{Lengths, capacity, value_places, when, first, unless_bare, if_known, variable_refusal, value_refusal, list_refusal, used_entries, values_fit, fits, unsound, check_refusal, work_refusal, question_refusal, writing_refusal, room_of, start_of, stages_of, tests, refusal}
use Rattle.account.specs.Laws.{FindsPlaces}
use Rattle.account.specs.Conditions.{Fresh, Fits, Conditions, AcceptedWhen, OpenedWhen}
use Rattle.account.proofs.Refuses.{some_none, when_not, enough, first_none, some_is, variables_refused, lists_refused, not_symbol}
use Rattle.account.proofs.Suffices.{places_suffice}
use Rattle.account.proofs.Sounds.{fresh_means}

-- tests that do not refuse
none_first : (os : List (Option Told)) → AllByRecursion (λ o. o ≡ None) os → first os ≡ None
none_first [] h = refl
none_first (None ∷ os) h = none_first os h.1
none_first (Some r ∷ os) h = h.0

no_lack : (due places k : ℕ) → due ≤ places → when (lacks due places) k ≡ None
no_lack due places k h = ap (λ b. when b k) (le-ltb places due h)

true_iff : (b : Bool) (k : ℕ) → (when (not b) k ≡ None) ↔ (b ≡ true)
true_iff b k = (when_not b k, λ e. ap (λ c. when (not c) k) e)

pub bare_none : (mode : SynthesisMode) (o : Option Told) → unless_bare mode o ≡ None → KeepsMatrices mode → o ≡ None
bare_none Setup o e k = e
bare_none (Prove true) o e k = e
bare_none (Prove false) o e k = absurd k

none_bare : (mode : SynthesisMode) (o : Option Told) → (KeepsMatrices mode → o ≡ None) → unless_bare mode o ≡ None
none_bare Setup o h = h tt
none_bare (Prove true) o h = h tt
none_bare (Prove false) o h = refl

-- places for values, where they are kept
pub for_values : (mode : SynthesisMode) (count len : ℕ) → count ≤ value_places mode len → KeepsValues mode → count ≤ capacity len
for_values Setup count len h k = absurd k
for_values (Prove matrices) count len h k = h

pub with_values : (mode : SynthesisMode) (count len : ℕ) → count ≤ capacity len → KeepsValues mode → count ≤ value_places mode len
with_values Setup count len h k = absurd k
with_values (Prove matrices) count len h k = h

-- a test of one number
pub within : (due places : ℕ) → (not (lacks due places) ≡ true) ↔ (due ≤ places)
within due places = (λ e. ltb-false places due (not-true (lacks due places) e), λ h. not_from_false (lacks due places) (le-ltb places due h))

module _ {V : Type 0} where
  pub fresh_from : (x : Account V) → Fresh x → fresh x ≡ true
  fresh_from x f =
      and_from _ _ (eq-eqb _ _ f.one_instance) (and_from _ _ (eq-eqb _ _ f.no_witness) (and_from _ _ (eq-eqb _ _ (ap length f.no_list)) (eq-eqb _ _ f.no_constraint)))

  fresh_iff : (x : Account V) → (fresh x ≡ true) ↔ Fresh x
  fresh_iff x = (fresh_means x, fresh_from x)

  value_iff : (mode : SynthesisMode) (handed : Result V SynthesisError) → (value_refusal mode handed ≡ None) ↔ HasValue mode (result_ok handed)
  value_iff Setup handed = (λ _. tt, λ _. refl)
  value_iff (Prove matrices) (Ok v) = (λ _. tt, λ _. refl)
  value_iff (Prove matrices) (Err e) = (λ h. absurd (some_none _ _ refl h), λ h. absurd h)

  pub check_iff : (mode : SynthesisMode) (x : Account V) → (check_refusal mode x ≡ None) ↔ Checkable mode x
  check_iff Setup x = (λ h. absurd (some_none _ _ refl h), λ h. absurd h)
  check_iff (Prove true) x = (λ _. tt, λ _. refl)
  check_iff (Prove false) x =
      let iff = true_iff (eqb x.constraints 0) 18 in
      (λ e. eqb-true _ _ (iff.0 e), λ e. iff.1 (eq-eqb _ _ e))

  work_iff : (o : Option (Finished V)) (work : ℕ) (x : Account V) → (work_refusal o work x ≡ None) ↔ (o ≡ None → used_entries x ≤ work)
  work_iff None work x = (λ e _. enough _ _ 19 e, λ h. no_lack _ _ 19 (h refl))
  work_iff (Some done) work x = (λ _ e. absurd (some_none done _ refl e), λ _. refl)

  -- counts that fit, by mode
  pub record Values (mode : SynthesisMode) (k : Lengths) (x : Account V) : Type 0 where
    pub first : (KeepsValues mode → ⊥) → 1 ≤ capacity k.instances
    pub instances : KeepsValues mode → x.instances.count ≤ capacity k.instances
    pub witnesses : KeepsValues mode → x.witnesses.count + added_count x.finished ≤ capacity k.witnesses

  pub values_iff : (mode : SynthesisMode) (k : Lengths) (x : Account V) → (values_fit mode k x ≡ true) ↔ Values mode k x
  values_iff Setup k x = (
    λ e. record { first = λ _. (within 1 _).0 e; instances = λ v. absurd v; witnesses = λ v. absurd v },
    λ h. (within 1 _).1 (h.first (λ v. v)),
  )
  values_iff (Prove matrices) k x = (
    λ e.
        let both = and_parts _ _ e in
        record { first = λ n. absurd (n tt); instances = λ _. (within _ _).0 both.0; witnesses = λ _. (within _ _).0 both.1 },
    λ h. and_from _ _ ((within _ _).1 (h.instances tt)) ((within _ _).1 (h.witnesses tt)),
  )

  pub fits_iff : (k : Lengths) (x : Account V) → (fits k x ≡ true) ↔ Fits k x
  fits_iff k x = (
    λ e.
        let one = and_parts _ _ e in
        let two = and_parts _ _ one.1 in
        let values = (values_iff x.mode k x).0 two.1 in
        record {
          terms = (within _ _).0 one.0;
          entries = (within _ _).0 two.0;
          first = values.first;
          instances = values.instances;
          witnesses = values.witnesses;
        },
    λ h.
        and_from _ _ ((within _ _).1 h.terms)
        (and_from _ _ ((within _ _).1 h.entries) ((values_iff x.mode k x).1 (record { first = h.first; instances = h.instances; witnesses = h.witnesses }))),
  )

  pub unsound_iff : (k : Lengths) (x : Account V) → (unsound k x ≡ None) ↔ Fits k x
  unsound_iff k x = (λ e. (fits_iff k x).0 ((true_iff (fits k x) 17).0 e), λ h. (true_iff (fits k x) 17).1 ((fits_iff k x).1 h))

  -- a question for a symbol
  module _ (work : ℕ) (x : Account V) where
    abbrev KnownHere : Variable → Type 0
    KnownHere v = KnownVariable x.instances.count x.witnesses.count (marks x.given) v

    abbrev Asks : Variable → Type 0
    Asks v = (j : LcIndex) → v ≡ SymbolicLc j → KnownHere v → x.finished ≡ None → used_entries x ≤ work

    not_asked : (v : Variable) → kind v < 4 → Asks v
    not_asked v lt j e = absurd (not_symbol v j lt e)

    refusal_here : Variable → Option ℕ
    refusal_here v = variable_refusal x.instances.count x.witnesses.count (marks x.given) v

    if_known_none : (v : Variable) (u : Option ℕ) → refusal_here v ≡ u → (KnownHere v → work_refusal x.finished work x ≡ None) → if_known u (work_refusal x.finished work x) ≡ None
    unfolding refusal_here
    if_known_none v None e h = h ((variables_refused _ _ _ v).known.0 e)
    if_known_none v (Some number) e h = refl

    question_iff : (v : Variable) → (question_refusal work x v ≡ None) ↔ Asks v
    unfolding refusal_here
    question_iff Zero = (λ _. not_asked Zero (omega arith), λ _. refl)
    question_iff One = (λ _. not_asked One (omega arith), λ _. refl)
    question_iff (Instance i) = (λ _. not_asked (Instance i) (omega arith), λ _. refl)
    question_iff (Witness i) = (λ _. not_asked (Witness i) (omega arith), λ _. refl)
    question_iff (SymbolicLc i) = (
      λ e j same known.
          (work_iff x.finished work x).0 (sym (ap (λ u. if_known u (work_refusal x.finished work x)) ((variables_refused x.instances.count x.witnesses.count (marks x.given) (SymbolicLc i)).known.1 known)) ∙ e),
      λ h. if_known_none (SymbolicLc i) (refusal_here (SymbolicLc i)) refl (λ known. (work_iff x.finished work x).1 (h i refl known)),
    )

  writing_iff : (cells ends : ℕ) (o : Option (Matrices V))
      → (writing_refusal cells ends o ≡ None) ↔ ((answer : Matrices V) → o ≡ Some answer → (length answer.cells ≤ cells) × (length answer.ends ≤ ends))
  writing_iff cells ends None = (λ _ answer e. absurd (some_none answer _ e refl), λ _. refl)
  writing_iff cells ends (Some found) =
      let both : List (Option Told) = when (lacks (length found.cells) cells) 19 ∷ when (lacks (length found.ends) ends) 19 ∷ [] in (
        λ e answer same.
            let all = first_none both e in
            subst (λ (a : Matrices V). (length a.cells ≤ cells) × (length a.ends ≤ ends)) (some_is found answer same) (enough _ _ 19 all.0, enough _ _ 19 all.1.0),
        λ h. let fit = h found refl in none_first both (no_lack _ _ 19 fit.0, (no_lack _ _ 19 fit.1, tt)),
      )

  pub stages_iff : (r : Result (Stage V) Told) → (result_err r ≡ None) ↔ ((end : Stage V) × (r ≡ Ok end))
  stages_iff (Ok end) = (λ _. (end, refl), λ _. refl)
  stages_iff (Err t) = (λ e. absurd (some_none t _ refl e), λ h. absurd (let z : ◌≡◌ {A = ℕ} 0 1 = let f = h.1 in cc in omega arith))

  -- finalising, where the counts fit
  finalize_iff : (m : Model V) (k : Lengths) (x : Account V) → Fits k x
      → (result_err (stages_of m k x) ≡ None) ↔ FindsPlaces m (rule_of m x.goal (lists x.given)) (room_of k x) (start_of x) (places (lists x.given)) (lists x.given)
  finalize_iff m k x f =
      let terms = f.terms in
      let there = places_suffice m (rule_of m x.goal (lists x.given)) (room_of k x) (start_of x) (places (lists x.given)) (lists x.given) (omega arith) in
      let stages = stages_iff (stages_of m k x) in
      (λ e. there.0 (stages.0 e), λ h. stages.1 (there.1 h))

  known_iff : (x : Account V) (list : ℕ) (ts : List (Term V)) → (list_refusal x list ts ≡ None) ↔ KnownAt x ts
  known_iff x list ts = (lists_refused _ _ _ list ts).known

  module _ (m : Model V) (k : Lengths) (x : Account V) where
    pub conditions : (call : Call V) → refusal m k x call ≡ None → Conditions m k x call
    conditions (set_mode mode) e = (fresh_iff x).0 ((true_iff (fresh x) 10).0 (first_none (tests m k x (set_mode mode)) e).0)
    conditions (set_optimization_goal goal) e = (fresh_iff x).0 ((true_iff (fresh x) 10).0 (first_none (tests m k x (set_optimization_goal goal)) e).0)
    conditions (new_input_variable handed) e =
        let all = first_none (tests m k x (new_input_variable handed)) e in (enough _ _ 11 all.0, (value_iff x.mode handed).0 all.1.0)
    conditions (new_witness_variable handed) e =
        let all = first_none (tests m k x (new_witness_variable handed)) e in (enough _ _ 12 all.0, (value_iff x.mode handed).0 all.1.0)
    conditions (new_lc ts) e =
        let all = first_none (tests m k x (new_lc ts)) e in
        let free = enough _ _ 14 all.1.0 in
        (enough _ _ 13 all.0, omega arith, (known_iff x 0 ts).0 all.1.1.0)
    conditions (enforce_constraint p q r) e =
        let all = first_none (tests m k x (enforce_constraint p q r)) e in
        let terms = all.1.1.1 in (
          enough _ _ 20 all.0,
          λ kept. (enough _ _ 13 (bare_none x.mode _ all.1.0 kept), let free = enough _ _ 14 (bare_none x.mode _ all.1.1.0 kept) in omega arith),
          (known_iff x 0 p).0 terms.0,
          (known_iff x 1 q).0 terms.1.0,
          (known_iff x 2 r).0 terms.1.1.0,
        )
    conditions (which_is_unsatisfied work) e =
        let all = first_none (tests m k x (which_is_unsatisfied work)) e in
        ((unsound_iff k x).0 all.0, (check_iff x.mode x).0 all.1.0, (work_iff x.finished work x).0 all.1.1.0)
    conditions (assigned_value work v) e =
        let all = first_none (tests m k x (assigned_value work v)) e in ((unsound_iff k x).0 all.0, (question_iff work x v).0 all.1.0)
    conditions finalize e =
        let all = first_none (tests m k x finalize) e in
        let fit = (unsound_iff k x).0 all.0 in
        (fit, λ kept. (finalize_iff m k x fit).0 (bare_none x.mode _ all.1.0 kept))
    conditions (to_matrices cells ends) e =
        let all = first_none (tests m k x (to_matrices cells ends)) e in ((unsound_iff k x).0 all.0, (writing_iff cells ends (matrices_of m x x.finished)).0 all.1.0)

    accepts : (call : Call V) → Conditions m k x call → refusal m k x call ≡ None
    accepts (set_mode mode) h = none_first (tests m k x (set_mode mode)) ((true_iff (fresh x) 10).1 ((fresh_iff x).1 h), tt)
    accepts (set_optimization_goal goal) h = none_first (tests m k x (set_optimization_goal goal)) ((true_iff (fresh x) 10).1 ((fresh_iff x).1 h), tt)
    accepts (new_input_variable handed) h =
        none_first (tests m k x (new_input_variable handed)) (no_lack _ _ 11 h.0, ((value_iff x.mode handed).1 h.1, tt))
    accepts (new_witness_variable handed) h =
        none_first (tests m k x (new_witness_variable handed)) (no_lack _ _ 12 h.0, ((value_iff x.mode handed).1 h.1, tt))
    accepts (new_lc ts) h =
        let free = h.1 in
        none_first (tests m k x (new_lc ts)) (no_lack _ _ 13 h.0, (no_lack _ _ 14 (omega arith), ((known_iff x 0 ts).1 h.2, tt)))
    accepts (enforce_constraint p q r) h =
        none_first (tests m k x (enforce_constraint p q r)) (
          no_lack _ _ 20 h.0,
          (
            none_bare x.mode _ (λ kept. no_lack _ _ 13 (h.1 kept).0),
            (none_bare x.mode _ (λ kept. let free = (h.1 kept).1 in no_lack _ _ 14 (omega arith)), ((known_iff x 0 p).1 h.2, ((known_iff x 1 q).1 h.3, ((known_iff x 2 r).1 h.4, tt)))),
          ),
        )
    accepts (which_is_unsatisfied work) h =
        none_first (tests m k x (which_is_unsatisfied work)) ((unsound_iff k x).1 h.0, ((check_iff x.mode x).1 h.1, ((work_iff x.finished work x).1 h.2, tt)))
    accepts (assigned_value work v) h =
        none_first (tests m k x (assigned_value work v)) ((unsound_iff k x).1 h.0, ((question_iff work x v).1 h.1, tt))
    accepts finalize h =
        none_first (tests m k x finalize) ((unsound_iff k x).1 h.0, (none_bare x.mode _ (λ kept. (finalize_iff m k x h.0).1 (h.1 kept)), tt))
    accepts (to_matrices cells ends) h =
        none_first (tests m k x (to_matrices cells ends)) ((unsound_iff k x).1 h.0, ((writing_iff cells ends (matrices_of m x x.finished)).1 h.1, tt))

  pub accepted_when : (m : Model V) → AcceptedWhen m
  accepted_when m k x call = (conditions m k x call, accepts m k x call)

pub opened_when : OpenedWhen
opened_when k = record {
  when_there = (
    λ e. let there = enough 1 (capacity k.instances) 11 e in omega arith,
    λ there. no_lack 1 (capacity k.instances) 11 (omega arith),
  );
  else_11 = λ r e. by (lacks 1 (capacity k.instances)) r e;
}
  where
    by : (b : Bool) (r : Told) → when b 11 ≡ Some r → r ≡ record { number = 11; values = [] }
    by true r e = sym (some_is _ r e)
    by false r e = absurd (some_none r _ e refl)
