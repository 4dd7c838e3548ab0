-- A call that has a cause to be refused is refused, and by 17 only where the counts do not fit. Assumes nothing.
use Rattle.std.proofs.Common.{◌≡◌, ℕ, suc, ◌<◌, true, false, ◌≢◌, List, [], ◌∷◌, ◌++◌, Some, None, Err, Option, sym, refl, ◌∙◌, subst, arith}
use Rattle.std.specs.List.{AllByRecursion, slice_get}
use Rattle.field.specs.Laws.{Model}
use Rattle.variables.specs.declared.Variable.{Variable}
use Rattle.variables.specs.declared.Variable.TheVariants.{SymbolicLc}
use Rattle.variables.specs.declared.Term.{Term}
use Rattle.variables.specs.Refusals.{Told, error_number, number_alone}
use Rattle.account.specs.declared.SynthesisMode.{SynthesisMode}
use Rattle.account.specs.declared.SynthesisMode.TheVariants.{Setup, Prove}
use Rattle.variables.specs.declared.SynthesisError.{SynthesisError}
use Rattle.variables.specs.declared.SynthesisError.TheVariants.{MissingCS, AssignmentMissing, DivisionByZero, Unsatisfiable, PolynomialDegreeTooLarge, UnexpectedIdentity, MalformedVerifyingKey, UnconstrainedVariable}
use Rattle.account.specs.Given.{marks, lists, KnownVariable}
use Rattle.account.specs.Finish.{Rule, Room, Start, Finishing, places}
use Rattle.account.specs.Account.{Account, KeepsMatrices, KeepsValues, HasValue, Checkable, KnownAt, rule_of}
use Rattle.account.specs.Calls.{Call, set_mode, set_optimization_goal, new_input_variable, new_witness_variable, new_lc, enforce_constraint, which_is_unsatisfied, assigned_value, finalize, to_matrices}
use Rattle.account.specs.Refusals.{Lengths, room_of, start_of, refusal}
use Rattle.account.specs.Laws.{FindsPlaces, Lacks, written_out, two_terms, a_witness, three_entries, StopsAt}
use Rattle.account.specs.Conditions.{Fits, Conditions}
use Rattle.account.specs.Causes.{UnknownBy, names_own, names_no_own, FirstUnknown, Cause, mode_set_late, goal_set_late, no_instance_place, no_witness_place, instance_error, witness_error, no_entry_for_list, no_places_for_list, no_entries_for_constraint, no_places_for_constraint, unknown_in_list, unknown_in_a, unknown_in_b, unknown_in_c, no_constraint_more, check_unfit, question_unfit, finalize_unfit, writing_unfit, check_in_setup, check_in_bare_mode, check_short_of_work, question_short_of_work, short_of_cells, short_of_ends, finalize_stops, CausesRefuse}
use Rattle.account.proofs.Refuses.{some_none, some_is}
use Rattle.account.proofs.Places.{err_ok}
use Rattle.account.proofs.Suffices.{places_suffice}
use Rattle.account.proofs.Stops.{places_lacking}
use Rattle.account.proofs.Accepts.{conditions}

module _ {V : Type 0} where
  all_at : (P : Term V → Type 0) (ts : List (Term V)) (k : ℕ) (t : Term V) → AllByRecursion P ts → slice_get ts k ≡ Some t → P t
  all_at P [] k t h e = absurd (some_none t _ e refl)
  all_at P (u ∷ ts) ℕ.zero t h e = subst P (some_is u t e) h.0
  all_at P (u ∷ ts) (suc k) t h e = all_at P ts k t h.1 e

  unknown_not : (x : Account V) (ts : List (Term V)) (place number : ℕ) → FirstUnknown x ts place number → KnownAt x ts → ⊥
  unknown_not x ts place number u h = u.not_known (all_at (λ t. KnownVariable x.instances.count x.witnesses.count (marks x.given) t.variable) ts place u.term h u.here)

  no_value : (handed : Option V) (mode : SynthesisMode) → handed ≡ None → KeepsValues mode → HasValue mode handed → ⊥
  no_value handed Setup e k h = k
  no_value None (Prove b) e k h = h
  no_value (Some v) (Prove b) e k h = some_none v _ refl e

  not_checkable : (mode : SynthesisMode) (x : Account V) → (KeepsValues mode → ⊥) → Checkable mode x → ⊥
  not_checkable Setup x n h = h
  not_checkable (Prove b) x n h = n tt

  not_bare : (mode : SynthesisMode) (x : Account V) → (KeepsMatrices mode → ⊥) → x.constraints ≢ 0 → Checkable mode x → ⊥
  not_bare Setup x n c h = n tt
  not_bare (Prove true) x n c h = n tt
  not_bare (Prove false) x n c h = c h

  module _ (m : Model V) (k : Lengths) (x : Account V) where
    stops_not : (past : List (List (Term V))) (l : List (Term V)) (future : List (List (Term V))) (number : ℕ) → lists x.given ≡ past ++ l ∷ future
        → StopsAt m (rule_of m x.goal (lists x.given)) (room_of k x) (start_of x) (places (lists x.given)) past l number → Fits k x
        → FindsPlaces m (rule_of m x.goal (lists x.given)) (room_of k x) (start_of x) (places (lists x.given)) (lists x.given) → ⊥
    stops_not past l future number e s f h =
        let terms = f.terms in
        let rule = rule_of m x.goal (lists x.given) in
        let bad = (places_lacking m rule (room_of k x) (start_of x) (places (lists x.given)) (lists x.given) number (omega arith)).1 (past, l, future, e, s) in
        let good = (places_suffice m rule (room_of k x) (start_of x) (places (lists x.given)) (lists x.given) (omega arith)).1 h in
        err_ok (number_alone number) good.0 (sym bad ∙ good.1)

    not_met : (call : Call V) (r : Told) → Cause m k x call r → Conditions m k x call → ⊥
    not_met (set_mode mode) r (mode_set_late n) h = n h
    not_met (set_optimization_goal goal) r (goal_set_late n) h = n h
    not_met (new_input_variable handed) r (no_instance_place lt) h = let p = h.0 in omega arith
    not_met (new_witness_variable handed) r (no_witness_place lt) h = let p = h.0 in omega arith
    not_met (new_input_variable (Err e)) r (instance_error kept) h = no_value None x.mode refl kept h.1
    not_met (new_witness_variable (Err e)) r (witness_error kept) h = no_value None x.mode refl kept h.1
    not_met (new_lc ts) r (no_entry_for_list lt) h = let p = h.0 in omega arith
    not_met (new_lc ts) r (no_places_for_list lt) h = let p = h.1 in omega arith
    not_met (new_lc ts) r (unknown_in_list {place = p} {number = i} u) h = unknown_not x ts p i u h.2
    not_met (enforce_constraint a b c) r (no_entries_for_constraint kept lt) h = let p = (h.1 kept).0 in omega arith
    not_met (enforce_constraint a b c) r (no_places_for_constraint kept lt) h = let p = (h.1 kept).1 in omega arith
    not_met (enforce_constraint a b c) r (unknown_in_a {place = p} {number = i} u) h = unknown_not x a p i u h.2
    not_met (enforce_constraint a b c) r (unknown_in_b {place = p} {number = i} _ u) h = unknown_not x b p i u h.3
    not_met (enforce_constraint a b c) r (unknown_in_c {place = p} {number = i} _ _ u) h = unknown_not x c p i u h.4
    not_met (enforce_constraint a b c) r (no_constraint_more lt) h = let p = h.0 in omega arith
    not_met (which_is_unsatisfied work) r (check_unfit n) h = n h.0
    not_met (assigned_value work v) r (question_unfit n) h = n h.0
    not_met finalize r (finalize_unfit n) h = n h.0
    not_met (to_matrices cells ends) r (writing_unfit n) h = n h.0
    not_met (which_is_unsatisfied work) r (check_in_setup n) h = not_checkable x.mode x n h.1
    not_met (which_is_unsatisfied work) r (check_in_bare_mode n c) h = not_bare x.mode x n c h.1
    not_met (which_is_unsatisfied work) r (check_short_of_work still lt) h = let p = h.2 still in omega arith
    not_met (assigned_value work (SymbolicLc j)) r (question_short_of_work known still lt) h = let p = h.1 j refl known still in omega arith
    not_met (to_matrices cells ends) r (short_of_cells answer is lt) h = let p = (h.1 answer is).0 in omega arith
    not_met (to_matrices cells ends) r (short_of_ends answer is lt) h = let p = (h.1 answer is).1 in omega arith
    not_met finalize r (finalize_stops {number = i} past l future kept e s) h = stops_not past l future i e s h.0 (h.1 kept)

    pub cause_refuses : (call : Call V) (r : Told) → Cause m k x call r → refusal m k x call ≡ None → ⊥
    cause_refuses call r c e = not_met call r c (conditions m k x call e)

    error_told : (e : SynthesisError) → error_number e < 9
    error_told MissingCS = omega arith
    error_told AssignmentMissing = omega arith
    error_told DivisionByZero = omega arith
    error_told Unsatisfiable = omega arith
    error_told PolynomialDegreeTooLarge = omega arith
    error_told UnexpectedIdentity = omega arith
    error_told MalformedVerifyingKey = omega arith
    error_told UnconstrainedVariable = omega arith

    unknown_told : (v : Variable) (number : ℕ) → UnknownBy x v number → number ≡ 17 → ⊥
    unknown_told v number (names_own h) e = omega arith
    unknown_told v number (names_no_own h) e = omega arith

    lacks_told : (rule : Rule V) (room : Room) (start : Start) (f : Finishing V) (used : ℕ) (l : List (Term V)) (number : ℕ) → Lacks m rule room start f used l number → number ≡ 17 → ⊥
    lacks_told rule room start f used l number (written_out a) e = omega arith
    lacks_told rule room start f used l number (two_terms a b c) e = omega arith
    lacks_told rule room start f used l number (a_witness a b c d) e = omega arith
    lacks_told rule room start f used l number (three_entries a b c d f') e = omega arith

    -- where the counts fit, no call is refused by 17
    pub told_other : (call : Call V) (r : Told) → Cause m k x call r → Fits k x → r.number ≡ 17 → ⊥
    told_other call r (mode_set_late n) f e = omega arith
    told_other call r (goal_set_late n) f e = omega arith
    told_other call r (no_instance_place lt) f e = omega arith
    told_other call r (no_witness_place lt) f e = omega arith
    told_other call r (instance_error {e = error} kept) f e = omega (arith, error_told error)
    told_other call r (witness_error {e = error} kept) f e = omega (arith, error_told error)
    told_other call r (no_entry_for_list lt) f e = omega arith
    told_other call r (no_places_for_list lt) f e = omega arith
    told_other call r (no_entries_for_constraint kept lt) f e = omega arith
    told_other call r (no_places_for_constraint kept lt) f e = omega arith
    told_other call r (unknown_in_list {number = i} u) f e = unknown_told u.term.variable i u.numbered e
    told_other call r (unknown_in_a {number = i} u) f e = unknown_told u.term.variable i u.numbered e
    told_other call r (unknown_in_b {number = i} _ u) f e = unknown_told u.term.variable i u.numbered e
    told_other call r (unknown_in_c {number = i} _ _ u) f e = unknown_told u.term.variable i u.numbered e
    told_other call r (no_constraint_more lt) f e = omega arith
    told_other call r (check_unfit n) f e = n f
    told_other call r (question_unfit n) f e = n f
    told_other call r (finalize_unfit n) f e = n f
    told_other call r (writing_unfit n) f e = n f
    told_other call r (check_in_setup n) f e = omega arith
    told_other call r (check_in_bare_mode n c) f e = omega arith
    told_other call r (check_short_of_work still lt) f e = omega arith
    told_other call r (question_short_of_work known still lt) f e = omega arith
    told_other call r (short_of_cells answer is lt) f e = omega arith
    told_other call r (short_of_ends answer is lt) f e = omega arith
    told_other call r (finalize_stops {number = i} past l future kept at s) f e =
        lacks_told (rule_of m x.goal (lists x.given)) (room_of k x) (start_of x) _ s.in_use l i s.lacks e

  pub causes_refuse : (m : Model V) → CausesRefuse m
  causes_refuse m k x call r c = cause_refuses m k x call r c
