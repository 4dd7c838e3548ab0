-- What was written stays as it is read, whatever the calls after it. Assumes nothing.
use Rattle.std.proofs.Common.{◌≡◌, ◌+◌, length, Bool, true, false, cond, List, [], ◌∷◌, map, Some, None, Ok, Option, Result, sym, refl, ap, ◌∙◌, subst, ap₂}
use Rattle.field.specs.Laws.{Model}
use Rattle.variables.specs.Refusals.{Told}
use Rattle.account.specs.declared.SynthesisMode.{SynthesisMode}
use Rattle.account.specs.declared.SynthesisMode.TheVariants.{Setup, Prove}
use Rattle.account.specs.Rows.{Matrices}
use Rattle.account.specs.Account.{Finished, Account, is_open, builds, rows_of, opened, matrices_from, matrices_in, matrices_of}
use Rattle.account.specs.Calls.{Call, set_mode, set_optimization_goal, new_input_variable, new_witness_variable, new_lc, enforce_constraint, which_is_unsatisfied, assigned_value, finalize, to_matrices, written, effect_of, answer_of, after, after_all, Event}
use Rattle.account.specs.Calls as account
use Rattle.account.specs.Refusals.{Lengths, refusal}
use Rattle.account.specs.Run.{by_refusal, due, log_from}
use Rattle.tables.specs.Held.{lengths}
use Rattle.matrices.specs.declared.ConstraintMatrices.{ConstraintMatrices}
use Rattle.matrices.specs.Writing.{Lent, counts_of, written_in, with_matrices}
use Rattle.matrices.proofs.WrittenBack.{written_back}
use Rattle.calls.specs.declared.Answer.{Answer}
use Rattle.calls.specs.declared.Answer.TheVariants.{Done, Named, Unsatisfied, Assigned, Written, Refused, OutOfPlace}
use Rattle.calls.specs.Calls.{as_answer, Beside}
use Rattle.calls.specs.Standing.{any, accepted_writings}
use Rattle.calls.specs.Runs.{dues}
use Rattle.calls.specs.Laws.{ReadsOn}
use Rattle.calls.proofs.AfterRuns.{stays_finished}

module _ {V : Type 0} (m : Model V) where
  abbrev Due : Type 0
  Due = Option (Result (account.Answer V) Told)

  -- the circuit is finished with these matrices
  abbrev Has : Account V → Matrices V → Type 0
  Has x w = matrices_of m x x.finished ≡ Some w

  -- a circuit that has matrices is finished
  has_finished : (o : Option (Finished V)) (x : Account V) (w : Matrices V) → matrices_of m x o ≡ Some w → is_open o ≡ false
  has_finished None x w e = cc
  has_finished (Some done) x w e = refl

  -- matrices that were answered are those of the account
  answered_has : (x : Account V) (call : Call V) (w : Matrices V) → answer_of m x call ≡ written (Some w) → Has x w
  answered_has x (to_matrices cells ends) w e = cc
  answered_has x (set_mode mode) w e = cc
  answered_has x (set_optimization_goal goal) w e = cc
  answered_has x (new_input_variable handed) w e = cc
  answered_has x (new_witness_variable handed) w e = cc
  answered_has x (new_lc ts) w e = cc
  answered_has x (enforce_constraint a b c) w e = cc
  answered_has x (which_is_unsatisfied work) w e = cc
  answered_has x (assigned_value work v) w e = cc
  answered_has x finalize w e = cc

  due_has : (x : Account V) (call : Call V) (w : Matrices V) (o : Option Told) → by_refusal m o (answer_of m x call) ≡ Ok (written (Some w)) → Has x w
  due_has x call w None e = answered_has x call w cc
  due_has x call w (Some r) e = cc

  module _ (t : Lent V) where
    -- matrices that a circuit has are read where they were written
    is_back : (x : Account V) (done : Finished V) (w : Matrices V) → matrices_from m x done ≡ w
        → written_in (with_matrices (Some w) t) (counts_of w) ≡ w
    is_back x done w e =
        subst (λ v. written_in (with_matrices (Some v) t) (counts_of v) ≡ v) e
        (written_back m x.instances.count (x.witnesses.count + length done.combinations) (rows_of x done) t)

    back : (mode : SynthesisMode) (x : Account V) (done : Finished V) (w : Matrices V) → matrices_in m mode x done ≡ Some w
        → written_in (with_matrices (Some w) t) (counts_of w) ≡ w
    back Setup x done w e = is_back x done w cc
    back (Prove true) x done w e = is_back x done w cc
    back (Prove false) x done w e = cc

    finished_back : (o : Option (Finished V)) (x : Account V) (w : Matrices V) → matrices_of m x o ≡ Some w
        → written_in (with_matrices (Some w) t) (counts_of w) ≡ w
    finished_back None x w e = cc
    finished_back (Some done) x w e = back x.mode x done w e

    -- so what was read as the matrices of a finished circuit is read so after more writings of it
    written_still : (b : Bool) (y z : Account V) (w : Matrices V) (counts : ConstraintMatrices) → z ≡ y → Has y w → written_in t counts ≡ w
        → written_in (with_matrices (cond b (matrices_of m z z.finished) None) t) counts ≡ w
    written_still false y z w counts same has e = e
    written_still true y z w counts same has e =
        let are : matrices_of m z z.finished ≡ Some w = ap (λ (x : Account V). matrices_of m x x.finished) same ∙ has in
        ap₂ (λ o c. written_in (with_matrices o t) c) are (ap counts_of e) ∙ finished_back y.finished y w has

  module _ (k : Lengths) (y : Account V) (t u : Lent V)
      (same : (w : Matrices V) (counts : ConstraintMatrices) → Has y w → written_in t counts ≡ w → written_in u counts ≡ w) where
    -- An answer is read on, where what it says was written is what the circuit has in the end.
    reads_answer : (answer : Answer V) (d : Due) → as_answer t answer ≡ d → ((w : Matrices V) → d ≡ Some (Ok (written (Some w))) → Has y w)
        → as_answer u answer ≡ as_answer t answer
    reads_answer Done d e h = refl
    reads_answer (Named v) d e h = refl
    reads_answer (Unsatisfied row) d e h = refl
    reads_answer (Assigned value) d e h = refl
    reads_answer (Written None) d e h = refl
    reads_answer (Written (Some counts)) d e h =
        let w = written_in t counts in ap (λ v. Some (Ok (written (Some v)))) (same w counts (h w (sym e)) refl)
    reads_answer (Refused refusal) d e h = refl
    reads_answer OutOfPlace d e h = refl

    -- matrices that were due to a call of a run are those that the circuit has in the end
    had : (x : Account V) (call : Call V) (calls : List (Call V)) (w : Matrices V) → after_all m x (log_from m k x (call ∷ calls)) ≡ y
        → Some (due m k x call) ≡ Some (Ok (written (Some w))) → Has y w
    had x call calls w ends e =
        let has = due_has x call w (refusal m k x call) cc in
        subst (λ (z : Account V). Has z w) (sym (stays_finished m k (call ∷ calls) x (has_finished x.finished x w has)) ∙ ends) has

    -- answers that are read on, and those of a run from an account on that ends at this one
    abbrev StayRead : List (Answer V) → Type 0
    StayRead answers = map (as_answer u) answers ≡ map (as_answer t) answers

    abbrev StayReadFrom : List (Call V) → List (Answer V) → Account V → Type 0
    StayReadFrom calls answers x = map (as_answer t) answers ≡ dues m k x calls → after_all m x (log_from m k x calls) ≡ y → StayRead answers

    -- the first of some answers is read on, and then the others
    both : (answer : Answer V) (answers : List (Answer V)) (d : Due) (ds : List Due) → map (as_answer t) (answer ∷ answers) ≡ d ∷ ds
        → ((w : Matrices V) → d ≡ Some (Ok (written (Some w))) → Has y w) → (map (as_answer t) answers ≡ ds → StayRead answers)
        → StayRead (answer ∷ answers)
    both answer answers d ds e h rest = ap₂ (λ a others. a ∷ others) (reads_answer answer d (cc) h) (rest cc)

    -- so all answers of a run are read on
    read_on : (calls : List (Call V)) (answers : List (Answer V)) (x : Account V) → StayReadFrom calls answers x
    read_on calls [] x e ends = refl
    read_on [] (answer ∷ answers) x e ends = cc
    read_on (call ∷ calls) (answer ∷ answers) x e ends =
        by_test (builds x (effect_of call)) e ends (read_on calls answers next) (read_on calls answers x)
      where
        event : Event V
        event = record { call = call; answer = due m k x call }

        next : Account V
        next = after m x event

        by_test : (b : Bool) → map (as_answer t) (answer ∷ answers) ≡ cond b (Some event.answer ∷ dues m k next calls) (None ∷ dues m k x calls)
            → after_all m x (cond b (event ∷ log_from m k next calls) (log_from m k x calls)) ≡ y
            → StayReadFrom calls answers next → StayReadFrom calls answers x → StayRead (answer ∷ answers)
        by_test true p q if_built if_not = both answer answers _ _ p (λ w is. had x call calls w ends is) (λ r. if_built r q)
        by_test false p q if_built if_not = both answer answers _ _ p (λ w (is : None ≡ Some (Ok (written (Some w)))). cc) (λ r. if_not r q)

  -- after one call more what was written is as it was, or is written again
  pub reads_on : ReadsOn m
  reads_on h b before now calls answers call answer run goes =
      let k = lengths h in
      let y = after_all m (opened m) (log_from m k (opened m) calls) in
      let t = before.beside.written in
      let j = lengths before.circuit.tables in
      let log = log_from m j y (call ∷ []) in
      read_on k y t now.beside.written
      (λ w counts has e.
      let same = stays_finished m j (call ∷ []) y (has_finished y.finished y w has) in
      subst (λ l. written_in l counts ≡ w) (sym (ap (λ (d : Beside V). d.written) (goes y run.stands).beside))
      (written_still t (any (accepted_writings log)) y (after_all m y log) w counts same has e))
      calls answers (opened m) run.answered refl
