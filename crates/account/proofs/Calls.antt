-- Calls make a run: what is not refused is allowed. Assumes nothing.
use Rattle.std.proofs.Common.{◌≡◌, Bool, true, false, cond, List, [], ◌∷◌, ◌++◌, Some, None, Option, refl, ap, ◌∙◌, subst}
use Rattle.std.proofs.lemmas.Bool.{cond_both, cond-true, cond-false}
use Rattle.field.specs.Laws.{Model, Keeps}
use Rattle.variables.specs.Refusals.{Told}
use Rattle.account.specs.Account.{Account, builds, Allows, opened}
use Rattle.account.specs.Calls.{Call, set_mode, set_optimization_goal, new_input_variable, new_witness_variable, new_lc, enforce_constraint, which_is_unsatisfied, assigned_value, finalize, to_matrices, Event, effect_of, answer_of, after, after_all, account}
use Rattle.account.specs.Refusals.{Lengths, refusal}
use Rattle.account.specs.Conditions.{Conditions}
use Rattle.account.specs.Run.{by_refusal, due, log_from, log_of, Lawful, Run}
use Rattle.account.specs.Promise.{EveryRun}
use Rattle.account.proofs.Accepts.{fresh_from, conditions}
use Rattle.account.proofs.Runs.{any_refusals}

module _ {V : Type 0} where
  module _ (m : Model V) (k : Lengths) where
    -- what is not refused is allowed
    allowed : (x : Account V) (call : Call V) → Conditions m k x call → Allows x (effect_of call)
    allowed x (set_mode mode) h = fresh_from x h
    allowed x (set_optimization_goal goal) h = fresh_from x h
    allowed x (new_input_variable handed) h = h.1
    allowed x (new_witness_variable handed) h = h.1
    allowed x (new_lc ts) h = (h.2, tt)
    allowed x (enforce_constraint p q r) h = (h.2, h.3, h.4)
    allowed x (which_is_unsatisfied work) h = h.1
    allowed x (assigned_value work v) h = tt
    allowed x finalize h = tt
    allowed x (to_matrices cells ends) h = tt

    lawful : (x : Account V) (call : Call V) (o : Option Told) → builds x (effect_of call) ≡ true → (o ≡ None → Allows x (effect_of call)) → Lawful m x call (by_refusal m o (answer_of m x call))
    lawful x call None b ok = (b, ok refl, refl)
    lawful x call (Some r) b ok = tt

    abbrev event : Account V → Call V → Event V
    event x call = record { call = call; answer = due m k x call }

    -- each call of a log builds, and is answered as is due to it
    Dues : Account V → List (Event V) → Type 0
    Dues x [] = Unit {0}
    Dues x (e ∷ es) = (builds x (effect_of e.call) ≡ true) × (e.answer ≡ due m k x e.call) × Dues (after m x e) es

    pub calls_run : (calls : List (Call V)) (x : Account V) → Run m x (log_from m k x calls)
    calls_run [] x = tt
    calls_run (call ∷ calls) x =
        cond_both (builds x (effect_of call)) _ _ (Run m x)
        (λ b. (lawful x call (refusal m k x call) b (λ e. allowed x call (conditions m k x call e)), calls_run calls (after m x (event x call)))) (λ _. calls_run calls x)

    calls_due : (calls : List (Call V)) (x : Account V) → Dues x (log_from m k x calls)
    unfolding Dues
    calls_due [] x = tt
    calls_due (call ∷ calls) x =
        cond_both (builds x (effect_of call)) _ _ (Dues x) (λ b. (b, refl, calls_due calls (after m x (event x call)))) (λ _. calls_due calls x)

    due_at : (past future : List (Event V)) (e : Event V) (x : Account V) → Dues x (past ++ e ∷ future)
        → (builds (after_all m x past) (effect_of e.call) ≡ true) × (e.answer ≡ due m k (after_all m x past) e.call)
    unfolding Dues
    due_at [] future e x h = (h.0, h.1)
    due_at (a ∷ past) future e x h = due_at past future e (after m x a) h.2

    pub log_due : (calls : List (Call V)) (past future : List (Event V)) (e : Event V) → log_of m k calls ≡ past ++ e ∷ future
        → (builds (account m past) (effect_of e.call) ≡ true) × (e.answer ≡ due m k (account m past) e.call)
    log_due calls past future e at = due_at past future e (opened m) (subst (Dues (opened m)) at (calls_due calls (opened m)))

    -- one call more
    log_grows : (calls : List (Call V)) (x : Account V) (call : Call V) → let log = log_from m k x calls in let y = after_all m x log in
        log_from m k x (calls ++ call ∷ []) ≡ cond (builds y (effect_of call)) (log ++ event y call ∷ []) log
    log_grows [] x call = refl
    log_grows (c ∷ calls) x call =
        cond_both (builds x (effect_of c)) _ _ (λ (l : List (Event V)). cond (builds x (effect_of c)) (event x c ∷ log_from m k (after m x (event x c)) (calls ++ call ∷ [])) (log_from m k x (calls ++ call ∷ []))
        ≡ cond (builds (after_all m x l) (effect_of call)) (l ++ event (after_all m x l) call ∷ []) l)
        (λ b. cond-true (builds x (effect_of c)) _ _ b ∙ ap (λ l. event x c ∷ l) (log_grows calls (after m x (event x c)) call) ∙ under (event x c) (builds (after_all m (after m x (event x c)) (log_from m k (after m x (event x c)) calls)) (effect_of call)) _ _)
        (λ b. cond-false (builds x (effect_of c)) _ _ b ∙ log_grows calls x call)
      where
        under : (e : Event V) (b : Bool) (xs ys : List (Event V)) → e ∷ cond b xs ys ≡ cond b (e ∷ xs) (e ∷ ys)
        under e true xs ys = refl
        under e false xs ys = refl

  pub every_run : {m : Model V} → Keeps m → EveryRun m
  every_run {m} keeps k calls = record {
    promised = any_refusals keeps (log_of m k calls) (calls_run m k calls (opened m));
    dues = log_due m k calls;
    grows = λ call. log_grows m k calls (opened m) call;
  }
