-- Logs of calls that are all accepted, and what such calls bring. Assumes nothing.
use Rattle.std.proofs.Common.{◌≡◌, ℕ, suc, ◌≤◌, true, cond, List, [], ◌∷◌, ◌++◌, map, length, Some, None, Ok, Option, Result, sym, refl, ap, ap₂, ◌∙◌, subst, append_assoc, arith}
use Rattle.std.specs.List.{AllByRecursion}
use Rattle.field.specs.Laws.{Model}
use Rattle.variables.specs.Refusals.{Told}
use Rattle.account.specs.Account.{Account, Effect, is_open, builds, changed}
use Rattle.account.specs.Calls as account
use Rattle.account.specs.Calls.{Call, set_optimization_goal, new_input_variable, new_witness_variable, new_lc, enforce_constraint, which_is_unsatisfied, finalize, to_matrices, Event, accepted, effect_of, if_accepted, accepted_all, after, after_answer, after_all}
use Rattle.account.specs.Refusals.{Lengths}
use Rattle.account.specs.Run.{due, log_from}
use Rattle.matrices.specs.Writing.{Lent}
use Rattle.calls.specs.declared.Call.{Call as RunCall}
use Rattle.calls.specs.declared.Answer.{Answer}
use Rattle.calls.specs.declared.Answer.TheVariants.{Done, Named, Unsatisfied, Assigned, Written, Refused, OutOfPlace}
use Rattle.calls.specs.Calls.{Rooms, as_call, as_answer, event_in, log_in}
use Rattle.claims.specs.Verdicts.{refusal_in, after_accepted}

module _ {V : Type 0} where
  abbrev pub AllOk : List (Event V) → Type 0
  AllOk [] = Unit {0}
  AllOk (e ∷ es) = ((a : account.Answer V) × (e.answer ≡ Ok a)) × AllOk es

  pub ok_append : (past rest : List (Event V)) → AllOk past → AllOk rest → AllOk (past ++ rest)
  ok_append [] rest h h' = h'
  ok_append (e ∷ past) rest h h' = (h.0, ok_append past rest h.1 h')

  -- what calls bring, by their effects and in their order
  abbrev pub brought : {X : Type 0} → (Effect V → List X) → List (Call V) → List X
  brought f [] = []
  brought f (call ∷ calls) = f (effect_of call) ++ brought f calls

  abbrev pub calls_in : List (Event V) → List (Call V)
  calls_in log = map (λ e. e.call) log

  pub brought_append : {X : Type 0} (f : Effect V → List X) (a b : List (Call V)) → brought f (a ++ b) ≡ brought f a ++ brought f b
  brought_append f [] b = refl
  brought_append f (call ∷ a) b = ap (λ l. f (effect_of call) ++ l) (brought_append f a b)
      ∙ sym (append_assoc (f (effect_of call)) (brought f a) (brought f b))

  pub all_brought : {X : Type 0} (f : Effect V → List X) (log : List (Event V)) → AllOk log → accepted_all f log ≡ brought f (calls_in log)
  all_brought f [] h = refl
  all_brought f (e ∷ es) h = ap₂ (λ d l. if_accepted d (f (effect_of e.call)) ++ l) h.0.1 (all_brought f es h.1)

  pub all_append : {X : Type 0} (f : Effect V → List X) (past rest : List (Event V))
      → accepted_all f (past ++ rest) ≡ accepted_all f past ++ accepted_all f rest
  all_append f [] rest = refl
  all_append f (e ∷ es) rest =
      let here = if_accepted e.answer (f (effect_of e.call)) in
      ap (λ l. here ++ l) (all_append f es rest) ∙ sym (append_assoc here (accepted_all f es) (accepted_all f rest))

  -- calls that set the goal, name or constrain
  abbrev pub OpenCall : Call V → Type 0
  OpenCall (set_optimization_goal goal) = Unit {0}
  OpenCall (new_input_variable handed) = Unit {0}
  OpenCall (new_witness_variable handed) = Unit {0}
  OpenCall (new_lc ts) = Unit {0}
  OpenCall (enforce_constraint a b c) = Unit {0}
  OpenCall other = ⊥

  open_builds : (x : Account V) (call : Call V) → OpenCall call → x.finished ≡ None → builds x (effect_of call) ≡ true
  open_builds x (set_optimization_goal goal) h o = ap is_open o
  open_builds x (new_input_variable handed) h o = ap is_open o
  open_builds x (new_witness_variable handed) h o = ap is_open o
  open_builds x (new_lc ts) h o = ap is_open o
  open_builds x (enforce_constraint a b c) h o = ap is_open o
  open_builds x other h o = absurd h

  module _ (m : Model V) where
    -- the account after them
    pub after_append : (past rest : List (Event V)) (x : Account V) → after_all m x (past ++ rest) ≡ after_all m (after_all m x past) rest
    after_append [] rest x = refl
    after_append (e ∷ past) rest x = after_append past rest (after m x e)

    pub after_is : (log : List (Event V)) (x : Account V) → AllOk log → after_all m x log ≡ after_accepted m x (calls_in log)
    after_is [] x h = refl
    after_is (e ∷ es) x h = ap (λ d. after_all m (after_answer m d x (effect_of e.call)) es) h.0.1 ∙ after_is es (changed m x (effect_of e.call)) h.1

    open_stays : (x : Account V) (call : Call V) → OpenCall call → (changed m x (effect_of call)).finished ≡ x.finished
    open_stays x (set_optimization_goal goal) h = refl
    open_stays x (new_input_variable handed) h = refl
    open_stays x (new_witness_variable handed) h = refl
    open_stays x (new_lc ts) h = refl
    open_stays x (enforce_constraint a b c) h = refl
    open_stays x other h = absurd h

    module _ (k : Lengths) where
      -- a call that builds, where all are accepted
      record Step (x : Account V) (call : Call V) (calls : List (Call V)) : Type 0 where
        answer : account.Answer V
        is : log_from m k x (call ∷ calls) ≡ accepted call answer ∷ log_from m k (changed m x (effect_of call)) calls
        ok : AllOk (log_from m k (changed m x (effect_of call)) calls)

      step : (x : Account V) (call : Call V) (calls : List (Call V)) → builds x (effect_of call) ≡ true → AllOk (log_from m k x (call ∷ calls))
          → Step x call calls
      step x call calls built h =
          let e : Event V = record { call = call; answer = due m k x call } in
          let unfolded : log_from m k x (call ∷ calls) ≡ e ∷ log_from m k (after m x e) calls
          = ap (λ b. cond b (e ∷ log_from m k (after m x e) calls) (log_from m k x calls)) built in
          let all : AllOk (e ∷ log_from m k (after m x e) calls) = subst AllOk unfolded h in
          let is : due m k x call ≡ Ok all.0.0 = all.0.1 in
          let with_answer = λ (d : Result (account.Answer V) Told). let e : Event V
          = record { call = call; answer = d } in e ∷ log_from m k (after m x e) calls in
          record {
            answer = all.0.0;
            is = unfolded ∙ ap with_answer is;
            ok = subst (λ (d : Result (account.Answer V) Told). AllOk (log_from m k (after_answer m d x (effect_of call)) calls)) is all.1;
          }

      -- calls on an open circuit, and then others
      pub record Opens (x : Account V) (calls rest : List (Call V)) : Type 0 where
        pub past : List (Event V)
        pub then_on : Account V
        pub splits : log_from m k x (calls ++ rest) ≡ past ++ log_from m k then_on rest
        pub they_are : calls_in past ≡ calls
        pub past_ok : AllOk past
        pub still_open : then_on.finished ≡ None
        pub ok : AllOk (log_from m k then_on rest)

      pub opens : (calls rest : List (Call V)) (x : Account V) → AllByRecursion OpenCall calls → x.finished ≡ None
          → AllOk (log_from m k x (calls ++ rest)) → Opens x calls rest
      opens [] rest x h o ok = record { past = []; then_on = x; splits = refl; they_are = refl; past_ok = tt; still_open = o; ok = ok }
      opens (call ∷ calls) rest x h o ok =
          let s = step x call (calls ++ rest) (open_builds x call h.0 o) ok in
          let more = opens calls rest (changed m x (effect_of call)) h.1 (open_stays x call h.0 ∙ o) s.ok in
          record {
            past = accepted call s.answer ∷ more.past;
            then_on = more.then_on;
            splits = s.is ∙ ap (λ l. accepted call s.answer ∷ l) more.splits;
            they_are = ap (λ l. call ∷ l) more.they_are;
            past_ok = ((s.answer, refl), more.past_ok);
            still_open = more.still_open;
            ok = more.ok;
          }

      -- a check, finalising, a check again and a writing
      pub record Closes (x : Account V) (work work' cells ends : ℕ) : Type 0 where
        pub before : account.Answer V
        pub finishing : account.Answer V
        pub afterwards : account.Answer V
        pub writing : account.Answer V
        pub is : log_from m k x (which_is_unsatisfied work ∷ finalize ∷ which_is_unsatisfied work' ∷ to_matrices cells ends ∷ [])
            ≡ accepted (which_is_unsatisfied work) before ∷ accepted finalize finishing ∷ accepted (which_is_unsatisfied work') afterwards ∷ accepted
            (to_matrices cells ends) writing ∷ []

      pub closes : (x : Account V) (work work' cells ends : ℕ) → x.finished ≡ None
          → AllOk (log_from m k x (which_is_unsatisfied work ∷ finalize ∷ which_is_unsatisfied work' ∷ to_matrices cells ends ∷ []))
          → Closes x work work' cells ends
      closes x work work' cells ends o ok =
          let check = which_is_unsatisfied work in
          let check' = which_is_unsatisfied work' in
          let write = to_matrices cells ends in
          let y = changed m x (effect_of {V = V} finalize) in
          let a = step x check (finalize ∷ check' ∷ write ∷ []) refl ok in
          let b = step x finalize (check' ∷ write ∷ []) (ap is_open o) a.ok in
          let c = step y check' (write ∷ []) refl b.ok in
          let d = step y write [] refl c.ok in
          record {
            before = a.answer;
            finishing = b.answer;
            afterwards = c.answer;
            writing = d.answer;
            is = a.is ∙ ap (λ l. accepted check a.answer ∷ l)
                (b.is ∙ ap (λ l. accepted finalize b.answer ∷ l) (c.is ∙ ap (λ l. accepted check' c.answer ∷ l) d.is));
          }

  module _ (r : Rooms) (t : Lent V) where
    -- where no answer refuses, the log is of accepted calls
    pub all_ok : (calls : List (RunCall V)) (answers : List (Answer V)) → refusal_in answers ≡ Ok tt → AllOk (log_in r t calls answers)
    all_ok [] answers h = tt
    all_ok (call ∷ calls) [] h = tt
    all_ok (call ∷ calls) (Done ∷ answers) h = ((_, refl), all_ok calls answers h)
    all_ok (call ∷ calls) (Named v ∷ answers) h = ((_, refl), all_ok calls answers h)
    all_ok (call ∷ calls) (Unsatisfied row ∷ answers) h = ((_, refl), all_ok calls answers h)
    all_ok (call ∷ calls) (Assigned value ∷ answers) h = ((_, refl), all_ok calls answers h)
    all_ok (call ∷ calls) (Written counts ∷ answers) h = ((_, refl), all_ok calls answers h)
    all_ok (call ∷ calls) (Refused refusal ∷ answers) h = let never : ⊥ = cc in absurd never
    all_ok (call ∷ calls) (OutOfPlace ∷ answers) h = all_ok calls answers h

    -- a log is no longer than its calls
    log_short : (calls : List (RunCall V)) (answers : List (Answer V)) → length (log_in r t calls answers) ≤ length calls
    log_short [] answers = omega arith
    log_short (call ∷ calls) [] = omega arith
    log_short (call ∷ calls) (answer ∷ answers) =
        let short : (said : Option (Result (account.Answer V) Told))
        → length (event_in (as_call r call) said ++ log_in r t calls answers) ≤ suc (length calls)
        = λ said. elim said as (λ s. length (event_in (as_call r call) s ++ log_in r t calls answers) ≤ suc (length calls)) [
          | None ↦ omega (arith, log_short calls answers)
          | Some d ↦ omega (arith, log_short calls answers)
        ] in
        short (as_answer t answer)

    -- what was answered to each, as the account has it
    abbrev answered_in : List (Event V) → List (Option (Result (account.Answer V) Told))
    answered_in log = map (λ e. Some e.answer) log

    said_first : (call : Call V) (said : Option (Result (account.Answer V) Told)) (rest log : List (Event V))
        (said_rest : List (Option (Result (account.Answer V) Told))) (n : ℕ)
        → event_in call said ++ rest ≡ log → length log ≡ suc n → length rest ≤ n
        → ((es : List (Event V)) → rest ≡ es → length es ≡ n → said_rest ≡ answered_in es) → said ∷ said_rest ≡ answered_in log
    said_first call None rest log said_rest n e long short h = absurd (omega (arith, ap length e))
    said_first call (Some d) rest log said_rest n e long short h =
        let here : Event V = record { call = call; answer = d } in
        ap (λ l. Some d ∷ l) (h rest refl (omega (arith, ap length e))) ∙ ap answered_in e

    -- where the log has as many events as there are calls, each answer is its event's
    pub answers_are : (calls : List (RunCall V)) (answers : List (Answer V)) (log : List (Event V)) → log_in r t calls answers ≡ log
        → length log ≡ length calls → length answers ≡ length calls
        → map (as_answer t) answers ≡ answered_in log
    answers_are [] [] log e long same = ap answered_in e
    answers_are [] (answer ∷ answers) log e long same = absurd (omega arith)
    answers_are (call ∷ calls) [] log e long same = absurd (omega arith)
    answers_are (call ∷ calls) (answer ∷ answers) log e long same =
        said_first (as_call r call) (as_answer t answer) (log_in r t calls answers) log (map (as_answer t) answers) (length calls) e long
        (log_short calls answers)
        (λ es e' long'. answers_are calls answers es e' long' (omega arith))
