-- The log of calls that are answered as is due is the run of the account. Assumes nothing.
use Rattle.std.proofs.Common.{◌≡◌, ℕ, suc, Bool, true, false, cond, List, [], ◌∷◌, ◌++◌, map, take, Some, None, Option, Result, sym, refl, ap, ◌∙◌, subst, ap₂, subst₂, append_assoc}
use Rattle.std.specs.List.{slice_get}
use Rattle.field.specs.Laws.{Model}
use Rattle.variables.specs.Refusals.{Told}
use Rattle.account.specs.Account.{Account, builds}
use Rattle.account.specs.Calls as account
use Rattle.account.specs.Calls.{Event, effect_of, after, after_all}
use Rattle.account.specs.Refusals.{Lengths}
use Rattle.account.specs.Run.{due, log_from}
use Rattle.account.proofs.Refuses.{some_none, some_is}
use Rattle.matrices.specs.Writing.{Lent}
use Rattle.calls.specs.declared.Call.{Call}
use Rattle.calls.specs.declared.Answer.{Answer}
use Rattle.calls.specs.Calls.{Rooms, as_call, as_answer, event_in, log_in}
use Rattle.calls.specs.Runs.{dues}

-- what is due to a call that builds
abbrev pub Due : Type 0 → Type 0
Due V = Result (account.Answer V) Told

-- what is answered to a call: none where it was out of place
abbrev pub Said : Type 0 → Type 0
Said V = Option (Due V)

module _ {V : Type 0} where
  -- a call has something due to it
  none_due : (b : Bool) (d d' : Said V) (ds ds' : List (Said V)) → ◌≡◌ {A = List (Said V)} [] (cond b (d ∷ ds) (d' ∷ ds')) → ⊥
  none_due true d d' ds ds' e = cc
  none_due false d d' ds ds' e = cc

  -- the first answer, where the answers are the due ones
  first_said : (b : Bool) (d : Due V) (said : Said V) (rest ds ds' : List (Said V)) → said ∷ rest ≡ cond b (Some d ∷ ds) (None ∷ ds')
      → said ≡ cond b (Some d) None
  first_said true d said rest ds ds' e = cc
  first_said false d said rest ds ds' e = cc

  -- the event of a first call, if it builds, and the log of the calls after it
  first_event : (b : Bool) (call : account.Call V) (d : Due V) (said : Said V) (rest ds ds' : List (Said V)) (log l l' : List (Event V))
      → said ∷ rest ≡ cond b (Some d ∷ ds) (None ∷ ds') → (rest ≡ ds → log ≡ l) → (rest ≡ ds' → log ≡ l')
      → event_in call said ++ log ≡ cond b (record { call = call; answer = d } ∷ l) l'
  first_event true call d said rest ds ds' log l l' e h h' =
      let head : said ≡ Some d = cc in
      let tail : rest ≡ ds = cc in
      ap₂ (λ (s : Said V) (es : List (Event V)). event_in call s ++ es) head (h tail)
  first_event false call d said rest ds ds' log l l' e h h' =
      let head : said ≡ None = cc in
      let tail : rest ≡ ds' = cc in
      ap₂ (λ (s : Said V) (es : List (Event V)). event_in call s ++ es) head (h' tail)

  module _ (m : Model V) where
    -- what holds of the account after a first call and more holds where the first is answered as is due
    past_first : (b : Bool) (call : account.Call V) (d : Due V) (said : Said V) (rest ds ds' : List (Said V)) (x : Account V) (log : List (Event V))
        (P : Account V → Type 0)
        → said ∷ rest ≡ cond b (Some d ∷ ds) (None ∷ ds')
        → (rest ≡ ds → P (after_all m (after m x (record { call = call; answer = d })) log)) → (rest ≡ ds' → P (after_all m x log))
        → P (after_all m x (event_in call said ++ log))
    past_first true call d said rest ds ds' x log P e h h' =
        let head : said ≡ Some d = cc in
        let tail : rest ≡ ds = cc in
        subst (λ (s : Said V). P (after_all m x (event_in call s ++ log))) (sym head) (h tail)
    past_first false call d said rest ds ds' x log P e h h' =
        let head : said ≡ None = cc in
        let tail : rest ≡ ds' = cc in
        subst (λ (s : Said V). P (after_all m x (event_in call s ++ log))) (sym head) (h' tail)

    module _ (k : Lengths) where
      -- what is due to one call: none where it does not build
      abbrev pub due_to : Account V → account.Call V → Said V
      due_to x call = cond (builds x (effect_of call)) (Some (due m k x call)) None

      module _ (r : Rooms) (t : Lent V) where
        -- calls that are answered as is due have the log that the account makes of them
        pub log_due : (calls : List (Call V)) (answers : List (Answer V)) (x : Account V)
            → map (as_answer t) answers ≡ dues m k x (map (as_call r) calls)
            → log_in r t calls answers ≡ log_from m k x (map (as_call r) calls)
        log_due [] answers x e = refl
        log_due (call ∷ calls) [] x e = absurd (none_due (builds x (effect_of (as_call r call))) _ _ _ _ e)
        log_due (call ∷ calls) (answer ∷ answers) x e =
            let c = as_call r call in
            let d = due m k x c in
            first_event (builds x (effect_of c)) c d (as_answer t answer) (map (as_answer t) answers) _ _ _ _ _ e
            (log_due calls answers (after m x (record { call = c; answer = d }))) (log_due calls answers x)

        -- each of them is answered as is due by the account of the calls before it
        pub said_due : (calls : List (Call V)) (answers : List (Answer V)) (x : Account V)
            → map (as_answer t) answers ≡ dues m k x (map (as_call r) calls)
            → (i : ℕ) (call : Call V) (answer : Answer V) → slice_get calls i ≡ Some call → slice_get answers i ≡ Some answer
            → as_answer t answer ≡ due_to (after_all m x (log_in r t (take i calls) (take i answers))) (as_call r call)
        said_due [] answers x e i call answer p q = absurd (some_none call _ p refl)
        said_due (c ∷ calls) [] x e i call answer p q = absurd (some_none answer _ q refl)
        said_due (c ∷ calls) (a ∷ answers) x e ℕ.zero call answer p q =
            subst₂ (λ (b : Answer V) (d : Call V). as_answer t b ≡ due_to x (as_call r d)) (some_is a answer q) (some_is c call p)
            (first_said (builds x (effect_of (as_call r c))) (due m k x (as_call r c)) (as_answer t a) (map (as_answer t) answers) _ _ e)
        said_due (c ∷ calls) (a ∷ answers) x e (suc i) call answer p q =
            let first = as_call r c in
            let d = due m k x first in
            let before = log_in r t (take i calls) (take i answers) in
            past_first (builds x (effect_of first)) first d (as_answer t a) (map (as_answer t) answers) _ _ x before
            (λ y. as_answer t answer ≡ due_to y (as_call r call)) e
            (λ h. said_due calls answers (after m x (record { call = first; answer = d })) h i call answer p q)
            (λ h. said_due calls answers x h i call answer p q)

  -- The log of calls has the log of those before a call, then that call if it was in place, and then those after it.
  pub log_at : (r : Rooms) (t : Lent V) (calls : List (Call V)) (answers : List (Answer V)) (i : ℕ) (call : Call V) (answer : Answer V)
      → slice_get calls i ≡ Some call → slice_get answers i ≡ Some answer
      → let before = log_in r t (take i calls) (take i answers) in
      (future : List (Event V)) × (log_in r t calls answers ≡ before ++ (event_in (as_call r call) (as_answer t answer) ++ future))
  log_at r t [] answers i call answer p q = absurd (some_none call _ p refl)
  log_at r t (c ∷ calls) [] i call answer p q = absurd (some_none answer _ q refl)
  log_at r t (c ∷ calls) (a ∷ answers) ℕ.zero call answer p q = (
    log_in r t calls answers,
    ap₂ (λ (d : Call V) (b : Answer V). event_in (as_call r d) (as_answer t b) ++ log_in r t calls answers) (some_is c call p) (some_is a answer q),
  )
  log_at r t (c ∷ calls) (a ∷ answers) (suc i) call answer p q =
      let rest = log_at r t calls answers i call answer p q in
      let here = event_in (as_call r c) (as_answer t a) in
      let before = log_in r t (take i calls) (take i answers) in
      let on = event_in (as_call r call) (as_answer t answer) ++ rest.0 in
      (rest.0, ap (λ (l : List (Event V)). here ++ l) rest.1 ∙ sym (append_assoc here before on))
