-- The log of more calls, what is due to them, and an account that is finished. Assumes nothing.
use Rattle.std.proofs.Common.{◌≡◌, Bool, true, false, cond, not, List, [], ◌∷◌, ◌++◌, Some, None, Ok, Err, Option, Result, sym, refl, ap, ◌∙◌, subst}
use Rattle.std.proofs.lemmas.Bool.{cond_both, true≢false}
use Rattle.field.specs.Laws.{Model}
use Rattle.variables.specs.Refusals.{Told}
use Rattle.account.specs.Account.{Account, Effect, asks, checks, writes, is_open, builds, changed}
use Rattle.account.specs.Calls.{Call, Answer, Event, effect_of, if_accepted, after_answer, after, after_all}
use Rattle.account.specs.Refusals.{Lengths}
use Rattle.account.specs.Run.{due, log_from}
use Rattle.calls.specs.Standing.{any, writing_in, accepted_writings}
use Rattle.calls.specs.Runs.{dues}

-- what holds of both branches of a test holds of the branch taken
both_ways : {X Y Z : Type 0} (f : X → Z → Y) (b : Bool) (p q : Y) (p' q' : X) (l l' : Z) → p ≡ f p' l → q ≡ f q' l'
    → cond b p q ≡ f (cond b p' q') (cond b l l')
both_ways f true p q p' q' l l' h k = h
both_ways f false p q p' q' l l' h k = k

module _ {V : Type 0} (m : Model V) where
  -- on a finished circuit nothing that builds changes the account
  left_changed : (x : Account V) (e : Effect V) → builds x e ≡ true → is_open x.finished ≡ false → changed m x e ≡ x
  left_changed x asks b f = refl
  left_changed x checks b f = refl
  left_changed x writes b f = refl
  left_changed x other b f = absurd (true≢false (sym b ∙ f))

  left : (x : Account V) (e : Effect V) (answer : Result (Answer V) Told) → builds x e ≡ true → is_open x.finished ≡ false
      → after_answer m answer x e ≡ x
  left x e (Ok a) b f = left_changed x e b f
  left x e (Err r) b f = refl

  -- on an open one nothing that builds is a writing
  no_writing : (x : Account V) (e : Effect V) → builds x e ≡ true → is_open x.finished ≡ true → writing_in e ≡ []
  no_writing x writes b f = absurd (true≢false (sym b ∙ ap not f))
  no_writing x other b f = refl

  none_written : (x : Account V) (e : Effect V) (answer : Result (Answer V) Told) → builds x e ≡ true → is_open x.finished ≡ true
      → if_accepted answer (writing_in e) ≡ []
  none_written x e (Ok a) b f = no_writing x e b f
  none_written x e (Err r) b f = refl

  module _ (k : Lengths) where
    abbrev event : Account V → Call V → Event V
    event x call = record { call = call; answer = due m k x call }

    -- the log of more calls goes on from the account that the first lead to
    pub log_append : (calls more : List (Call V)) (x : Account V)
        → let log = log_from m k x calls in log_from m k x (calls ++ more) ≡ log ++ log_from m k (after_all m x log) more
    log_append [] more x = refl
    log_append (call ∷ calls) more x =
        let e = event x call in
        both_ways (λ (l : List (Event V)) (l' : List (Event V)). l ++ log_from m k (after_all m x l') more) (builds x (effect_of call)) _ _ _ _ _ _
        (ap (λ l. e ∷ l) (log_append calls more (after m x e))) (log_append calls more x)

    -- and so does what is due
    pub dues_append : (calls more : List (Call V)) (x : Account V)
        → dues m k x (calls ++ more) ≡ dues m k x calls ++ dues m k (after_all m x (log_from m k x calls)) more
    dues_append [] more x = refl
    dues_append (call ∷ calls) more x =
        let e = event x call in
        both_ways (λ (d : List (Option (Result (Answer V) Told))) (l : List (Event V)). d ++ dues m k (after_all m x l) more)
        (builds x (effect_of call)) _ _ _ _ _ _
        (ap (λ d. Some e.answer ∷ d) (dues_append calls more (after m x e))) (ap (λ d. None ∷ d) (dues_append calls more x))

    -- a finished circuit has one account for good
    pub stays_finished : (calls : List (Call V)) (x : Account V) → is_open x.finished ≡ false → after_all m x (log_from m k x calls) ≡ x
    stays_finished [] x f = refl
    stays_finished (call ∷ calls) x f =
        cond_both (builds x (effect_of call)) _ _ (λ (l : List (Event V)). after_all m x l ≡ x)
        (λ b.
        let same = left x (effect_of call) (due m k x call) b f in
        subst (λ (y : Account V). after_all m y (log_from m k y calls) ≡ x) (sym same) (stays_finished calls x f))
        (λ _. stays_finished calls x f)

    -- where a writing was accepted the circuit is finished
    finished_if : (calls : List (Call V)) (x : Account V) (o : Bool) → is_open x.finished ≡ o → any (accepted_writings (log_from m k x calls)) ≡ true
        → is_open (after_all m x (log_from m k x calls)).finished ≡ false
    finished_if calls x false f w = ap (λ (y : Account V). is_open y.finished) (stays_finished calls x f) ∙ f
    finished_if [] x true f w = absurd (true≢false (sym w))
    finished_if (call ∷ calls) x true f w =
        let e = event x call in
        cond_both (builds x (effect_of call)) _ _
        (λ (l : List (Event V)). any (accepted_writings l) ≡ true → is_open (after_all m x l).finished ≡ false)
        (λ b w'.
        let y = after m x e in
        finished_if calls y (is_open y.finished) refl
        (subst (λ l. any (l ++ accepted_writings (log_from m k y calls)) ≡ true) (none_written x (effect_of call) e.answer b f) w'))
        (λ _ w'. finished_if calls x true f w') w

    pub written_finished : (calls : List (Call V)) (x : Account V) → any (accepted_writings (log_from m k x calls)) ≡ true
        → is_open (after_all m x (log_from m k x calls)).finished ≡ false
    written_finished calls x w = finished_if calls x (is_open x.finished) refl w
