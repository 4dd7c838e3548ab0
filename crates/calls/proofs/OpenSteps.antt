-- What a call that builds makes of a run, and how a call on an open circuit goes by whatever account the tables show. Assumes nothing.
use Rattle.std.proofs.Common.{◌≡◌, true, false, cond, List, [], ◌∷◌, ◌++◌, Some, None, Ok, Err, Option, Result, sym, refl, ap, ◌∙◌, subst, ap₂}
use Rattle.std.proofs.lemmas.Bool.{cond-true}
use Rattle.field.specs.Laws.{Model}
use Rattle.variables.specs.Refusals.{Told}
use Rattle.account.specs.Given.{lists}
use Rattle.account.specs.Evaluate.{filled}
use Rattle.account.specs.Rows.{last_of}
use Rattle.account.specs.Account.{Account, Effect, is_open, builds, matrices_of}
use Rattle.account.specs.Calls.{Call, Answer, Event, effect_of, if_accepted, after, after_all}
use Rattle.account.specs.Refusals.{used_terms}
use Rattle.account.specs.Run.{due, log_from}
use Rattle.account.proofs.Values.{open_means, closed}
use Rattle.tables.specs.Held.{State, lengths, KeepsBeyond}
use Rattle.tables.specs.Sound.{account_of}
use Rattle.tables.specs.Follows.{Shows, Follows}
use Rattle.matrices.specs.Writing.{over, with_matrices}
use Rattle.calls.specs.Calls.{Beside}
use Rattle.calls.specs.Standing.{Standing, Stands, FreeStays, any, writing_in, accepted_writings, fills, filling, beside_after, Finalises}
use Rattle.calls.specs.Runs.{Runs, Goes}
use Rattle.calls.specs.Laws.{while_open}

module _ {V : Type 0} where
  -- tables that show an account show the one that they hold
  own_shown : (s : State V) (x : Account V) → Shows s x → Shows s (account_of s)
  own_shown s x shows = record { sound = shows.sound; account = refl; terms = shows.terms ∙ ap used_terms (sym shows.account) }

  -- an open circuit stands for the account that its tables show
  pub stands_open : (s : State V) (b : Beside V) (x : Account V) → Shows s x → Stands (while_open s b) x
  stands_open s b x shows = record {
    phase = ap (λ (y : Account V). is_open y.finished) shows.account;
    shows = (λ _. shows, λ done e. absurd (closed x.finished done (ap (λ (y : Account V). y.finished) (sym shows.account)) e));
  }

  -- where nothing is brought, accepted or not, there is nothing
  none_brought : {X : Type 0} (answer : Result (Answer V) Told) → if_accepted {V = V} {X = X} answer [] ≡ []
  none_brought (Ok answer) = refl
  none_brought (Err refusal) = refl

module _ {V : Type 0} (m : Model V) where
  -- What a call that builds does, with its answer, to what stands for this account:
  pub record Makes (x : Account V) (before : Standing V) (e : Event V) (now : Standing V) : Type 0 where
    -- it builds and is answered as is due;
    pub built : builds x (effect_of e.call) ≡ true
    pub is_due : e.answer ≡ due m (lengths before.circuit.tables) x e.call
    -- what it leaves stands for the account after it;
    pub stands : Stands now (after m x e)
    pub beyond : KeepsBeyond before.circuit.tables now.circuit.tables
    pub free : (Finalises m x (e ∷ []) → ⊥) → FreeStays (after m x e) before.circuit.tables now.circuit.tables
    -- and what lies beside the tables is as its event says.
    pub beside : now.beside ≡ beside_after m x (e ∷ []) before.beside

  -- such a call is a run
  pub made_run : (x : Account V) (before : Standing V) (e : Event V) (now : Standing V) → Makes x before e now
      → Runs m (lengths before.circuit.tables) x before (e.call ∷ []) (Some e.answer ∷ []) now
  made_run x before e now h =
      let k = lengths before.circuit.tables in
      let log : e ∷ [] ≡ log_from m k x (e.call ∷ [])
      = ap (λ (a : Result (Answer V) Told). record { call = e.call; answer = a } ∷ []) h.is_due
      ∙ sym (cond-true (builds x (effect_of e.call)) _ _ h.built) in
      record {
        answered = ap (λ (a : Result (Answer V) Told). Some a ∷ []) h.is_due ∙ sym (cond-true (builds x (effect_of e.call)) _ _ h.built);
        stands = subst (λ (l : List (Event V)). Stands now (after_all m x l)) log h.stands;
        beyond = h.beyond;
        free =
            subst (λ (l : List (Event V)). (Finalises m x l → ⊥) → FreeStays (after_all m x l) before.circuit.tables now.circuit.tables) log h.free;
        beside = subst (λ (l : List (Event V)). now.beside ≡ beside_after m x l before.beside) log h.beside;
      }

  -- a call goes by every account that the tables of an open circuit show where it goes by the one that they hold
  pub goes_open : (s : State V) (b : Beside V) (call : Call V) (answer : Option (Result (Answer V) Told)) (now : Standing V)
      → (Shows s (account_of s) → Runs m (lengths s.tables) (account_of s) (while_open s b) (call ∷ []) (answer ∷ []) now)
      → Goes m (while_open s b) call answer now
  goes_open s b call answer now h x stands =
      let shows = stands.shows.0 (open_means x.finished (sym stands.phase)) in
      subst (λ (y : Account V). Runs m (lengths s.tables) y (while_open s b) (call ∷ []) (answer ∷ []) now) shows.account (h (own_shown s x shows))

  -- a call that builds and follows the account, and leaves the circuit open
  pub open_goes : (s t : State V) (b c : Beside V) (call : Call V) (answer : Result (Answer V) Told) → builds (account_of s) (effect_of call) ≡ true
      → Follows m call answer s t → KeepsBeyond s.tables t.tables → ((y : Account V) → Shows t y → FreeStays y s.tables t.tables)
      → (Shows s (account_of s) → c ≡ beside_after m (account_of s) (record { call = call; answer = answer } ∷ []) b)
      → Goes m (while_open s b) call (Some answer) (while_open t c)
  open_goes s t b c call answer built follows beyond free beside =
      goes_open s b call (Some answer) (while_open t c)
      (λ shows.
      let x = account_of s in
      let e : Event V = record { call = call; answer = answer } in
      let left = follows x shows in
      made_run x (while_open s b) e (while_open t c)
      (record {
        built = built;
        is_due = left.0;
        stands = stands_open t c (after m x e) left.1;
        beyond = beyond;
        free = λ _. free (after m x e) left.1;
        beside = beside shows;
      }))

  -- An event that fills nothing and writes nothing leaves all that lies beside the tables.
  beside_left : (x : Account V) (e : Event V) (b : Beside V) → filling m x.finished x e ≡ [] → accepted_writings (e ∷ []) ≡ []
      → b ≡ beside_after m x (e ∷ []) b
  beside_left x e b fs ws =
      let y = after m x e in
      sym
      (ap₂ (λ (f : List (List (Option V))) (w : List (Effect V)).
      let left : Beside V
      = record { work = over b.work (last_of [] (f ++ [])); written = with_matrices (cond (any w) (matrices_of m y y.finished) None) b.written } in
      left) fs ws)

  -- so does a call on an open circuit that is no check, no question and no writing
  pub beside_stays : (s : State V) (e : Event V) (b : Beside V) → fills m (account_of s) e.call ≡ false → writing_in (effect_of e.call) ≡ []
      → b ≡ beside_after m (account_of s) (e ∷ []) b
  beside_stays s e b f w =
      let x = account_of s in
      let fs : filling m x.finished x e ≡ []
      = ap (λ i. if_accepted e.answer (cond i (filled m x.instances.kept x.witnesses.kept (lists x.given) ∷ []) [])) f ∙ none_brought e.answer in
      let ws : accepted_writings (e ∷ []) ≡ []
      = ap (λ (l : List (Effect V)). if_accepted e.answer l ++ []) w ∙ ap (λ (l : List (Effect V)). l ++ []) (none_brought e.answer) in
      beside_left x e b fs ws

  -- so it goes by the account where it builds and follows it
  pub quiet_goes : (s t : State V) (b : Beside V) (call : Call V) (answer : Result (Answer V) Told) → builds (account_of s) (effect_of call) ≡ true
      → fills m (account_of s) call ≡ false → writing_in (effect_of call) ≡ [] → Follows m call answer s t → KeepsBeyond s.tables t.tables
      → ((y : Account V) → Shows t y → FreeStays y s.tables t.tables) → Goes m (while_open s b) call (Some answer) (while_open t b)
  quiet_goes s t b call answer built f w follows beyond free =
      open_goes s t b b call answer built follows beyond free (λ _. beside_stays s (record { call = call; answer = answer }) b f w)
