-- A run under way: how it opens, what one turn of its loop adds, and what holds after the last one. Assumes nothing.
use Rattle.std.proofs.Common.{◌≡◌, ℕ, ◌+◌, ◌<◌, ◌≤◌, true, false, List, [], ◌∷◌, ◌++◌, map, length, take, drop, get_or, Some, None, Ok, Err, Option, Result, nat_lt, slice_set, sym, refl, ap, ◌∙◌, subst, ap₂, arith, length-set, drop-drop, subst₂}
use Rattle.std.proofs.lemmas.List.{map-append, take_more, take_more_set, take_all, drop-set-lt}
use Rattle.std.proofs.lemmas.Bool.{true≢false}
use Rattle.std.proofs.lemmas.Bool.Decides.{nat_tests}
use Rattle.field.specs.Laws.{Model, Keeps}
use Rattle.variables.specs.declared.Refusal.{Refusal}
use Rattle.variables.specs.Refusals.{Told, told}
use Rattle.account.specs.Account.{opened}
use Rattle.account.specs.Calls as account
use Rattle.account.specs.Promise.{Promised}
use Rattle.account.specs.Refusals.{first, opening_refusal}
use Rattle.tables.specs.declared.Counts.{Counts}
use Rattle.tables.specs.declared.Tables.{Tables}
use Rattle.tables.specs.Held.{Held, State, lengths, SamePlaces}
use Rattle.tables.specs.Calls.{Outcome, outcome, opened_counts, opened_tables, opened_in, opening}
use Rattle.calls.specs.declared.Call.{Call}
use Rattle.calls.specs.declared.Answer.{Answer}
use Rattle.calls.specs.Calls.{Beside, rooms, as_call, as_answer, log_in}
use Rattle.calls.specs.Standing.{Standing}
use Rattle.calls.specs.Runs.{Runs, Goes}
use Rattle.calls.specs.Does.{Does, DoAll, no_call, one_more}
use Rattle.calls.specs.Promise.{run_tests, Refuses, Shows}
use Rattle.calls.specs.Laws.{while_open, KeepsPromise}
use Rattle.calls.proofs.Grows.{runs_grow_lem, opening_runs}
use Rattle.calls.proofs.ReadsOn.{reads_on}
use Rattle.calls.proofs.DoesGo.{goes}
use Rattle.calls.proofs.PromiseKept.{runs_keep_promise}
use Rattle.runs.specs.declared.steps.Circuit.{Circuit}
use Rattle.runs.specs.declared.steps.Circuit.TheVariants.{Open, Finished}
use Rattle.runs.specs.Run.{standing, answers_to, Opens}

-- the slices that were lent are still those after two calls
pub places_on : {V : Type 0} (a b c : Tables V) → SamePlaces a b → SamePlaces b c → SamePlaces a c
places_on a b c h k = record {
  terms = k.terms ∙ h.terms;
  index = k.index ∙ h.index;
  instances = k.instances ∙ h.instances;
  witnesses = k.witnesses ∙ h.witnesses;
}

-- what lies beside the tables of a run, be its circuit open or finished
pub lies_beside : {V : Type 0} (c : Circuit) (t : Tables V) (b : Beside V) → (standing c t b).beside ≡ b
lies_beside (Open c) t b = refl
lies_beside (Finished f) t b = refl

module _ {V : Type 0} where
  -- The run stands so after the first n calls: opening was not refused, the calls are answered, and the places of the other answers are
  -- as they were.
  pub record Sofar (m : Model V) (h : Held V) (b : Beside V) (calls : List (Call V)) (start answers : List (Answer V)) (n : ℕ)
      (now : Standing V) : Type 0 where
    pub opens : opening_refusal (lengths h) ≡ None
    pub runs : Runs m (lengths h) (opened m) (while_open (opened_in m h) b) (map (as_call (rooms b)) (take n calls))
        (map (as_answer now.beside.written) (take n answers)) now
    pub does : DoAll m (while_open (opened_in m h) b) (map (as_call (rooms b)) (take n calls))
        (map (as_answer now.beside.written) (take n answers)) now
    pub room : rooms now.beside ≡ rooms b
    pub enough : length calls ≤ length start
    pub long : length answers ≡ length start
    pub rest : drop n answers ≡ drop n start

  module _ (m : Model V) (h : Held V) where
    -- what opening leaves, accepted or refused
    module _ (c : Counts) (now : Held V) where
      opened_as : (o : Option Told) → opening_refusal (lengths h) ≡ o
          → outcome o opened_counts (opened_tables m h) h ≡ record { answer = Ok c; state = now }
          → (opening_refusal (lengths h) ≡ None) × (opened_in m h ≡ record { counts = c; tables = now })
      opened_as None e is =
          let answer = ap (λ (z : Outcome (Held V) Counts). z.answer) is in
          let counts : opened_counts ≡ c = cc in
          let tables : opened_tables m h ≡ now = ap (λ (z : Outcome (Held V) Counts). z.state) is in
          (e, ap₂ (λ k t. record { counts = k; tables = t }) counts tables)
      opened_as (Some r) e is = let answer = ap (λ (z : Outcome (Held V) Counts). z.answer) is in let never : ⊥ = cc in absurd never

      opened_now : opening m h ≡ record { answer = Ok c; state = now }
          → (opening_refusal (lengths h) ≡ None) × (opened_in m h ≡ record { counts = c; tables = now })
      opened_now = opened_as (opening_refusal (lengths h)) refl

    module _ (r : Told) (now : Held V) where
      refused_as : (o : Option Told) → opening_refusal (lengths h) ≡ o
          → outcome o opened_counts (opened_tables m h) h ≡ record { answer = Err r; state = now }
          → (opening_refusal (lengths h) ≡ Some r) × (now ≡ h)
      refused_as None e is = let answer = ap (λ (z : Outcome (Held V) Counts). z.answer) is in let never : ⊥ = cc in absurd never
      refused_as (Some s) e is =
          let answer = ap (λ (z : Outcome (Held V) Counts). z.answer) is in
          let same : s ≡ r = cc in
          (e ∙ ap Some same, sym (ap (λ (z : Outcome (Held V) Counts). z.state) is))

      pub refused_now : opening m h ≡ record { answer = Err r; state = now } → (opening_refusal (lengths h) ≡ Some r) × (now ≡ h)
      refused_now = refused_as (opening_refusal (lengths h)) refl

    -- a run just opened
    pub sofar_opened : (b : Beside V) (calls : List (Call V)) (answers : List (Answer V)) (c : Counts) (now : Held V) → length calls ≤ length answers
        → opening m h ≡ record { answer = Ok c; state = now }
        → Sofar m h b calls answers answers 0 (while_open (record { counts = c; tables = now }) b)
    sofar_opened b calls answers c now enough is =
        let p = opened_now c now is in
        subst (λ (s : State V). Sofar m h b calls answers answers 0 (while_open s b)) p.1
        (record { opens = p.0; runs = opening_runs m h b p.0; does = no_call; room = refl; enough = enough; long = refl; rest = refl })

-- a test alone decides
alone_decides : (o : Option Told) → first (o ∷ []) ≡ o
alone_decides None = refl
alone_decides (Some r) = refl

module _ {V : Type 0} (calls : List (Call V)) (h : Held V) (b : Beside V) (answers : List (Answer V)) (enough : length calls ≤ length answers) where
  -- where there are enough places for the answers the opening decides
  opening_decides : (o : Option Told) → opening_refusal (lengths h) ≡ o → first (run_tests (length calls) (length answers) (lengths h)) ≡ o
  opening_decides o is =
      let test : nat_lt (length answers) (length calls) ≡ false = grind (arith, nat_tests) in
      rw test (ap (λ p. first (p ∷ [])) is ∙ alone_decides o)

  pub opened_well : opening_refusal (lengths h) ≡ None → (c : Circuit) (h' : Held V) (b' : Beside V) (answers' : List (Answer V))
      → Opens calls h b answers (Ok c) h' b' answers'
  opened_well is c h' b' answers' = record {
    refused = sym (opening_decides None is);
    leaves = λ (never : false ≡ true). absurd (true≢false (sym never));
  }

  pub not_opened : (m : Model V) (refusal : Refusal) (h' : Held V) → opening m h ≡ record { answer = Err (told refusal); state = h' }
      → Opens calls h b answers (Err refusal) h' b answers
  not_opened m refusal h' is =
      let p = refused_now m h (told refusal) h' is in
      record { refused = sym (opening_decides (Some (told refusal)) p.0); leaves = λ _. (p.1, refl, refl) }

module _ {V : Type 0} {m : Model V} (keeps : Keeps m) (h : Held V) (b : Beside V) (calls : List (Call V)) (start : List (Answer V)) where
  abbrev k : Call V → account.Call V
  k = as_call (rooms b)

  abbrev first_standing : Standing V
  first_standing = while_open (opened_in m h) b

  abbrev RunsTo : List (account.Call V) → List (Option (Result (account.Answer V) Told)) → Standing V → Type 0
  RunsTo = Runs m (lengths h) (opened m) first_standing

  -- opening keeps the lengths of the tables
  same_lengths : lengths (opened_in m h).tables ≡ lengths h
  same_lengths i = record {
    terms = length h.terms;
    index = length h.index;
    instances = length-set h.instances 0 m.one i;
    witnesses = length h.witnesses;
  }

  -- one call more, from a circuit just opened on
  run_more : (before now : Standing V) (made : List (account.Call V)) (said : List (Option (Result (account.Answer V) Told))) (call : account.Call V)
      (answer : Option (Result (account.Answer V) Told)) → RunsTo made said before → Goes m before call answer now
      → RunsTo (made ++ call ∷ []) (said ++ answer ∷ []) now
  run_more before now made said call answer runs goes =
      subst (λ lens. Runs m lens (opened m) first_standing (made ++ call ∷ []) (said ++ answer ∷ []) now) same_lengths
      (runs_grow_lem keeps (opened m) first_standing before now made said call answer
      (subst (λ lens. Runs m lens (opened m) first_standing made said before) (sym same_lengths) runs) goes)

  module _ (answers : List (Answer V)) (n : ℕ) (before now : Standing V) (call : Call V) (answer : Answer V) (within : n < length calls)
      (is : call ≡ get_or calls n call) (sofar : Sofar m h b calls start answers n before) where
    abbrev f : Answer V → Option (Result (account.Answer V) Told)
    f = as_answer now.beside.written

    -- the next call has a place for its answer
    there : n < length answers
    there = omega (arith, within, sofar.enough, sofar.long)

    -- the calls so far and the next one, and the places after it
    made_more : map k (take (n + 1) calls) ≡ map k (take n calls) ++ k call ∷ []
    made_more =
        ap (map k) (take_more calls n call within ∙ ap (λ c. take n calls ++ c ∷ []) (sym is)) ∙ map-append k (take n calls) (call ∷ [])

    rest_more : drop (n + 1) (slice_set answers n answer) ≡ drop (n + 1) start
    rest_more =
        drop-set-lt (n + 1) answers n answer (omega arith) ∙ sym (drop-drop 1 n answers) ∙ ap (drop 1) sofar.rest ∙ drop-drop 1 n start

    module _ (made : Does m before (k call) (f answer) now) where
      made_goes : Goes m before (k call) (f answer) now
      made_goes = goes keeps made

      -- the answers so far are read in the tables as they are now
      read_more : map f (take n answers) ≡ map (as_answer before.beside.written) (take n answers)
      read_more = reads_on m h b before now (map k (take n calls)) (take n answers) (k call) (f answer) sofar.runs made_goes

      said_more : map f (take (n + 1) (slice_set answers n answer)) ≡ map (as_answer before.beside.written) (take n answers) ++ f answer ∷ []
      said_more =
          ap (map f) (take_more_set answers n answer there) ∙ map-append f (take n answers) (answer ∷ []) ∙ ap (λ l. l ++ f answer ∷ []) read_more

      runs_more : RunsTo (map k (take (n + 1) calls)) (map f (take (n + 1) (slice_set answers n answer))) now
      runs_more =
          subst₂ (λ c a. RunsTo c a now) (sym made_more) (sym said_more)
          (run_more before now (map k (take n calls)) (map (as_answer before.beside.written) (take n answers)) (k call) (f answer) sofar.runs made_goes)

      does_more : DoAll m first_standing (map k (take (n + 1) calls)) (map f (take (n + 1) (slice_set answers n answer))) now
      does_more = subst₂ (λ c a. DoAll m first_standing c a now) (sym made_more) (sym said_more) (one_more sofar.does made)

    turned_there : Does m before (as_call (rooms before.beside) call) (f answer) now → rooms now.beside ≡ rooms before.beside
        → Sofar m h b calls start (slice_set answers n answer) (n + 1) now
    turned_there made room =
        let here : Does m before (k call) (f answer) now = subst (λ r. Does m before (as_call r call) (f answer) now) sofar.room made in
        record {
          opens = sofar.opens;
          runs = runs_more here;
          does = does_more here;
          room = room ∙ sofar.room;
          enough = sofar.enough;
          long = length-set answers n answer ∙ sofar.long;
          rest = rest_more;
        }

    -- One turn makes the next call, and writes its answer into the next place.
    pub turned : (lay left : Beside V) → before.beside ≡ lay → now.beside ≡ left
        → Does m before (as_call (rooms lay) call) (as_answer left.written answer) now → rooms left ≡ rooms lay
        → Sofar m h b calls start (slice_set answers n answer) (n + 1) now
    turned lay left lay_is left_is made room =
        turned_there (subst₂ (λ p q. Does m before (as_call (rooms p) call) (as_answer q.written answer) now) (sym lay_is) (sym left_is) made)
        (subst₂ (λ p q. rooms q ≡ rooms p) (sym lay_is) (sym left_is) room)

  module _ (answers : List (Answer V)) (now : Standing V) where
    -- the last turn is that at the number of calls
    pub last_turn : (n : ℕ) → n ≡ length calls → Sofar m h b calls start answers n now → Sofar m h b calls start answers (length calls) now
    last_turn n is sofar = subst (λ i. Sofar m h b calls start answers i now) is sofar

    -- After the last call the run keeps the promise.
    pub all_made : (left : Beside V) → now.beside ≡ left → Sofar m h b calls start answers (length calls) now
        → let said = answers_to calls answers in
        let log = log_in (rooms b) left.written calls said in
        Promised m log × Refuses m (lengths h) (rooms b) left.written calls said × Shows m h b log now
    all_made left left_is last =
        let said = answers_to calls answers in
        let kept : KeepsPromise m h b calls said now
        = runs_keep_promise keeps h b calls said now last.opens
        (subst (λ l. RunsTo (map k l) (map (as_answer now.beside.written) said) now) (take_all (length calls) calls (omega arith)) last.runs) in
        subst
        (λ (l : Beside V).
        let log = log_in (rooms b) l.written calls said in
        Promised m log × Refuses m (lengths h) (rooms b) l.written calls said × Shows m h b log now) left_is
        (kept.promised, kept.refused, kept.shows)

    -- and its calls have done what they are to do
    pub all_done : (left : Beside V) → now.beside ≡ left → Sofar m h b calls start answers (length calls) now
        → DoAll m first_standing (map k calls) (map (as_answer left.written) (answers_to calls answers)) now
    all_done left left_is last =
        subst (λ (l : Beside V). DoAll m first_standing (map k calls) (map (as_answer l.written) (answers_to calls answers)) now) left_is
        (subst (λ l. DoAll m first_standing (map k l) (map (as_answer now.beside.written) (answers_to calls answers)) now)
        (take_all (length calls) calls (omega arith)) last.does)
