-- One call of a finished circuit: how a run of it alone stands. Assumes nothing.
use Rattle.std.proofs.Common.{◌≡◌, Bool, true, false, cond, List, [], ◌∷◌, ◌++◌, Some, None, Ok, Err, Option, Result, ℕ, sym, refl, ap, ◌∙◌, subst, ap₂, arith}
use Rattle.field.specs.Laws.{Model}
use Rattle.variables.specs.Refusals.{Told}
use Rattle.account.specs.Rows.{last_of}
use Rattle.account.specs.Account.{Finished, Account, Effect, asks, checks, writes, sets_mode, sets_goal, names_instance, names_witness, names_lists, constrains, finalises, is_open, builds, changed, matrices_of}
use Rattle.account.specs.Calls.{Call, Answer, Event, effect_of, to_matrices, if_accepted, after_answer, after_all}
use Rattle.account.specs.Run.{due, log_from}
use Rattle.tables.specs.Held.{State, lengths}
use Rattle.tables.proofs.Beyond.{same_beyond}
use Rattle.matrices.specs.Writing.{over, with_matrices}
use Rattle.calls.specs.Calls.{Beside}
use Rattle.calls.specs.Standing.{Stands, any, accepted_writings, filling, beside_after}
use Rattle.calls.specs.Runs.{Runs, dues}
use Rattle.calls.specs.Laws.{when_finished, WhileOpen}
use Rattle.calls.proofs.WritesWhole.{with_written}

-- a circuit that is not open is finished
pub finished_as : {V : Type 0} (o : Option (Finished V)) → false ≡ is_open o → (done : Finished V) × (o ≡ Some done)
finished_as None e = absurd (let z : ◌≡◌ {A = ℕ} 0 1 = cc in omega arith)
finished_as (Some done) e = (done, refl)

-- what builds while the circuit is open builds exactly then
open_builds : {V : Type 0} (x : Account V) (effect : Effect V) → WhileOpen effect → builds x effect ≡ is_open x.finished
open_builds x asks h = absurd h
open_builds x checks h = absurd h
open_builds x writes h = absurd h
open_builds x (sets_mode mode) h = refl
open_builds x (sets_goal goal) h = refl
open_builds x (names_instance v) h = refl
open_builds x (names_witness v) h = refl
open_builds x (names_lists ls) h = refl
open_builds x (constrains a b c) h = refl
open_builds x finalises h = refl

-- a call that writes nothing is no accepted writing, whatever it answers
pub none_written : {V : Type 0} (a : Result (Answer V) Told) → any {X = Effect V} (if_accepted a [] ++ []) ≡ false
none_written (Ok answer) = refl
none_written (Err refusal) = refl

module _ {V : Type 0} (m : Model V) where
  -- what an accepted call does not change a refused one does not
  after_same : (x : Account V) (a : Result (Answer V) Told) (effect : Effect V) → changed m x effect ≡ x → after_answer m a x effect ≡ x
  after_same x (Ok answer) effect e = e
  after_same x (Err refusal) effect e = refl

  abbrev pub event : Call V → Result (Answer V) Told → Event V
  event call a = record { call = call; answer = a }

  module _ (x : Account V) (done : Finished V) (finished : x.finished ≡ Some done) (b : Beside V) where
    -- a call of a finished circuit fills no work table, and without an accepted writing nothing is written
    pub beside_same : (call : Call V) (a : Result (Answer V) Told) → let log = event call a ∷ [] in
        any (accepted_writings log) ≡ false → b ≡ beside_after m x log b
    beside_same call a none =
        let y = after_all m x (event call a ∷ []) in
        sym (ap₂ (λ (o : Option (Finished V)) (w : Bool). record {
          work = over b.work (last_of [] (filling m o x (event call a) ++ []));
          written = with_matrices (cond w (matrices_of m y y.finished) None) b.written;
        }) finished none)

    -- an accepted writing writes the account's matrices
    pub beside_written : (cells ends : ℕ) (answer : Answer V)
        → with_written b (matrices_of m x x.finished) ≡ beside_after m x (event (to_matrices cells ends) (Ok answer) ∷ []) b
    beside_written cells ends answer =
        sym (ap (λ (o : Option (Finished V)). record {
          work = over b.work (last_of [] (filling m o x (event (to_matrices cells ends) (Ok answer)) ++ []));
          written = with_matrices (matrices_of m x x.finished) b.written;
        }) finished)

  module _ (s : State V) (x : Account V) (before now : Beside V) (stands : Stands (when_finished s before) x) where
    -- A call that is answered as is due, and whose log, be it empty or not, leaves the account as it was, makes a run.
    runs_by : (call : Call V) (answer : Option (Result (Answer V) Told)) (log : List (Event V)) → let k = lengths s.tables in
        answer ∷ [] ≡ dues m k x (call ∷ []) → log_from m k x (call ∷ []) ≡ log → after_all m x log ≡ x → now ≡ beside_after m x log before
        → Runs m k x (when_finished s before) (call ∷ []) (answer ∷ []) (when_finished s now)
    runs_by call answer log answered is same beside = record {
      answered = answered;
      stands =
          subst (λ es. Stands (when_finished s now) (after_all m x es)) (sym is)
          (subst (λ y. Stands (when_finished s now) y) (sym same) (record { phase = stands.phase; shows = stands.shows }));
      beyond = same_beyond s.tables;
      free = λ _. record { terms = refl; index = refl; instances = refl; witnesses = refl };
      beside = beside ∙ ap (λ es. beside_after m x es before) (sym is);
    }

    -- one that builds and changes nothing
    pub runs_one : (call : Call V) (a : Result (Answer V) Told) → let k = lengths s.tables in
        builds x (effect_of call) ≡ true → changed m x (effect_of call) ≡ x → a ≡ due m k x call → now ≡ beside_after m x (event call a ∷ []) before
        → Runs m k x (when_finished s before) (call ∷ []) (Some a ∷ []) (when_finished s now)
    runs_one call a built same is beside =
        runs_by call (Some a) (event call a ∷ [])
        (ap (λ o. Some o ∷ []) is ∙ ap (λ y. cond y (Some (due m (lengths s.tables) x call) ∷ []) (None ∷ [])) (sym built))
        (ap₂ (λ y o. cond y (event call o ∷ []) []) built (sym is)) (after_same x a (effect_of call) same) beside

    -- one that does not build
    pub runs_none : (call : Call V) → builds x (effect_of call) ≡ false → now ≡ before
        → Runs m (lengths s.tables) x (when_finished s before) (call ∷ []) (None ∷ []) (when_finished s now)
    runs_none call idle same =
        let k = lengths s.tables in
        runs_by call None [] (ap (λ y. cond y (Some (due m k x call) ∷ []) (None ∷ [])) (sym idle))
        (ap (λ y. cond y (event call (due m k x call) ∷ []) []) idle) refl same

    pub not_built : (effect : Effect V) → WhileOpen effect → builds x effect ≡ false
    not_built effect h = open_builds x effect h ∙ sym stands.phase
