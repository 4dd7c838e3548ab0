-- Two runs, one after the other, are a run, and a circuit just opened begins one. Assumes nothing.
use Rattle.std.proofs.Common.{◌≡◌, cond, List, [], ◌∷◌, ◌++◌, None, Option, Result, sym, refl, ap, ◌∙◌, subst, ap₂, append_assoc}
use Rattle.field.specs.Laws.{Model, Keeps}
use Rattle.variables.specs.Refusals.{Told}
use Rattle.account.specs.Account.{Account, KeepsMatrices, matrices_of}
use Rattle.account.specs.Calls.{Call, Answer, Event, after_all}
use Rattle.account.specs.Refusals.{Lengths}
use Rattle.account.specs.Run.{log_from}
use Rattle.account.proofs.Values.{closed}
use Rattle.account.proofs.Extends.{run_extends}
use Rattle.account.proofs.Runs.{after_append}
use Rattle.account.proofs.Calls.{calls_run}
use Rattle.tables.specs.Held.{Held, lengths, KeepsBeyond}
use Rattle.tables.proofs.Beyond.{same_beyond, further_beyond}
use Rattle.tables.proofs.Calls.{calls_follow}
use Rattle.matrices.specs.Writing.{Lent, with_matrices}
use Rattle.calls.specs.Calls.{Beside}
use Rattle.calls.specs.Standing.{Standing, Stands, FreeStays, any, accepted_writings, written_from, beside_after, Finalises}
use Rattle.calls.specs.Runs.{Runs}
use Rattle.calls.specs.Laws.{RunsGrow, OpeningRuns}
use Rattle.calls.proofs.AfterRuns.{log_append, dues_append, stays_finished, written_finished}
use Rattle.calls.proofs.GrowPlaces.{grown, free_on}
use Rattle.calls.proofs.GrowBeside.{any_append, with_again, writings_append, work_on}

module _ {V : Type 0} where
  -- tables that keep their lengths
  long_as : (a b : Held V) → KeepsBeyond a b → lengths b ≡ lengths a
  long_as a b h i = record { terms = h.terms.length i; index = h.index.length i; instances = h.instances.length i; witnesses = h.witnesses.length i }

  module _ {m : Model V} (keeps : Keeps m) where
    -- a log finalises where its first part does, or its second
    finalises_first : (log more : List (Event V)) (x : Account V) → Finalises m x log → Finalises m x (log ++ more)
    finalises_first log more x (past, e, future, at, is, kept) =
        (past, e, future ++ more, ap (λ l. l ++ more) at ∙ append_assoc past (e ∷ future) more, is, kept)

    finalises_then : (log more : List (Event V)) (x : Account V) → Finalises m (after_all m x log) more → Finalises m x (log ++ more)
    finalises_then log more x (past, e, future, at, is, kept) = (
      log ++ past,
      e,
      future,
      ap (λ l. log ++ l) at ∙ sym (append_assoc log past (e ∷ future)),
      is,
      subst (λ (y : Account V). KeepsMatrices y.mode) (sym (after_append keeps log past x)) kept,
    )

    module _ (k : Lengths) (x : Account V) (calls more : List (Call V)) where
      abbrev log : List (Event V)
      log = log_from m k x calls

      abbrev y : Account V
      y = after_all m x log

      abbrev log_then : List (Event V)
      log_then = log_from m k y more

      abbrev z : Account V
      z = after_all m y log_then

      abbrev whole : List (Event V)
      whole = log_from m k x (calls ++ more)

      whole_is : whole ≡ log ++ log_then
      whole_is = log_append m k calls more x

      ends : after_all m x (log ++ log_then) ≡ z
      ends = after_append keeps log log_then x

      -- what both logs have written is what the whole one has
      written_on : (t : Lent V) → with_matrices (written_from m y log_then) (with_matrices (written_from m x log) t)
          ≡ with_matrices (written_from m x (log ++ log_then)) t
      written_on t =
          let a = any (accepted_writings log) in
          let b = any (accepted_writings log_then) in
          with_again a b (matrices_of m y y.finished) (matrices_of m z z.finished) t
          (λ w. ap (λ (u : Account V). matrices_of m u u.finished) (sym (stays_finished m k more y (written_finished m k calls x w))))
          ∙ ap₂ (λ c (u : Account V). with_matrices (cond c (matrices_of m u u.finished) None) t)
          (sym (ap any (writings_append log log_then) ∙ any_append (accepted_writings log) (accepted_writings log_then))) (sym ends)

      -- and so what lies beside the tables after both is what lies there after the whole one
      beside_on : (b : Beside V) → beside_after m y log_then (beside_after m x log b) ≡ beside_after m x (log ++ log_then) b
      beside_on b =
          ap₂ (λ work written. record { work = work; written = written })
          (work_on m b.work log log_then x (calls_run m k calls x) (calls_run m k more y)) (written_on b.written)

      module _ (start before now : Standing V) (answers others : List (Option (Result (Answer V) Told)))
          (first : Runs m k x start calls answers before) (second : Runs m k y before more others now) where
        -- what is free stays, unless either finalises
        free_stays : (Finalises m x (log ++ log_then) → ⊥) → FreeStays z start.circuit.tables now.circuit.tables
        free_stays never =
            free_on y z start.circuit.tables before.circuit.tables now.circuit.tables (grown y z (run_extends m log_then y (calls_run m k more y)))
            (first.free (λ f. never (finalises_first log log_then x f))) (second.free (λ f. never (finalises_then log log_then x f)))

        -- two runs, one after the other, are a run
        runs_append : Runs m k x start (calls ++ more) (answers ++ others) now
        runs_append = record {
          answered = ap₂ (λ a b. a ++ b) first.answered second.answered ∙ sym (dues_append m k calls more x);
          stands = subst (Stands now) (sym (ap (after_all m x) whole_is ∙ ends)) second.stands;
          beyond = further_beyond start.circuit.tables before.circuit.tables now.circuit.tables first.beyond second.beyond;
          free =
              subst (λ (l : List (Event V)). (Finalises m x l → ⊥) → FreeStays (after_all m x l) start.circuit.tables now.circuit.tables)
              (sym whole_is) (λ never. subst (λ (u : Account V). FreeStays u start.circuit.tables now.circuit.tables) (sym ends) (free_stays never));
          beside = second.beside ∙ ap (beside_after m y log_then) first.beside ∙ beside_on start.beside
              ∙ ap (λ l. beside_after m x l start.beside) (sym whole_is);
        }

    -- one call more is a run of one call after the others
    pub runs_grow_lem : RunsGrow m
    runs_grow_lem x start before now calls answers call answer run goes =
        let k = lengths start.circuit.tables in
        let y = after_all m x (log_from m k x calls) in
        runs_append k x calls (call ∷ []) start before now answers (answer ∷ []) run
        (subst (λ lens. Runs m lens y before (call ∷ []) (answer ∷ []) now) (long_as start.circuit.tables before.circuit.tables run.beyond)
        (goes y run.stands))

  -- a circuit just opened stands for the account as it starts, and no call has changed anything
  pub opening_runs : (m : Model V) → OpeningRuns m
  opening_runs m h b opens = record {
    answered = refl;
    stands = record { phase = refl; shows = (λ _. (calls_follow m).new h opens, λ done e. absurd (closed None done refl e)) };
    beyond = same_beyond _;
    free = λ _. record { terms = refl; index = refl; instances = refl; witnesses = refl };
    beside = refl;
  }
