-- A run of calls on a circuit just opened keeps the promise. Assumes nothing.
use Rattle.std.proofs.Common.{◌≡◌, ◌≢◌, ℕ, ◌<◌, List, ◌∷◌, ◌++◌, map, length, take, Some, None, Err, sym, refl, ap, ◌∙◌, subst, arith}
use Rattle.std.specs.List.{slice_get}
use Rattle.std.proofs.lemmas.List.{drop-set-lt}
use Rattle.field.specs.Laws.{Model, Keeps}
use Rattle.variables.specs.Refusals.{Told}
use Rattle.account.specs.Account.{Account, opened}
use Rattle.account.specs.Calls as account
use Rattle.account.specs.Calls.{Event, account}
use Rattle.account.specs.Refusals.{Lengths, opening_refusal}
use Rattle.account.specs.Run.{log_of}
use Rattle.account.specs.Promise.{Promised}
use Rattle.account.proofs.Calls.{every_run}
use Rattle.account.proofs.Fits.{tables_fit}
use Rattle.tables.specs.Held.{Held, lengths}
use Rattle.tables.specs.Calls.{opened_in}
use Rattle.tables.proofs.Beyond.{further_beyond, calls_keep_beyond}
use Rattle.matrices.specs.Writing.{Lent}
use Rattle.calls.specs.declared.Call.{Call}
use Rattle.calls.specs.declared.Answer.{Answer}
use Rattle.calls.specs.Calls.{Rooms, Beside, rooms, as_call, as_answer, event_in, log_in}
use Rattle.calls.specs.Standing.{Standing, FreeStays}
use Rattle.calls.specs.Runs.{dues, Runs}
use Rattle.calls.specs.Promise.{Refuses, Shows}
use Rattle.calls.specs.Laws.{while_open, RunsKeepPromise}
use Rattle.calls.proofs.LogDue.{Said, log_due, said_due, log_at}
use Rattle.calls.proofs.DueAnswers.{answered_due}

module _ {V : Type 0} where
  -- Opening writes the first instance place alone, which is not free after any calls.
  free_from : (m : Model V) (x : Account V) (h now : Held V) (rest : List V) → x.instances.kept ≡ m.one ∷ rest
      → FreeStays x (opened_in m h).tables now → FreeStays x h now
  free_from m x h now rest begins f =
      let some : 0 < length x.instances.kept = subst (λ (l : List V). 0 < length l) (sym begins) (omega arith) in
      record {
        terms = f.terms;
        index = f.index;
        instances = f.instances ∙ drop-set-lt (length x.instances.kept) h.instances 0 m.one some;
        witnesses = f.witnesses;
      }

  module _ {m : Model V} (keeps : Keeps m) where
    -- what a run leaves, told from what was lent before the opening
    shown : (h : Held V) (b : Beside V) (calls : List (account.Call V)) (answers : List (Said V)) (now : Standing V)
        → opening_refusal (lengths h) ≡ None → Runs m (lengths h) (opened m) (while_open (opened_in m h) b) calls answers now
        → Shows m h b (log_of m (lengths h) calls) now
    shown h b calls answers now opens run =
        let log = log_of m (lengths h) calls in
        let begins = (every_run keeps (lengths h) calls).promised.begins in
        record {
          stands = run.stands;
          beyond = further_beyond h (opened_in m h).tables now.circuit.tables ((calls_keep_beyond m).new h opens) run.beyond;
          free = λ no. free_from m (account m log) h now.circuit.tables begins.0 begins.1 (run.free no);
          beside_now = run.beside;
        }

    module _ (k : Lengths) (opens : opening_refusal k ≡ None) (r : Rooms) (t : Lent V) (calls : List (Call V)) (answers : List (Answer V)) where
      -- the calls are answered as is due
      abbrev AnsweredDue : Type 0
      AnsweredDue = map (as_answer t) answers ≡ dues m k (opened m) (map (as_call r) calls)

      -- no call is refused by 17
      other_number : AnsweredDue → (i : ℕ) (call : Call V) (answer : Answer V) → slice_get calls i ≡ Some call
          → slice_get answers i ≡ Some answer → (told : Told) → as_answer t answer ≡ Some (Err told) → told.number ≢ 17
      other_number due i call answer p q told is =
          let past = log_in r t (take i calls) (take i answers) in
          let at = log_at r t calls answers i call answer p q in
          let whole : log_of m k (map (as_call r) calls) ≡ past ++ record { call = as_call r call; answer = Err told } ∷ at.0
          = sym (log_due m k r t calls answers (opened m) due) ∙ at.1
          ∙ ap (λ (s : Said V). past ++ (event_in (as_call r call) s ++ at.0)) is in
          (tables_fit keeps k opens (map (as_call r) calls)).never_17 past at.0 (record { call = as_call r call; answer = Err told }) whole told refl

      -- each call is answered as is due to it, and their log is the run of the account
      refuses : AnsweredDue → Refuses m k r t calls answers
      refuses due = record {
        each = λ i call answer p q.
            let before = log_in r t (take i calls) (take i answers) in
            answered_due m k (account m before) (as_call r call) (as_answer t answer)
            (said_due m k r t calls answers (opened m) due i call answer p q) (other_number due i call answer p q);
        run = log_due m k r t calls answers (opened m) due;
      }

  pub runs_keep_promise : {m : Model V} → Keeps m → RunsKeepPromise m
  runs_keep_promise {m} keeps h b calls answers now opens run =
      let k = lengths h in
      let r = rooms b in
      let t = now.beside.written in
      let same = log_due m k r t calls answers (opened m) run.answered in
      record {
        promised = subst (Promised m) (sym same) (every_run keeps k (map (as_call r) calls)).promised;
        refused = refuses keeps k opens r t calls answers run.answered;
        shows = subst (λ log. Shows m h b log now) (sym same) (shown keeps h b (map (as_call r) calls) (map (as_answer t) answers) now opens run);
      }
