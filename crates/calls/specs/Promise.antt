-- The main promise of a whole run over lent tables. Assumes nothing.
use Rattle.std.specs.Prelude.{◌≡◌, ◌≢◌, ◌↔◌, ℕ, true, false, List, ◌∷◌, [], map, take, Some, None, Ok, Err, Option, Result}
use Rattle.std.specs.List.{slice_get}
use Rattle.field.specs.Laws.{Model}
use Rattle.variables.specs.Refusals.{Told}
use Rattle.account.specs.Finish.{lacks}
use Rattle.account.specs.Account.{Account, builds, opened}
use Rattle.account.specs.Calls as account
use Rattle.account.specs.Calls.{Event, effect_of, answer_of, account}
use Rattle.account.specs.Refusals.{Lengths, when, opening_refusal, refusal}
use Rattle.account.specs.Run.{log_of}
use Rattle.tables.specs.Held.{Held, KeepsBeyond}
use Rattle.matrices.specs.Writing.{Lent}
use Rattle.calls.specs.declared.Call.{Call}
use Rattle.calls.specs.declared.Answer.{Answer}
use Rattle.calls.specs.Calls.{Rooms, Beside, as_call, as_answer, log_in}
use Rattle.calls.specs.Standing.{Standing, Stands, FreeStays, beside_after, Finalises}

-- The tests before a run, in their order: 19 where there are more calls than places for their answers, and 11 where the instance table is
-- empty.
abbrev pub run_tests : (calls answers : ℕ) → Lengths → List (Option Told)
run_tests calls answers k = when (lacks calls answers) 19 ∷ opening_refusal k ∷ []

module _ {V : Type 0} (m : Model V) where
  -- A call of a run is answered as is due to it by the account x of the calls before it, over tables of these lengths:
  pub record DueTo (k : Lengths) (x : Account V) (call : account.Call V) (answer : Option (Result (account.Answer V) Told)) : Type 0 where
    -- it is out of place exactly where it does not build;
    pub out_of_place : (answer ≡ None) ↔ (builds x (effect_of call) ≡ false)
    -- it is refused exactly where it builds and the definition of refusals says so, with that number and those values;
    pub refused : (r : Told) → (answer ≡ Some (Err r)) ↔ ((builds x (effect_of call) ≡ true) × (refusal m k x call ≡ Some r))
    -- and that is never by 17;
    pub never_17 : (r : Told) → answer ≡ Some (Err r) → r.number ≢ 17
    -- and where it is neither, it is answered from the account.
    pub accepted : (a : account.Answer V) → answer ≡ Some (Ok a) → a ≡ answer_of m x call

  -- So are all calls of a run, and its log is the run of the account that the same calls make.
  pub record Refuses (k : Lengths) (r : Rooms) (t : Lent V) (calls : List (Call V)) (answers : List (Answer V)) : Type 0 where
    pub each : (i : ℕ) (call : Call V) (answer : Answer V) → slice_get calls i ≡ Some call → slice_get answers i ≡ Some answer
        → DueTo k (account m (log_in r t (take i calls) (take i answers))) (as_call r call) (as_answer t answer)
    pub run : log_in r t calls answers ≡ log_of m k (map (as_call r) calls)

  -- What a run leaves, after the calls of a log on a circuit that was opened over these tables:
  pub record Shows (before : Held V) (beside : Beside V) (log : List (Event V)) (now : Standing V) : Type 0 where
    -- The circuit and the tables hold the account, open or finished: its lists, its finished lists and its values.
    pub stands : Stands now (account m log)
    -- The tables keep their lengths and what lies past the places that count.
    pub beyond : KeepsBeyond before now.circuit.tables
    -- What is free stays, unless finalising was called where matrices are kept.
    pub free : (Finalises m (opened m) log → ⊥) → FreeStays (account m log) before now.circuit.tables
    -- The work table holds what the last call that fills it has filled it with, and past that what was there; and after any accepted writing
    -- the cells and the row ends of the account's matrices lie in their tables, and past them what was there.
    pub beside_now : now.beside ≡ beside_after m (opened m) log beside
