-- A run of calls over lent tables, as its function is told of it. Assumes nothing.
use Rattle.std.specs.Prelude.{◌≡◌, ℕ, Bool, true, false, List, length, take, Ok, Err, Option, Result, IsErr}
use Rattle.std.specs.Option.{option_map}
use Rattle.std.specs.Result.{result_err}
use Rattle.variables.specs.declared.Refusal.{Refusal}
use Rattle.variables.specs.Refusals.{told}
use Rattle.account.specs.Calls.{Event}
use Rattle.account.specs.Refusals.{first}
use Rattle.tables.specs.declared.Tables.{Tables}
use Rattle.tables.specs.Held.{Held, lengths}
use Rattle.matrices.specs.declared.Cell.{Cell}
use Rattle.matrices.specs.Writing.{Lent, lent}
use Rattle.calls.specs.declared.Call.{Call}
use Rattle.calls.specs.declared.Call.TheVariants.{Finalize}
use Rattle.calls.specs.declared.Answer.{Answer}
use Rattle.calls.specs.declared.Answer.TheVariants.{Refused}
use Rattle.calls.specs.Calls.{Beside, rooms, log_in}
use Rattle.calls.specs.Standing.{Standing}
use Rattle.calls.specs.Promise.{run_tests}
use Rattle.calls.specs.Laws.{while_open, when_finished}
use Rattle.constraint_system.specs.Circuit.{circuit}
use Rattle.constraint_system.specs.Finished.{finished}
use Rattle.runs.specs.declared.steps.Circuit.{Circuit}
use Rattle.runs.specs.declared.steps.Circuit.TheVariants.{Open, Finished}

-- what is lent beside the four tables
abbrev pub laid : {V : Type 0} → List (Option V) → Lent V → Beside V
laid work written = record { work = work; written = written }

abbrev pub beside : {V : Type 0} → List (Option V) → List (Cell V) → List ℕ → Beside V
beside work cells ends = laid work (lent cells ends)

-- how a run stands that has this circuit
abbrev pub standing : {V : Type 0} → Circuit → Tables V → Beside V → Standing V
standing (Open c) t b = while_open (circuit c t) b
standing (Finished f) t b = when_finished (finished f t) b

-- what was returned, as an answer
abbrev pub answer_from : {V X : Type 0} → (X → Answer V) → Result X Refusal → Answer V
answer_from f (Ok x) = f x
answer_from f (Err refusal) = Refused refusal

abbrev pub is_finalize : {V : Type 0} → Call V → Bool
is_finalize Finalize = true
is_finalize other = false

-- the answers to the calls: the first so many
abbrev pub answers_to : {V : Type 0} → List (Call V) → List (Answer V) → List (Answer V)
answers_to calls answers = take (length calls) answers

-- The log of a run: its calls with their answers, without those that were out of place. What the run was lent beside the tables says how much
-- each call was lent, and what its writings left has their cells and row ends.
abbrev pub log : {V : Type 0} → List (Call V) → Beside V → Lent V → List (Answer V) → List (Event V)
log calls b written answers = log_in (rooms b) written calls (answers_to calls answers)

-- A run is refused where a test before it says so, and then leaves every table as it was.
pub record Opens {V : Type 0} (calls : List (Call V)) (h : Held V) (b : Beside V) (answers : List (Answer V)) (result : Result Circuit Refusal) (h' : Held V) (b' : Beside V) (answers' : List (Answer V)) : Type 0 where
  pub refused : option_map told (result_err result) ≡ first (run_tests (length calls) (length answers) (lengths h))
  pub leaves : IsErr result → (h' ≡ h) × (b' ≡ b) × (answers' ≡ answers)
