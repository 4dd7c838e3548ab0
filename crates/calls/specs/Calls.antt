-- Calls and answers as the account has them, and the log of a run. Assumes nothing.
use Rattle.std.specs.Prelude.{ℕ, min, List, [], ◌∷◌, ◌++◌, length, Some, None, Ok, Err, Option, Result}
use Rattle.variables.specs.Refusals.{Told, told}
use Rattle.account.specs.Calls as account
use Rattle.account.specs.Calls.{Event}
use Rattle.matrices.specs.Writing.{Lent}
use Rattle.matrices.specs.Laws.{as_written}
use Rattle.calls.specs.declared.Call.{Call}
use Rattle.calls.specs.declared.Call.TheVariants.{SetMode, SetOptimizationGoal, NewInputVariable, NewWitnessVariable, NewLc, EnforceConstraint, WhichIsUnsatisfied, AssignedValue, Finalize, ToMatrices}
use Rattle.calls.specs.declared.Answer.{Answer}
use Rattle.calls.specs.declared.Answer.TheVariants.{Done, Named, Unsatisfied, Assigned, Written, Refused, OutOfPlace}

-- what a run is lent beside the four tables: the work table of checks and questions, and what its writings are lent
pub record Beside (V : Type 0) : Type 0 where
  pub work : List (Option V)
  pub written : Lent V

-- how many places these have
pub record Rooms : Type 0 where
  pub work : ℕ
  pub cells : ℕ
  pub ends : ℕ

abbrev pub rooms : {V : Type 0} → Beside V → Rooms
rooms b = record { work = length b.work; cells = length b.written.cells; ends = length b.written.ends }

module _ {V : Type 0} where
  -- a call as the account has it: it is lent no more places than there are
  abbrev pub as_call : Rooms → Call V → account.Call V
  as_call r (SetMode mode) = account.set_mode mode
  as_call r (SetOptimizationGoal goal) = account.set_optimization_goal goal
  as_call r (NewInputVariable handed) = account.new_input_variable handed
  as_call r (NewWitnessVariable handed) = account.new_witness_variable handed
  as_call r (NewLc ts) = account.new_lc ts.now
  as_call r (EnforceConstraint a b c) = account.enforce_constraint a.now b.now c.now
  as_call r (WhichIsUnsatisfied work) = account.which_is_unsatisfied (min work r.work)
  as_call r (AssignedValue v work) = account.assigned_value (min work r.work) v
  as_call r Finalize = account.finalize
  as_call r (ToMatrices cells ends) = account.to_matrices (min cells r.cells) (min ends r.ends)

  -- An answer as the account has it, where the matrices that were written are read in these tables; none says that the call was out of place.
  abbrev pub as_answer : Lent V → Answer V → Option (Result (account.Answer V) Told)
  as_answer t Done = Some (Ok account.unit)
  as_answer t (Named v) = Some (Ok (account.named v))
  as_answer t (Unsatisfied row) = Some (Ok (account.unsatisfied row))
  as_answer t (Assigned value) = Some (Ok (account.assigned value))
  as_answer t (Written counts) = Some (Ok (as_written t counts))
  as_answer t (Refused refusal) = Some (Err (told refusal))
  as_answer t OutOfPlace = None

  -- a call with its answer; one that was out of place is no part of the log
  abbrev pub event_in : account.Call V → Option (Result (account.Answer V) Told) → List (Event V)
  event_in call None = []
  event_in call (Some answer) = record { call = call; answer = answer } ∷ []

  -- the log of a run: its calls with their answers, without those that were out of place
  abbrev pub log_in : Rooms → Lent V → List (Call V) → List (Answer V) → List (Event V)
  log_in r t [] answers = []
  log_in r t (call ∷ calls) [] = []
  log_in r t (call ∷ calls) (answer ∷ answers) = event_in (as_call r call) (as_answer t answer) ++ log_in r t calls answers
