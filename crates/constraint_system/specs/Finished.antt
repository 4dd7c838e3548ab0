-- What a finished circuit is to its calls, and what finalising answers. Assumes nothing.
use Rattle.std.specs.Prelude.{Ok, Err, Some, None, Option, Result}
use Rattle.variables.specs.declared.Refusal.{Refusal}
use Rattle.variables.specs.Refusals.{Told, told}
use Rattle.account.specs.Calls.{Answer}
use Rattle.account.specs.Calls as calls
use Rattle.tables.specs.declared.Counts.{Counts}
use Rattle.tables.specs.declared.Tables.{Tables}
use Rattle.tables.specs.Held.{State, state}
use Rattle.constraint_system.specs.declared.constraint_system.ConstraintSystem.{ConstraintSystem}
use Rattle.constraint_system.specs.declared.finished_system.FinishedSystem.{FinishedSystem}
use Rattle.constraint_system.specs.Circuit.{circuit}

abbrev pub finished_numbers : FinishedSystem → Counts
finished_numbers f = f.counts

abbrev pub finished : {V : Type 0} → FinishedSystem → Tables V → State V
finished f t = state (finished_numbers f) t

-- the refusal, or none
abbrev pub refusal_of : Result FinishedSystem (ConstraintSystem × Refusal) → Option Told
refusal_of (Ok f) = None
refusal_of (Err e) = Some (told e.1)

-- the circuit that is there then: the finished one, or the open one that was handed back
abbrev pub finalized : {V : Type 0} → Result FinishedSystem (ConstraintSystem × Refusal) → Tables V → State V
finalized (Ok f) t = finished f t
finalized (Err e) t = circuit e.0 t

-- as the answer of a call
abbrev pub answer_of : {V : Type 0} → Result FinishedSystem (ConstraintSystem × Refusal) → Result (Answer V) Told
answer_of (Ok f) = Ok calls.unit
answer_of (Err e) = Err (told e.1)
