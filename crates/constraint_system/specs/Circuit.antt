-- What a circuit is to its calls: its numbers, and with them what the tables hold. Assumes nothing.
use Rattle.std.specs.Prelude.{Ok, Err, Result}
use Rattle.variables.specs.declared.Refusal.{Refusal}
use Rattle.variables.specs.Refusals.{answered}
use Rattle.tables.specs.declared.Counts.{Counts}
use Rattle.tables.specs.declared.Tables.{Tables}
use Rattle.tables.specs.Held.{State, state}
use Rattle.tables.specs.Calls.{Outcome}
use Rattle.constraint_system.specs.declared.constraint_system.ConstraintSystem.{ConstraintSystem}

abbrev pub numbers : ConstraintSystem → Counts
numbers c = c.counts

abbrev pub circuit : {V : Type 0} → ConstraintSystem → Tables V → State V
circuit c t = state (numbers c) t

abbrev pub opened_numbers : Result ConstraintSystem Refusal → Result Counts Refusal
opened_numbers (Ok c) = Ok (numbers c)
opened_numbers (Err e) = Err e

-- what a call answered, and what it left
abbrev pub left : {S X : Type 0} → Result X Refusal → S → Outcome S X
left r s = record { answer = answered r; state = s }
