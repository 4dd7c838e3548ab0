-- What a fault tells of a term that names a variable it may not. Assumes nothing.
use Rattle.std.specs.Prelude.{ℕ}
use Rattle.variables.specs.declared.Refusal.{Refusal}
use Rattle.variables.specs.declared.Refusal.TheVariants.{UnknownVariable, ConstraintList}
use Rattle.variables.specs.Refusals.{Told, number_at}
use Rattle.circuits.specs.declared.scope.NameFault.{NameFault}
use Rattle.circuits.specs.declared.scope.NameFault.TheVariants.{Unknown, ConstraintList as OwnList}
use Rattle.circuits.specs.declared.scope.TermFault.{TermFault}

abbrev pub fault_number : NameFault → ℕ
fault_number Unknown = 15
fault_number OwnList = 16

-- with the list and the place of the term there
abbrev pub told_of : TermFault → Told
told_of f = number_at (fault_number f.cause) f.list f.term

abbrev pub refusal_by : NameFault → (list term : ℕ) → Refusal
refusal_by Unknown list term = UnknownVariable list term
refusal_by OwnList list term = ConstraintList list term

-- the refusal that it becomes
abbrev pub refusal_of : TermFault → Refusal
refusal_of f = refusal_by f.cause f.list f.term
