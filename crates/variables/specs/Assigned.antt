-- The values that an assignment keeps. Assumes nothing.
use Rattle.std.specs.Prelude.{[], Option}
use Rattle.field.specs.Laws.{Model}
use Rattle.variables.specs.declared.Variable.{Variable}
use Rattle.variables.specs.declared.assignment.Assignment.{Assignment}
use Rattle.variables.specs.Evaluate.{read}

-- the value of a variable, or nothing where it is not kept, as that of a symbol
abbrev pub assigned : {V : Type 0} → Model V → Assignment V → Variable → Option V
assigned m a = read m a.instances.now a.witnesses.now []
