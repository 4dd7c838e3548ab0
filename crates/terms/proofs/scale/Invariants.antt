use Rattle.std.proofs.Common.{◌≡◌, ◌++◌, take, drop}
use Rattle.variables.specs.Terms.{scaled}
use Rattle.terms.proofs.scale.Given as goal

abbrev pub invariant-loop-t : goal.invariant-loop-t
invariant-loop-t g l = l.terms ≡ scaled g.F.Field.model l.scalar (take l.t-index l.initial.terms) ++ drop l.t-index l.initial.terms
