use Rattle.std.proofs.Common.{◌≡◌, ◌++◌, take, drop}
use Rattle.variables.specs.Terms.{negated}
use Rattle.terms.proofs.negate.Given as goal

abbrev pub invariant-loop-t : goal.invariant-loop-t
invariant-loop-t g l = l.terms ≡ negated g.F.Field.model (take l.t-index l.initial.terms) ++ drop l.t-index l.initial.terms
