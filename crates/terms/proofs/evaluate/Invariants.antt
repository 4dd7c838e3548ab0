use Rattle.std.proofs.Common.{◌≡◌, drop, Some}
use Rattle.variables.specs.Evaluate.{read, evaluated_from, evaluated}
use Rattle.terms.proofs.evaluate.Given as goal

abbrev pub invariant-loop-t : goal.invariant-loop-t
invariant-loop-t g l =
    let m = g.F.Field.model in
    let at = read m l.assignment.instances.now l.assignment.witnesses.now l.named in
    evaluated_from m at (Some l.sum) (drop l.t-index l.terms) ≡ evaluated m at l.terms
