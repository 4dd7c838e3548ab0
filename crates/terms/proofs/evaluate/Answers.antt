use Rattle.variables.specs.Evaluate.{read}
use Rattle.terms.proofs.Values.{evaluated_stops}
use Rattle.terms.proofs.evaluate.Goals as goal

pub returns-in_err-value : goal.returns-in_err-value
returns-in_err-value g c =
    let m = g.F.Field.model in
    let a = c.args.assignment.now in
    let at = read m a.instances.now a.witnesses.now c.args.named.now in
    let stops = evaluated_stops c.args.terms.now c.loop-t.t-index m at c.loop-t.sum c.t-item.result c.loop-t-test.true c.t-item.is c.in_err-value.ensures in
    cc
