use Rattle.finalising.specs.Lent.{lent}
use Rattle.finalising.proofs.Loops.{Sofar}
use Rattle.finalising.proofs.steps.finish_entries.Given as goal

abbrev pub invariant-loop-at : goal.invariant-loop-at
invariant-loop-at g l =
    let start = lent l.fn.counts l.fn.terms l.fn.index l.instances l.fn.witnesses in
    let now = lent l.sofar l.terms l.index l.instances l.witnesses in
    Sofar g.F.Field.model (g.R.OutliningRule.picking l.rule) l.fn.counts.entries l.at start now
