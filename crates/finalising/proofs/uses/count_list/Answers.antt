use Rattle.std.proofs.Common.{arith}
use Rattle.finalising.proofs.Counts.{one_counted, all_counted}
use Rattle.finalising.proofs.uses.count_list.Goals as goal

pub loop-term-preserved : goal.loop-term-preserved
loop-term-preserved g c =
    one_counted c.args.index.now c.args.list.now c.loop-term.term-index _ _ c.term-item.result (omega arith) c.term-item.is
    c.loop-term.invariant c.count_use.ensures

pub returns : goal.returns
returns g c = all_counted c.args.index.now c.args.list.now c.loop-term.term-index _ (omega arith) c.loop-term.invariant
