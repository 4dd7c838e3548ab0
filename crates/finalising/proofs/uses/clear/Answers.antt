use Rattle.std.proofs.Common.{arith}
use Rattle.finalising.proofs.Counts.{cleared_more}
use Rattle.finalising.proofs.uses.clear.Goals as goal

pub loop-entry-preserved : goal.loop-entry-preserved
loop-entry-preserved c = cleared_more c.args.index.now c.loop-entry.index c.loop-entry.entry-index _ (omega arith) (omega arith) c.loop-entry.invariant
