use Rattle.std.proofs.Common.{drop}
use Rattle.finalising.proofs.Counts.{CountingAll}
use Rattle.finalising.proofs.uses.count_uses.Given as goal

abbrev pub invariant-loop-k : goal.invariant-loop-k
invariant-loop-k g l = CountingAll l.terms l.fn.index l.index (drop l.k l.fn.index)
