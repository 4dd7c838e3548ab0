use Rattle.std.proofs.Common.{drop}
use Rattle.finalising.proofs.Counts.{Counting}
use Rattle.finalising.proofs.uses.count_list.Given as goal

abbrev pub invariant-loop-term : goal.invariant-loop-term
invariant-loop-term g l = Counting l.initial.index l.list l.index (drop l.term-index l.list)
