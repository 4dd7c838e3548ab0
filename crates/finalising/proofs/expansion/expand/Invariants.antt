use Rattle.std.proofs.Common.{map}
use Rattle.account.specs.Finish.{replaced}
use Rattle.finishing.specs.Sound.{finished_in}
use Rattle.finalising.proofs.Expands.{Written}
use Rattle.finalising.proofs.expansion.expand.Given as goal

abbrev pub invariant-loop-term : goal.invariant-loop-term
invariant-loop-term g l =
    let finished = map (finished_in l.lists) l.before in
    Written (λ t. replaced g.F.Field.model finished t.number t.variable) l.list l.initial.free l.term-index l.end l.free
