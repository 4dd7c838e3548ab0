use Rattle.std.proofs.Common.{◌≡◌, [], map, take, drop}
use Rattle.tables.specs.Sound.{given_in, all_known}
use Rattle.circuits.proofs.soundness.lists_are_known.Given as goal

abbrev pub invariant-loop-k : goal.invariant-loop-k
invariant-loop-k g l =
    all_known l.counts.instances l.counts.witnesses (map (λ e. e.mark) (take l.k l.entries)) (map (given_in l.terms) (drop l.k l.entries))
    ≡ all_known l.counts.instances l.counts.witnesses [] (map (given_in l.terms) l.entries)
