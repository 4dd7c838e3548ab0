use Rattle.std.proofs.Common.{◌≡◌, map, length}
use Rattle.tables.specs.Sound.{in_triples}
use Rattle.circuits.proofs.soundness.are_in_triples.Given as goal

abbrev pub invariant-loop-rest : goal.invariant-loop-rest
invariant-loop-rest l = in_triples l.due (map (λ e. e.mark) l.rest) ≡ in_triples l.triples (map (λ e. e.mark) l.entries)

abbrev pub decreases-loop-rest : goal.decreases-loop-rest
decreases-loop-rest l = length l.rest
