use Rattle.terms.proofs.Places.{Placed}
use Rattle.terms.proofs.place_all.Given as goal

abbrev pub invariant-loop-i : goal.invariant-loop-i
invariant-loop-i g l = Placed g.F.Field.model l.initial.terms l.i l.len l.terms
