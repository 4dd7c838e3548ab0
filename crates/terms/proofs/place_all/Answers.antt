use Rattle.std.proofs.Common.{arith}
use Rattle.terms.proofs.Places.{placed_more}
use Rattle.terms.proofs.place_all.Goals as goal

pub loop-i-preserved : goal.loop-i-preserved
loop-i-preserved g c =
    let e = c.place-len.ensures in
    placed_more g.F.Field.model c.loop-i.invariant c.loop-i.auto.terms (omega arith) c.index-terms-i.result c.index-terms-i.is c.place-len.result c.place-len.new.terms e.len e.front e.rest
