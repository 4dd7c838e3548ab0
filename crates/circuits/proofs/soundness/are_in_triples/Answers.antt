use Rattle.std.proofs.Common.{sym, ◌∙◌, arith}
use Rattle.circuits.proofs.Triples.{triple_more}
use Rattle.circuits.proofs.soundness.are_in_triples.Goals as goal

pub loop-rest-preserved : goal.loop-rest-preserved
loop-rest-preserved c =
    triple_more c.loop-rest.due _ _ c.loop-rest.rest.now c.in-len3-up.len_at_least c.if-due-gt0.true (omega arith) (sym c.is_triple.ensures ∙ c.if-is_triple.true)
    ∙ c.loop-rest.invariant
