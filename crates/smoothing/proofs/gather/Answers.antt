use Rattle.std.proofs.Common.{arith}
use Rattle.smoothing.proofs.Windows.{window_fits}
use Rattle.smoothing.proofs.gather.Goals as goal

pub returns-in_err-add_term : goal.returns-in_err-add_term
returns-in_err-add_term g c =
    let (t, is, becomes) = c.in_err-add_term.ensures in
    absurd (window_fits g.F.Field.model c.args.first c.loop-k.k c.args.places.now c.loop-k.list c.add_term.new.self t is _ becomes (omega arith) (omega arith) c.loop-k.invariant.1)
