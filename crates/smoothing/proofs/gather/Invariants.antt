use Rattle.std.proofs.Common.{◌≡◌, ◌-◌, drop}
use Rattle.relations.specs.Held.{held}
use Rattle.smoothing.specs.Windows.{window}
use Rattle.smoothing.proofs.gather.Given as goal

abbrev pub invariant-loop-k : goal.invariant-loop-k
invariant-loop-k g l =
    (l.list.terms.ghost_name ≡ l.initial.list.terms.ghost_name)
    × (held l.list ≡ record { list = window g.F.Field.model l.first (l.k - l.first); spare = drop (l.k - l.first) l.fn.places })
