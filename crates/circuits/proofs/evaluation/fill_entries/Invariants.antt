use Rattle.std.proofs.Common.{◌≡◌, map, length, take, drop}
use Rattle.account.specs.Given.{lists}
use Rattle.account.specs.Evaluate.{filled_after, filled}
use Rattle.tables.specs.Sound.{given_in}
use Rattle.circuits.proofs.evaluation.fill_entries.Given as goal

abbrev pub invariant-loop-k : goal.invariant-loop-k
invariant-loop-k g l =
    let m = g.F.Field.model in
    let a = l.assignment in
    (filled_after m a.instances.now a.witnesses.now (take l.k l.work) (lists (map (given_in l.terms) (drop l.k l.entries)))
    ≡ filled m a.instances.now a.witnesses.now (lists (map (given_in l.terms) l.entries)))
    × (drop (length l.entries) l.work ≡ drop (length l.entries) l.initial.work)
