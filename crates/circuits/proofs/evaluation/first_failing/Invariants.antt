use Rattle.std.proofs.Common.{◌≡◌, ◌+◌, ◌≤◌, map, drop}
use Rattle.std.specs.Option.{option_map}
use Rattle.account.specs.Rows.{row_at, starts_from, rows}
use Rattle.account.specs.Evaluate.{or_zero, failing}
use Rattle.circuits.proofs.evaluation.first_failing.Given as goal

abbrev pub invariant-loop-k : goal.invariant-loop-k
invariant-loop-k g l =
    let m = g.F.Field.model in
    let values = map (or_zero m) l.work in
    (l.row ≤ l.k)
    × (option_map (λ j. l.row + j) (failing m (map (row_at m.zero values) (starts_from l.k (map (λ e. e.mark) (drop l.k l.entries)))))
    ≡ failing m (rows m.zero (map (λ e. e.mark) l.entries) values))
