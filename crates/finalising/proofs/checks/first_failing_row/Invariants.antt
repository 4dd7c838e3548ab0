use Rattle.std.proofs.Common.{◌≡◌, ◌+◌, ◌≤◌, [], map, drop}
use Rattle.std.specs.Option.{option_map}
use Rattle.variables.specs.Evaluate.{read, evaluated}
use Rattle.account.specs.Rows.{each, row_at, starts_from, rows}
use Rattle.account.specs.Evaluate.{or_zero, failing}
use Rattle.finishing.specs.Sound.{finished_in}
use Rattle.finalising.proofs.checks.first_failing_row.Given as goal

abbrev pub invariant-loop-k : goal.invariant-loop-k
invariant-loop-k g l =
    let m = g.F.Field.model in
    let worth = each (λ ts. or_zero m (evaluated m (read m l.assignment.instances.now l.assignment.witnesses.now []) ts)) in
    let found = map (finished_in l.terms) l.entries in
    (l.row ≤ l.k)
    × (option_map (λ j. l.row + j) (failing m (map worth (map (row_at [] found) (starts_from l.k (map (λ e. e.mark) (drop l.k l.entries))))))
    ≡ failing m (map worth (rows [] (map (λ e. e.mark) l.entries) found)))
