use Rattle.std.proofs.Common.{◌≡◌, ◌+◌, ◌≤◌, length, drop}
use Rattle.account.specs.Rows.{cells}
use Rattle.writing.proofs.cells.count_cells.Given as goal

abbrev pub invariant-loop-term : goal.invariant-loop-term
invariant-loop-term g l =
    let m = g.F.Field.model in
    (l.count ≤ l.term-index)
    × (l.count + length (cells m l.witness_offset (drop l.term-index l.list)) ≡ length (cells m l.witness_offset l.list))
