use Rattle.std.proofs.Common.{ℕ, arith}
use Rattle.matrices.specs.Writing.{lent}
use Rattle.writing.proofs.RowsWritten.{matrix_few}
use Rattle.writing.proofs.MatricesWritten.{rows_few, short_of_cells, short_of_ends, all_written}
use Rattle.writing.proofs.writing.write.Goals.{then-cells-a-via-then-cells-a, then-cells-a-via-else-cells-a+then-ends-rows}
use Rattle.writing.proofs.writing.write.Goals as goal

pub overflow_add-a : goal.overflow_add-a
overflow_add-a g c =
    let few = λ (k : ℕ). matrix_few g.F.Field.model c.args.lists.now k c.requires.lie in
    omega (arith, few 0, few 1, c.count_matrix-a.ensures, c.count_matrix-b.ensures)

pub overflow_add-a-2 : goal.overflow_add-a-2
overflow_add-a-2 g c =
    let few = λ (k : ℕ). matrix_few g.F.Field.model c.args.lists.now k c.requires.lie in
    omega (arith, few 0, few 1, few 2, c.count_matrix-a.ensures, c.count_matrix-b.ensures, c.count_matrix-c.ensures)

pub overflow_mul-rows : goal.overflow_mul-rows
overflow_mul-rows g c = omega (arith, rows_few g.F.Field.model c.args.lists.now c.args.counts.now c.requires.rows c.requires.lie)

pub returns-then-cells-a : goal.returns-then-cells-a
returns-then-cells-a g c =
    let m = g.F.Field.model in
    let l = c.args.lists.now in
    let t = lent c.args.cells.now c.args.ends.now in
    elim c.then-cells-a.branch [
      | then-cells-a-via-then-cells-a w ↦
          short_of_cells m l c.args.counts.now c.requires.rows t
          (omega (arith, w.if-cells-a.true, c.count_matrix-a.ensures, c.count_matrix-b.ensures, c.count_matrix-c.ensures))
      | then-cells-a-via-else-cells-a+then-ends-rows w ↦ short_of_ends m l c.args.counts.now c.requires.rows t w.if-ends-rows.true
    ]

pub returns : goal.returns
returns g c =
    let a = c.write_matrix-b_start.ensures in
    let b = c.write_matrix-c_start.ensures in
    let d = c.write_matrix.ensures in
    all_written g.F.Field.model c.args.lists.now c.args.counts.now c.requires.rows (lent c.args.cells.now c.args.ends.now)
    (omega (arith, c.if-cells-a.false, c.count_matrix-a.ensures, c.count_matrix-b.ensures, c.count_matrix-c.ensures)) c.if-ends-rows.false
    c.count_matrix-a.ensures c.count_matrix-b.ensures c.count_matrix-c.ensures a.end b.end a.cells b.cells d.cells a.ends b.ends d.ends
