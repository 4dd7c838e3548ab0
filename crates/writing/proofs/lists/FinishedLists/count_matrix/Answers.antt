use Rattle.std.proofs.Common.{◌+◌, length, sym, ap, ◌∙◌, arith}
use Rattle.account.specs.Rows.{concatenated}
use Rattle.account.specs.declared.Mark.TheVariants.{Plain}
use Rattle.tables.specs.Held.{entry}
use Rattle.writing.proofs.RowsWritten.{cells_fit, no_row, cells_more, list_columns, matrix_few}
use Rattle.writing.proofs.lists.FinishedLists.count_matrix.Goals.{then-eq, else-eq}
use Rattle.writing.proofs.lists.FinishedLists.count_matrix.Goals as goal

pub count_cells-count-requires : goal.count_cells-count-requires
count_cells-count-requires g c = list_columns g.F.Field.model c.args.self.now c.args.behind c.requires.lie c.loop-k.k _ c.list_at.ensures

pub overflow_add-count : goal.overflow_add-count
overflow_add-count g c =
    let m = g.F.Field.model in
    let l = c.args.self.now in
    let more = cells_more m l c.args.behind c.loop-k.k (entry Plain 0 0) (omega arith) (sym c.eq.ensures ∙ c.if-eq.true) _ c.list_at.ensures in
    let fit = cells_fit m l c.args.behind (c.loop-k.k + 1) in
    omega (arith, more, c.count_cells-count.ensures, c.loop-k.invariant, fit, matrix_few m l c.args.behind c.requires.lie)

pub loop-k-preserved : goal.loop-k-preserved
loop-k-preserved g c =
    let m = g.F.Field.model in
    let l = c.args.self.now in
    elim c.if-eq.branch [
      | then-eq w ↦
          let more = cells_more m l c.args.behind c.loop-k.k (entry Plain 0 0) (omega arith) (sym c.eq.ensures ∙ w.if-eq.true) _ w.list_at.ensures in
          omega (arith, more, w.count_cells-count.ensures, c.loop-k.invariant, w.count-is)
      | else-eq w ↦
          let same = no_row m l c.args.behind c.loop-k.k (entry Plain 0 0) (omega arith) (sym c.eq.ensures ∙ w.if-eq.false) in
          w.count-is ∙ c.loop-k.invariant ∙ ap (λ ls. length (concatenated ls)) (sym same)
    ]
