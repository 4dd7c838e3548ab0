use Rattle.std.proofs.Common.{◌<◌, length, sym, ◌∙◌, arith, rules}
use Rattle.account.specs.declared.Mark.TheVariants.{Plain}
use Rattle.tables.specs.Held.{entry}
use Rattle.writing.proofs.RowsWritten.{list_columns, none_yet, cells_there, end_there, passed, written}
use Rattle.writing.proofs.lists.FinishedLists.write_matrix.Goals.{then-eq, else-eq}
use Rattle.writing.proofs.lists.FinishedLists.write_matrix.Goals as goal

pub loop-k-init : goal.loop-k-init
loop-k-init g c = none_yet g.F.Field.model c.args.self.now c.args.behind c.args.cells.now c.args.start c.args.ends.now c.args.first

pub write_cells-at-requires-clause-columns : goal.write_cells-at-requires-clause-columns
write_cells-at-requires-clause-columns g c = list_columns g.F.Field.model c.args.self.now c.args.behind c.requires.lie c.loop-k.k _ c.list_at.ensures

pub write_cells-at-requires-clause-room : goal.write_cells-at-requires-clause-room
write_cells-at-requires-clause-room g c =
    cells_there g.F.Field.model c.args.self.now c.args.behind c.args.cells.now c.args.start c.args.ends.now c.args.first
    c.loop-k.k _ _ _ _ (entry Plain 0 0) (omega arith) c.loop-k.invariant (sym c.eq.ensures ∙ c.if-eq.true)
    _ c.list_at.ensures c.requires.cells c.requires.ends

pub bounds-ends-row : goal.bounds-ends-row
bounds-ends-row g c =
    end_there g.F.Field.model c.args.self.now c.args.behind c.args.cells.now c.args.start c.args.ends.now c.args.first
    c.loop-k.k _ _ _ _ (entry Plain 0 0) (omega arith) c.loop-k.invariant (sym c.eq.ensures ∙ c.if-eq.true)
    _ c.list_at.ensures c.requires.cells c.requires.ends

pub offset_bounds-ends-row : goal.offset_bounds-ends-row
offset_bounds-ends-row g c =
    let there : c.loop-k.row < length c.loop-k.ends
    = end_there g.F.Field.model c.args.self.now c.args.behind c.args.cells.now c.args.start c.args.ends.now c.args.first
    c.loop-k.k _ _ _ _ (entry Plain 0 0) (omega arith) c.loop-k.invariant (sym c.eq.ensures ∙ c.if-eq.true)
    _ c.list_at.ensures c.requires.cells c.requires.ends in
    let lt : c.loop-k.row < length c.args.ends.now = omega (arith, there) in
    search rules

pub overflow_add-row : goal.overflow_add-row
overflow_add-row g c =
    let there : c.loop-k.row < length c.loop-k.ends
    = end_there g.F.Field.model c.args.self.now c.args.behind c.args.cells.now c.args.start c.args.ends.now c.args.first
    c.loop-k.k _ _ _ _ (entry Plain 0 0) (omega arith) c.loop-k.invariant (sym c.eq.ensures ∙ c.if-eq.true)
    _ c.list_at.ensures c.requires.cells c.requires.ends in
    let lt : c.loop-k.row < length c.args.ends.now = omega (arith, there) in
    search rules

pub loop-k-preserved : goal.loop-k-preserved
loop-k-preserved g c =
    elim c.if-eq.branch [
      | then-eq w ↦
          written g.F.Field.model c.args.self.now c.args.behind c.args.cells.now c.args.start c.args.ends.now c.args.first
          c.loop-k.k _ _ _ _ (entry Plain 0 0) (omega arith) c.loop-k.invariant (sym c.eq.ensures ∙ w.if-eq.true)
          _ w.list_at.ensures c.requires.cells c.requires.ends
          w.write_cells-at.result w.write_cells-at.ensures.end w.at-is w.row-is (w.cells-is ∙ w.write_cells-at.ensures.after) w.ends-is
      | else-eq w ↦
          passed g.F.Field.model c.args.self.now c.args.behind c.args.cells.now c.args.start c.args.ends.now c.args.first
          c.loop-k.k _ _ _ _ (entry Plain 0 0) (omega arith) c.loop-k.invariant (sym c.eq.ensures ∙ w.if-eq.false)
          w.at-is w.row-is w.cells-is w.ends-is
    ]
