use Rattle.std.proofs.Common.{◌+◌, arith, sym, subst₂, ◌∙◌}
use Rattle.writing.proofs.CellsWritten.{Sofar, passed, place_there, written}
use Rattle.writing.proofs.cells.write_cells.Goals.{in-Some, in_default}
use Rattle.writing.proofs.cells.write_cells.Goals as goal

pub bounds-places-at : goal.bounds-places-at
bounds-places-at g c =
    place_there g.F.Field.model c.args.witness_offset c.args.list.now c.args.places.now c.args.start c.loop-term.term-index _ _ c.term-item.result
    (omega arith) c.term-item.is c.loop-term.invariant c.in-Some.cell (sym c.cell_of.ensures ∙ c.in-Some.is) c.requires.room

pub loop-term-preserved : goal.loop-term-preserved
loop-term-preserved g c =
    let m = g.F.Field.model in
    let n = c.args.witness_offset in
    let list = c.args.list.now in
    let start = c.args.places.now in
    let Next = Sofar m n list start c.args.start (c.loop-term.term-index + 1) in
    elim c.match-cell_of.branch [
      | in-Some w ↦ subst₂ Next (sym w.at-is) (sym w.places-is)
          (written m n list start c.args.start c.loop-term.term-index _ _ c.term-item.result (omega arith) c.term-item.is c.loop-term.invariant
          w.in-Some.cell (sym c.cell_of.ensures ∙ w.in-Some.is) c.requires.room)
      | in_default w ↦ subst₂ Next (sym w.at-is) (sym w.places-is)
          (passed m n list start c.args.start c.loop-term.term-index _ _ c.term-item.result (omega arith) c.term-item.is c.loop-term.invariant
          (sym c.cell_of.ensures ∙ w.in_default.is))
    ]
