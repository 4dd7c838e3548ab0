use Rattle.writing.proofs.CellsWritten.{Sofar}
use Rattle.writing.proofs.cells.write_cells.Given as goal

abbrev pub invariant-loop-term : goal.invariant-loop-term
invariant-loop-term g l = Sofar g.F.Field.model l.witness_offset l.list l.initial.places l.start l.term-index l.at l.places
