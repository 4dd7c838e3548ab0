use Rattle.writing.proofs.RowsWritten.{Sofar}
use Rattle.writing.proofs.lists.FinishedLists.write_matrix.Given as goal

abbrev pub invariant-loop-k : goal.invariant-loop-k
invariant-loop-k g l = Sofar g.F.Field.model l.self l.behind l.initial.cells l.start l.initial.ends l.first l.k l.at l.row l.cells l.ends
