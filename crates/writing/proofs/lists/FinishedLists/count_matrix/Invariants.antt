use Rattle.std.proofs.Common.{◌≡◌, length}
use Rattle.account.specs.Rows.{concatenated}
use Rattle.writing.proofs.RowsWritten.{rows_before}
use Rattle.writing.proofs.lists.FinishedLists.count_matrix.Given as goal

abbrev pub invariant-loop-k : goal.invariant-loop-k
invariant-loop-k g l = l.count ≡ length (concatenated (rows_before g.F.Field.model l.self l.behind l.k))
