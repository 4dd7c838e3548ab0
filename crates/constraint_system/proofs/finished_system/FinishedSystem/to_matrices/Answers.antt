use Rattle.tables.specs.Held.{state}
use Rattle.matrices.specs.Writing.{lent}
use Rattle.constraint_system.proofs.Written.{written_well, written_as_due}
use Rattle.constraint_system.proofs.finished_system.FinishedSystem.to_matrices.Goals as goal

pub returns-clause-writes : goal.returns-clause-writes
returns-clause-writes g c =
    written_well g.met.F.Field.keeps (state c.args.self.now.counts c.args.tables.now) (lent c.args.cells.now c.args.ends.now)
    _ c.to_matrices.result c.to_matrices.ensures

pub returns-clause-account : goal.returns-clause-account
returns-clause-account g c =
    written_as_due g.met.F.Field.keeps (state c.args.self.now.counts c.args.tables.now) (lent c.args.cells.now c.args.ends.now)
    _ c.to_matrices.result c.to_matrices.ensures
