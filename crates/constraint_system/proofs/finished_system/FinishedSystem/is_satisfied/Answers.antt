use Rattle.std.proofs.Common.{subst}
use Rattle.tables.specs.Held.{state}
use Rattle.finishing.specs.Laws.{rows_kept, SatisfiesRows}
use Rattle.constraint_system.proofs.Outcomes.{none_told, none_satisfies}
use Rattle.constraint_system.proofs.finished_system.FinishedSystem.is_satisfied.Goals as goal

pub returns-clause-all : goal.returns-clause-all
returns-clause-all g c =
    let m = g.F.Field.model in
    let s = state c.args.self.now.counts c.args.tables.now in
    subst (SatisfiesRows m s) (none_told c.in_ok-first.first c.is_none.result c.is_none.ensures)
    (none_satisfies m (rows_kept m s) c.in_ok-first.first c.in_ok-first.ensures.names)
