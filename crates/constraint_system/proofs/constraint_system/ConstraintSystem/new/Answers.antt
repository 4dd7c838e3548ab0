use Rattle.tables.specs.Held.{held}
use Rattle.constraint_system.proofs.Outcomes.{opened_well}
use Rattle.constraint_system.proofs.constraint_system.ConstraintSystem.new.Goals as goal

pub returns-clause-beyond : goal.returns-clause-beyond
returns-clause-beyond g c = (opened_well g.F.Field.model (held c.args.tables.now) c.in_ok-counts.counts _ c.in_ok-counts.ensures.does).0

pub returns-clause-account : goal.returns-clause-account
returns-clause-account g c = (opened_well g.F.Field.model (held c.args.tables.now) c.in_ok-counts.counts _ c.in_ok-counts.ensures.does).1
