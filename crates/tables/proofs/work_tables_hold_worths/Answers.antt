use Rattle.tables.proofs.Works.{work_found}
use Rattle.tables.proofs.work_tables_hold_worths.Goals as goal

pub returns : goal.returns
returns g c = work_found g.met.F.Field.keeps
