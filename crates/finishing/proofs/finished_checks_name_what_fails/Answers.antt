use Rattle.finishing.proofs.RowChecks.{checks_name_rows}
use Rattle.finishing.proofs.finished_checks_name_what_fails.Goals as goal

pub returns : goal.returns
returns g c = checks_name_rows g.met.F.Field.keeps
