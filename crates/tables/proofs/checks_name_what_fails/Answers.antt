use Rattle.tables.proofs.Checks.{checks_name}
use Rattle.tables.proofs.checks_name_what_fails.Goals as goal

pub returns : goal.returns
returns g c = checks_name g.met.F.Field.keeps
