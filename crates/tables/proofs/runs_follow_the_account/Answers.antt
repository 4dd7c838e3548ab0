use Rattle.tables.proofs.Runs.{runs_follow}
use Rattle.tables.proofs.runs_follow_the_account.Goals as goal

pub returns : goal.returns
returns g c = runs_follow g.met.F.Field.keeps
