use Rattle.account.proofs.Runs.{given_known}
use Rattle.account.proofs.given_lists_are_known.Goals as goal

pub returns : goal.returns
returns g c = given_known g.met.F.Field.keeps
