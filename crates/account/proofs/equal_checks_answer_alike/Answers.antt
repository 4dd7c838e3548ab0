use Rattle.account.proofs.Runs.{checks_agree}
use Rattle.account.proofs.equal_checks_answer_alike.Goals as goal

pub returns : goal.returns
returns g c = checks_agree g.met.F.Field.keeps
