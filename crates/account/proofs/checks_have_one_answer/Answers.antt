use Rattle.account.proofs.Finalises.{one_each}
use Rattle.account.proofs.checks_have_one_answer.Goals as goal

pub returns : goal.returns
returns g c = one_each g.met.F.Field.keeps
