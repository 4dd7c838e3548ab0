use Rattle.claims.proofs.Judges.{answers_judge}
use Rattle.claims.proofs.answers_judge_a_claim.Goals as goal

pub returns : goal.returns
returns g c = answers_judge g.met.F.Field.keeps
