use Rattle.tables.proofs.Questions.{questions_find}
use Rattle.tables.proofs.questions_find_values.Goals as goal

pub returns : goal.returns
returns g c = questions_find g.met.F.Field.keeps
