use Rattle.finishing.proofs.VariableQuestions.{questions_find_finished}
use Rattle.finishing.proofs.finished_questions_find_values.Goals as goal

pub returns : goal.returns
returns g c = questions_find_finished g.met.F.Field.keeps
