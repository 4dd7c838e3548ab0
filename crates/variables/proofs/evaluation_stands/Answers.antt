use Rattle.variables.proofs.Evaluates.{evaluates}
use Rattle.variables.proofs.evaluation_stands.Goals as goal

pub returns : goal.returns
returns g c = evaluates g.met.F.Field.keeps
