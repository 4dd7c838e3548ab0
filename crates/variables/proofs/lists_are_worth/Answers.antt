use Rattle.variables.proofs.Worths.{lists_worth}
use Rattle.variables.proofs.lists_are_worth.Goals as goal

pub returns : goal.returns
returns g c = lists_worth g.met.F.Field.keeps
