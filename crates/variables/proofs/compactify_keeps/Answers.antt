use Rattle.variables.proofs.Compacts.{compacts}
use Rattle.variables.proofs.compactify_keeps.Goals as goal

pub returns : goal.returns
returns g c = compacts g.met.F.Field.keeps
