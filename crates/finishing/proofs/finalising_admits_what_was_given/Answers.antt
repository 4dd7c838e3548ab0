use Rattle.finishing.proofs.Admits.{finalising_admits}
use Rattle.finishing.proofs.finalising_admits_what_was_given.Goals as goal

pub returns : goal.returns
returns g c = finalising_admits g.met.F.Field.keeps
