use Rattle.account.proofs.Worths.{worths_meant}
use Rattle.account.proofs.worth_has_one_meaning.Goals as goal

pub returns : goal.returns
returns g c = worths_meant g.met.F.Field.keeps
