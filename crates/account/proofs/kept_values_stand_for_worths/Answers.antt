use Rattle.account.proofs.Evaluates.{work_stands, added_stand}
use Rattle.account.proofs.Finds.{values_found}
use Rattle.account.proofs.kept_values_stand_for_worths.Goals as goal

pub returns : goal.returns
returns g c = let keeps = g.met.F.Field.keeps in record { work = work_stands keeps; found = values_found keeps; added = added_stand keeps }
