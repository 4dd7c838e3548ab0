use Rattle.account.proofs.Fits.{tables_fit}
use Rattle.account.proofs.tables_fit_every_run.Goals as goal

pub returns : goal.returns
returns g c = tables_fit g.met.F.Field.keeps
