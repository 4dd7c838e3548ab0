use Rattle.account.proofs.Finalises.{finalised_formed}
use Rattle.account.proofs.finished_rows_hold_no_symbol.Goals as goal

pub returns : goal.returns
returns g c = finalised_formed g.met.F.Field.keeps
