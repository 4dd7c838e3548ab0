use Rattle.account.proofs.Finalises.{finalised_alike}
use Rattle.account.proofs.finished_rows_fail_where_constraints_do.Goals as goal

pub returns : goal.returns
returns g c = finalised_alike g.met.F.Field.keeps
