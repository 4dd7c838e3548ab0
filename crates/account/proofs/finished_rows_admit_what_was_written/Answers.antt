use Rattle.account.proofs.Finalises.{finalised_exact}
use Rattle.account.proofs.finished_rows_admit_what_was_written.Goals as goal

pub returns : goal.returns
returns g c = finalised_exact g.met.F.Field.keeps
