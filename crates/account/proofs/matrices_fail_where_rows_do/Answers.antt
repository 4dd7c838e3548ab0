use Rattle.account.proofs.Finalises.{matrices_exact}
use Rattle.account.proofs.ReadsBack.{read_back}
use Rattle.account.proofs.matrices_fail_where_rows_do.Goals as goal

pub returns : goal.returns
returns g c = record { failing = matrices_exact g.met.F.Field.keeps; written = read_back g.F.Field.model }
