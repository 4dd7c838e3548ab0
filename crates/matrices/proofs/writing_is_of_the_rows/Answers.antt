use Rattle.matrices.proofs.Rows.{writes_rows}
use Rattle.matrices.proofs.writing_is_of_the_rows.Goals as goal

pub returns : goal.returns
returns g c = writes_rows g.met.F.Field.keeps
