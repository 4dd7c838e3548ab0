use Rattle.account.proofs.Runs.{checks_by_matrices}
use Rattle.account.proofs.finished_checks_go_by_the_matrices.Goals as goal

pub returns : goal.returns
returns g c = checks_by_matrices g.met.F.Field.keeps
