use Rattle.calls.proofs.DoesGo.{does_go}
use Rattle.calls.proofs.calls_do_what_is_due.Goals as goal

pub returns : goal.returns
returns g c = does_go g.met.F.Field.keeps
