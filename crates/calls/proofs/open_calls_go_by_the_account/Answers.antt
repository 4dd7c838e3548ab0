use Rattle.calls.proofs.OpenCalls.{open_calls_go}
use Rattle.calls.proofs.open_calls_go_by_the_account.Goals as goal

pub returns : goal.returns
returns g c = open_calls_go g.met.F.Field.keeps
