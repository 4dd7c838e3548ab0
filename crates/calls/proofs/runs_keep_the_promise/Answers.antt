use Rattle.calls.proofs.PromiseKept.{runs_keep_promise}
use Rattle.calls.proofs.runs_keep_the_promise.Goals as goal

pub returns : goal.returns
returns g c = runs_keep_promise g.met.F.Field.keeps
