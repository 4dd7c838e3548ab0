use Rattle.account.proofs.Runs.{any_refusals}
use Rattle.account.proofs.Calls.{every_run}
use Rattle.account.proofs.every_run_keeps_the_promise.Goals as goal

pub returns : goal.returns
returns g c = record { refusals = any_refusals g.met.F.Field.keeps; runs = every_run g.met.F.Field.keeps }
