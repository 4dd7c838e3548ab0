use Rattle.std.proofs.Common.{arith}
use Rattle.account.specs.Refusals.{limit}
use Rattle.circuits.proofs.InUse.{taken_in_use}
use Rattle.circuits.proofs.places.in_use.Goals as goal

pub returns : goal.returns
returns g c = taken_in_use c.args.count limit c.min.result c.args.places.now (omega arith)
