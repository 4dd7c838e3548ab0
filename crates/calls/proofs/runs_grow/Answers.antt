use Rattle.calls.proofs.Grows.{runs_grow_lem, opening_runs}
use Rattle.calls.proofs.ReadsOn.{reads_on}
use Rattle.calls.proofs.runs_grow.Goals as goal

pub returns-clause-grow : goal.returns-clause-grow
returns-clause-grow g c = runs_grow_lem g.met.F.Field.keeps

pub returns-clause-read : goal.returns-clause-read
returns-clause-read g c = reads_on g.F.Field.model

pub returns-clause-opening : goal.returns-clause-opening
returns-clause-opening g c = opening_runs g.F.Field.model
