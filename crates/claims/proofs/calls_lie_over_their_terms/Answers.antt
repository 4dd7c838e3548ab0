use Rattle.claims.proofs.Laid.{calls_lie}
use Rattle.claims.proofs.calls_lie_over_their_terms.Goals as goal

pub returns : goal.returns
returns g c = calls_lie g.F.Field.model
