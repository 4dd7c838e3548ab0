use Rattle.std.proofs.Common.{rules}
use Rattle.terms.proofs.Values.{stands}
use Rattle.terms.proofs.stands_at.Goals as goal

pub returns : goal.returns
returns g c = stands c.args.terms.now c.args.at c.args.variable c.get.result c.is_some_and.result (λ x q. search rules) c.get.ensures.lookup.3 c.is_some_and.ensures
