use Rattle.std.proofs.Common.{◌≡◌, true, false, refl, one-add, add-one, rules, tests}
use Rattle.std.proofs.lemmas.Iterator.{YieldsList-from_slice, IsFirst-from_position, index_from_first}
use Rattle.variables.specs.Order.{below}
use Rattle.variables.specs.Locate.{seek}
use Rattle.terms.proofs.seek.Goals as goal

pub returns : goal.returns
returns g c =
    let v = c.args.variable in
    let ts = c.args.terms.now in
    let first = IsFirst-from_position _ _ c.position.result (λ t. below t.variable v ≡ false) (λ t. below t.variable v ≡ true) c.position.ensures.ran (YieldsList-from_slice ts cc) (λ x q k. search (rules, tests)) (λ x q k. search (rules, tests)) in
    let place = index_from_first (seek v) (λ t. below t.variable v ≡ false) (λ t. below t.variable v ≡ true) refl (λ t us (e : below t.variable v ≡ false). rw e) (λ t us (e : below t.variable v ≡ true). rw (e, one-add, add-one)) ts c.position.result first in
    cc
