use Rattle.std.proofs.Common.{◌≡◌, ◌-◌, length, replicate, ap, ◌∙◌, arith, rules}
use Rattle.std.proofs.lemmas.List.{length-take, length-drop}
use Rattle.variables.specs.Terms.{nothing}
use Rattle.terms.proofs.Edits.{filled}
use Rattle.terms.proofs.Places.{put_after}
use Rattle.terms.proofs.compactify.Goals as goal

pub returns-clause-after : goal.returns-clause-after
returns-clause-after g c =
    let last = c.place_all-len.new.terms in
    let r = c.place_all-len.result in
    let y = nothing g.F.Field.model in
    let out = c.fill_with.new.self in
    let long : length out ≡ length c.args.terms.now - r = omega (arith, simp (length-take, length-drop) at c.fill_with.ensures.len) in
    let cleared : out ≡ replicate (length c.args.terms.now - r) y =
    filled _ y (λ f x h q. search rules) _ _ out c.fill_with.ensures.ran.1 ∙ ap (λ n. replicate n y) long in
    put_after last out r _ _ (omega arith) c.place_all-len.ensures.front cleared
