use Rattle.std.proofs.Common.{get_or, set, ap, ◌∙◌}
use Rattle.variables.specs.Terms.{term}
use Rattle.terms.proofs.Edits.{gained_set}
use Rattle.terms.proofs.gain.Goals as goal

pub returns : goal.returns
returns g c =
    let ts = c.args.terms.now in
    let t = c.index-terms-at.result in
    ap (λ n. set ts c.args.at (term n (get_or ts c.args.at t).variable)) c.sum-t.ensures
    ∙ gained_set g.F.Field.model c.args.number c.args.at ts t c.requires
