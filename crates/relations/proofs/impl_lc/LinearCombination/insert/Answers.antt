use Rattle.std.proofs.Common.{◌<◌, length, refl, rules}
use Rattle.relations.proofs.Holds.{put_inserted}
use Rattle.relations.proofs.impl_lc.LinearCombination.insert.Goals as goal

pub returns : goal.returns
returns g c =
    let lc = c.args.self.now in
    let lt : lc.len < length lc.terms.now = search rules in
    record { place = refl; does = put_inserted lc.len c.args.at c.args.term lc.terms.now _ lt c.requires c.insert.ensures }
