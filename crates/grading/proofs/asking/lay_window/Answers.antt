use Rattle.std.proofs.Common.{map, drop, refl, ap, ◌∙◌}
use Rattle.calls.specs.Calls.{as_call}
use Rattle.claims.proofs.Laid.{set_five, put_behind, map_put}
use Rattle.grading.proofs.asking.lay_window.Goals as goal

pub returns-clause-laid : goal.returns-clause-laid
returns-clause-laid g c = λ r. ap (map (as_call r)) (set_five c.args.calls.now c.args.at _ _ _ _ _ c.requires.room)
    ∙ map_put (as_call r) c.args.calls.now c.args.at _

pub returns-clause-beyond : goal.returns-clause-beyond
returns-clause-beyond g c =
    ap (drop _) (set_five c.args.calls.now c.args.at _ _ _ _ _ c.requires.room) ∙ put_behind c.args.calls.now c.args.at 5 _ refl c.requires.room
