use Rattle.std.proofs.Common.{[], ◌∷◌, Ok, map, ap, ◌∙◌}
use Rattle.calls.specs.declared.Call.TheVariants.{SetOptimizationGoal, NewInputVariable}
use Rattle.calls.specs.Calls.{as_call}
use Rattle.claims.proofs.Laid.{set_two, map_over}
use Rattle.grading.proofs.asking.lay_first.Goals as goal

pub returns-clause-laid : goal.returns-clause-laid
returns-clause-laid g c = λ r.
    ap (map (as_call r)) (set_two c.args.calls.now _ _ c.requires.room)
    ∙ map_over (as_call r) c.args.calls.now (SetOptimizationGoal c.args.goal ∷ NewInputVariable (Ok c.args.grade) ∷ [])
