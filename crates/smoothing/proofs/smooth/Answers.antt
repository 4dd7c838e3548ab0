use Rattle.std.proofs.Common.{ap, ◌∙◌, rules}
use Rattle.variables.specs.Refusals.{answered}
use Rattle.smoothing.specs.Windows.{Smoothed}
use Rattle.smoothing.proofs.Windows.{window_sums}
use Rattle.smoothing.proofs.smooth.Goals as goal

pub returns-clause-sums : goal.returns-clause-sums
returns-clause-sums g c v e =
    window_sums g.met.F.Field.keeps c.args.readings.now c.args.first c.args.width (search rules) v (cc (ap (λ (s : Smoothed _). s.answer) c.gather.ensures ∙ ap answered e))
