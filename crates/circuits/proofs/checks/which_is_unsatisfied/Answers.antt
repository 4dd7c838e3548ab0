use Rattle.std.proofs.Common.{sym, ◌∙◌}
use Rattle.tables.specs.Held.{state}
use Rattle.circuits.proofs.Checked.{checked}
use Rattle.circuits.proofs.checks.which_is_unsatisfied.Goals as goal

pub returns : goal.returns
returns g c =
    checked g.F.Field.model (state c.args.counts.now c.args.tables.now) c.args.work.now c.in_ok-may_check.ensures
    (sym c.should_construct_matrices.ensures ∙ c.if-not-should_construct_matrices.false) _ c.entries_of-entries.ensures _ c.fill.ensures _ c.first_failing.ensures
