use Rattle.std.proofs.Common.{length, sym, ap, ◌∙◌}
use Rattle.std.specs.List.{list_all}
use Rattle.tables.specs.Held.{state}
use Rattle.finishing.specs.Sound.{finished_fits}
use Rattle.finalising.proofs.RowsWorked.{finished_lie, check_sound, rows_checked}
use Rattle.finalising.proofs.checks.which_is_unsatisfied.Goals as goal

pub first_failing_row-requires : goal.first_failing_row-requires
first_failing_row-requires g c =
    let s = state c.args.counts.now c.args.tables.now in
    ap (list_all (finished_fits (length c.args.tables.now.terms.now))) c.entries_of-entries.ensures
    ∙ finished_lie s (check_sound s c.in_ok-may_check.ensures) (sym c.should_construct_matrices.ensures ∙ c.if-not-should_construct_matrices.false)

pub returns : goal.returns
returns g c =
    let kept = c.assignment-assignment.ensures in
    rows_checked (state c.args.counts.now c.args.tables.now) g.F.Field.model c.in_ok-may_check.ensures
    (sym c.should_construct_matrices.ensures ∙ c.if-not-should_construct_matrices.false) _ c.entries_of-entries.ensures
    _ _ kept.instances kept.witnesses _
    c.first_failing_row.ensures
