use Rattle.std.proofs.Common.{Err, sym, refl, ap, ◌∙◌}
use Rattle.std.proofs.lemmas.Result.{err_from_is_err_and}
use Rattle.variables.specs.Refusals.{answered}
use Rattle.tables.specs.Held.{state}
use Rattle.writing.proofs.FromSound.{lie, many_rows, as_due}
use Rattle.writing.proofs.writing.to_matrices.Goals as goal

pub write-requires-clause-lie : goal.write-requires-clause-lie
write-requires-clause-lie g c =
    lie g.F.Field.model (state c.args.counts.now c.args.tables.now) (sym c.is_sound.ensures ∙ c.if-not-is_sound.false)
    (sym c.should_construct_matrices.ensures ∙ c.if-not-should_construct_matrices.false) c.requires _ _ c.in_use.ensures c.entries_of.ensures

pub write-requires-clause-rows : goal.write-requires-clause-rows
write-requires-clause-rows g c =
    many_rows g.F.Field.model (state c.args.counts.now c.args.tables.now) (sym c.is_sound.ensures ∙ c.if-not-is_sound.false)
    (sym c.should_construct_matrices.ensures ∙ c.if-not-should_construct_matrices.false)
    c.in_use.result c.entries_of.result c.in_use.ensures c.entries_of.ensures

pub returns-in_err-written : goal.returns-in_err-written
returns-in_err-written g c =
    let p = err_from_is_err_and c.from_residual.result c.from_residual.ensures.1 in
    as_due g.F.Field.model (state c.args.counts.now c.args.tables.now) (sym c.is_sound.ensures ∙ c.if-not-is_sound.false)
    (sym c.should_construct_matrices.ensures ∙ c.if-not-should_construct_matrices.false)
    c.in_use.result c.entries_of.result c.in_use.ensures c.entries_of.ensures _ _ _ c.in_err-written.ensures _ (ap answered (p.1 ∙ ap Err p.2))

pub returns : goal.returns
returns g c =
    as_due g.F.Field.model (state c.args.counts.now c.args.tables.now) (sym c.is_sound.ensures ∙ c.if-not-is_sound.false)
    (sym c.should_construct_matrices.ensures ∙ c.if-not-should_construct_matrices.false)
    c.in_use.result c.entries_of.result c.in_use.ensures c.entries_of.ensures _ _ _ c.in_ok-written.ensures _ refl
