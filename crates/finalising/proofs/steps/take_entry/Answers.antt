use Rattle.std.proofs.Common.{◌+◌, ◌∙◌}
use Rattle.std.proofs.lemmas.Result.{err_from_is_err_and}
use Rattle.finishing.specs.Steps.{trimmed}
use Rattle.finalising.specs.Lent.{lent}
use Rattle.finalising.proofs.Takes.{step_refused, step_kept, step_outlined}
use Rattle.finalising.proofs.Keeps.{given_fits, given_below, keeps_terms}
use Rattle.finalising.proofs.Loops.{step_answered, outline_keeps}
use Rattle.finalising.proofs.steps.take_entry.Goals as goal

pub merge-requires-clause-span : goal.merge-requires-clause-span
merge-requires-clause-span g c =
    let a = c.args in
    let ready = c.requires.ready in
    given_fits ready.0 a.at (lent a.counts.now a.terms.now a.index.now a.instances.now a.witnesses.now) ready.2 ready.1

pub merge-requires-clause-known : goal.merge-requires-clause-known
merge-requires-clause-known g c =
    let a = c.args in
    let ready = c.requires.ready in
    given_below ready.0 a.at (lent a.counts.now a.terms.now a.index.now a.instances.now a.witnesses.now) ready.2 ready.1

pub returns-in_err-len-clause-does : goal.returns-in_err-len-clause-does
returns-in_err-len-clause-does g c =
    let a = c.args in
    let b = lent a.counts.now a.terms.now a.index.now a.instances.now a.witnesses.now in
    let p = err_from_is_err_and c.from_residual.result c.from_residual.ensures.1 in
    rw (p.1, p.2)
    (step_refused g.F.Field.model (g.R.OutliningRule.picking a.rule.now) b a.at c.in_err-len.field-0.0 c.in_err-len.ensures.answer)

pub returns-then-is_picked-clause-does : goal.returns-then-is_picked-clause-does
returns-then-is_picked-clause-does g c =
    let a = c.args in
    let b = lent a.counts.now a.terms.now a.index.now a.instances.now a.witnesses.now in
    let merge = c.in_ok-len.ensures in
    let new = c.outline.new in
    let t = trimmed (lent new.counts new.terms new.index a.instances.now new.witnesses) in
    step_outlined g.F.Field.model (g.R.OutliningRule.picking a.rule.now) b a.at c.merge.new.terms c.in_ok-len.len
    (c.requires.ready.2).terms merge.answer merge.written c.is_picked.result c.is_picked.ensures c.if-is_picked.true merge.used merge.long
    c.outline.result t c.outline.ensures.refuses c.outline.ensures.outlined

pub returns-then-is_picked-clause-kept : goal.returns-then-is_picked-clause-kept
returns-then-is_picked-clause-kept g c =
    let a = c.args in
    let b = lent a.counts.now a.terms.now a.index.now a.instances.now a.witnesses.now in
    let merge = c.in_ok-len.ensures in
    let new = c.outline.new in
    let t = lent new.counts new.terms new.index a.instances.now new.witnesses in
    outline_keeps g.F.Field.model (g.R.OutliningRule.picking a.rule.now) c.outline.result c.requires.ready.0 a.at b t
    (lent a.counts.now c.merge.new.terms a.index.now a.instances.now a.witnesses.now) c.requires.ready.2 c.requires.ready.1
    (c.outline.ensures.long ∙ merge.long) (returns-then-is_picked-clause-does g c) c.outline.ensures.refused
    (keeps_terms b c.merge.new.terms merge.used merge.long)

pub returns-clause-does : goal.returns-clause-does
returns-clause-does g c =
    let a = c.args in
    let b = lent a.counts.now a.terms.now a.index.now a.instances.now a.witnesses.now in
    let merge = c.in_ok-len.ensures in
    step_kept g.F.Field.model (g.R.OutliningRule.picking a.rule.now) b a.at c.merge.new.terms c.in_ok-len.len
    (c.requires.ready.2).terms merge.answer merge.written c.is_picked.result c.is_picked.ensures c.if-is_picked.false c.note.new.index c.note.ensures

pub returns-clause-kept : goal.returns-clause-kept
returns-clause-kept g c =
    let a = c.args in
    let b = lent a.counts.now a.terms.now a.index.now a.instances.now a.witnesses.now in
    let counts = record a.counts.now { terms = a.counts.now.terms + c.in_ok-len.len } in
    step_answered g.F.Field.model (g.R.OutliningRule.picking a.rule.now) c.requires.ready.0 a.at b
    (lent counts c.merge.new.terms c.note.new.index a.instances.now a.witnesses.now) c.requires.ready.2 c.requires.ready.1
    c.in_ok-len.ensures.long (returns-clause-does g c)
