use Rattle.std.proofs.Common.{arith}
use Rattle.std.proofs.lemmas.Result.{err_from_is_err_and}
use Rattle.variables.specs.Refusals.{told}
use Rattle.finalising.specs.Lent.{lent}
use Rattle.finalising.proofs.Keeps.{keeps_further, keeps_at}
use Rattle.finalising.proofs.Loops.{sofar_none, sofar_more, sofar_refused, sofar_all}
use Rattle.finalising.proofs.steps.finish_entries.Goals as goal

pub loop-at-init : goal.loop-at-init
loop-at-init g c =
    let a = c.args in
    let start = lent a.counts a.terms.now a.index.now a.instances.now a.witnesses.now in
    sofar_none g.F.Field.model (g.R.OutliningRule.picking a.rule.now) a.counts.entries start c.requires

pub take_entry-requires : goal.take_entry-requires
take_entry-requires g c = record { ready = (c.args.counts.entries, c.loop-at-test.true, c.loop-at.invariant.ready) }

pub returns-in_err-take_entry-clause-does : goal.returns-in_err-take_entry-clause-does
returns-in_err-take_entry-clause-does g c =
    let a = c.args in
    let l = c.loop-at in
    let start = lent a.counts a.terms.now a.index.now a.instances.now a.witnesses.now in
    let now = lent l.sofar l.terms l.index a.instances.now l.witnesses in
    let p = err_from_is_err_and c.from_residual.result c.from_residual.ensures.1 in
    rw (p.1, p.2)
    (sofar_refused g.F.Field.model (g.R.OutliningRule.picking a.rule.now) a.counts.entries l.at start now l.invariant c.loop-at-test.true
    (told c.in_err-take_entry.field-0.0) c.in_err-take_entry.ensures.does)

pub returns-in_err-take_entry-clause-kept : goal.returns-in_err-take_entry-clause-kept
returns-in_err-take_entry-clause-kept g c =
    let a = c.args in
    let l = c.loop-at in
    let new = c.take_entry.new in
    let start = lent a.counts a.terms.now a.index.now a.instances.now a.witnesses.now in
    let now = lent l.sofar l.terms l.index a.instances.now l.witnesses in
    let t = lent new.counts new.terms new.index a.instances.now new.witnesses in
    keeps_at start t a.counts (keeps_further start now t l.invariant.grows l.invariant.kept c.in_err-take_entry.ensures.kept)

pub loop-at-preserved : goal.loop-at-preserved
loop-at-preserved g c =
    let a = c.args in
    let l = c.loop-at in
    let new = c.take_entry.new in
    let start = lent a.counts a.terms.now a.index.now a.instances.now a.witnesses.now in
    let now = lent l.sofar l.terms l.index a.instances.now l.witnesses in
    let t = lent new.counts new.terms new.index a.instances.now new.witnesses in
    sofar_more g.F.Field.model (g.R.OutliningRule.picking a.rule.now) a.counts.entries l.at start now l.invariant c.loop-at-test.true t
    c.in_ok-take_entry.ensures.does c.in_ok-take_entry.ensures.kept

pub returns-clause-does : goal.returns-clause-does
returns-clause-does g c =
    let a = c.args in
    let l = c.loop-at in
    let start = lent a.counts a.terms.now a.index.now a.instances.now a.witnesses.now in
    let now = lent l.sofar l.terms l.index a.instances.now l.witnesses in
    sofar_all g.F.Field.model (g.R.OutliningRule.picking a.rule.now) a.counts.entries l.at start now (omega arith) l.invariant

pub returns-clause-kept : goal.returns-clause-kept
returns-clause-kept g c =
    let a = c.args in
    let l = c.loop-at in
    let start = lent a.counts a.terms.now a.index.now a.instances.now a.witnesses.now in
    keeps_at start (lent l.sofar l.terms l.index a.instances.now l.witnesses) a.counts l.invariant.kept
