use Rattle.finalising.specs.Lent.{lent}
use Rattle.finalising.proofs.Begins.{finishable}
use Rattle.finalising.proofs.Parts.{finishable_part, finished_by}
use Rattle.finalising.proofs.finalizing.finish_slices.Goals as goal

pub finish_counted-requires : goal.finish_counted-requires
finish_counted-requires g c =
    let a = c.args in
    finishable_part a.counts a.terms.now a.index.now a.instances.now a.witnesses.now _ _ _
    c.capacity-places.ensures c.capacity-entries.ensures c.capacity-values.ensures _
    (finishable (lent a.counts a.terms.now a.index.now a.instances.now a.witnesses.now) c.requires.sound c.requires.kept _ _)

pub returns-clause-does : goal.returns-clause-does
returns-clause-does g c =
    let a = c.args in
    finished_by a.counts a.terms.now a.index.now a.instances.now a.witnesses.now _ _ _
    c.capacity-places.ensures c.capacity-entries.ensures c.capacity-values.ensures
    g.F.Field.model (g.R.OutliningRule.picking a.rule.now) c.in_use-kept.result.now c.in_use-kept.ensures
    _ _ _ _ c.finish_counted.ensures.does c.finish_counted.ensures.kept
