use Rattle.finalising.specs.Lent.{lent}
use Rattle.finalising.proofs.Begins.{spans_there, known_there, ready, kept_from_start}
use Rattle.finalising.proofs.finalizing.finish_counted.Goals as goal

pub count_uses-requires-clause-spans : goal.count_uses-requires-clause-spans
count_uses-requires-clause-spans g c =
    let a = c.args in
    spans_there a.counts a.terms.now a.index.now a.instances.now a.witnesses.now c.requires

pub count_uses-requires-clause-known : goal.count_uses-requires-clause-known
count_uses-requires-clause-known g c =
    let a = c.args in
    known_there a.counts a.terms.now a.index.now a.instances.now a.witnesses.now c.requires

pub finish_entries-requires : goal.finish_entries-requires
finish_entries-requires g c =
    let a = c.args in
    ready a.counts a.terms.now a.index.now a.instances.now a.witnesses.now c.requires _ c.count_uses.new.index c.count_uses.ensures

pub returns-clause-kept : goal.returns-clause-kept
returns-clause-kept g c =
    let a = c.args in
    let n = c.finish_entries.new in
    kept_from_start a.counts a.terms.now a.index.now a.instances.now a.witnesses.now c.requires _ c.count_uses.new.index c.count_uses.ensures
    (lent a.counts n.terms n.index a.instances.now n.witnesses) c.finish_entries.ensures.kept
