use Rattle.std.proofs.Common.{length, ap, ◌∙◌}
use Rattle.std.specs.List.{list_all}
use Rattle.tables.specs.Held.{state}
use Rattle.tables.specs.Sound.{entries_of, span_fits}
use Rattle.tables.specs.Calls.{work_of}
use Rattle.circuits.proofs.Fills.{filled_at}
use Rattle.circuits.proofs.SoundParts.{entries_counted, spans_lie}
use Rattle.circuits.proofs.evaluation.fill.Goals as goal

pub fill_entries-requires-clause-spans : goal.fill_entries-requires-clause-spans
fill_entries-requires-clause-spans g c =
    ap (list_all (span_fits (length c.args.tables.now.terms.now))) c.entries_of-entries.ensures ∙ spans_lie (state c.args.counts.now c.args.tables.now) c.requires.sound

pub returns : goal.returns
unfolding work_of
returns g c =
    let s = state c.args.counts.now c.args.tables.now in
    let kept = c.assignment-assignment.ensures in
    filled_at g.F.Field.model s.tables.terms c.args.work.now (entries_of s) c.fill_entries.ensures kept.instances kept.witnesses c.entries_of-entries.ensures
    (entries_counted s c.requires.sound)
