use Rattle.tables.specs.Held.{state}
use Rattle.finalising.proofs.Ends.{refuses, accepted, refused}
use Rattle.finalising.proofs.finalizing.finish.Goals as goal

pub returns-clause-refuses : goal.returns-clause-refuses
returns-clause-refuses g c =
    let r = c.requires in
    let f = c.finish_slices in
    refuses g.met.F.Field.keeps (g.R.OutliningRule.picking c.args.rule.now) (state c.args.counts c.args.tables.now)
    r.sound r.kept r.goal f.new.terms f.new.index f.new.instances f.new.witnesses f.result f.ensures.does

pub returns-clause-accepted : goal.returns-clause-accepted
returns-clause-accepted g c =
    let r = c.requires in
    let f = c.finish_slices in
    accepted g.met.F.Field.keeps (g.R.OutliningRule.picking c.args.rule.now) (state c.args.counts c.args.tables.now)
    r.sound r.kept r.goal f.new.terms f.new.index f.new.instances f.new.witnesses f.result f.ensures.does f.ensures.instances

pub returns-clause-refused : goal.returns-clause-refused
returns-clause-refused g c =
    let r = c.requires in
    let f = c.finish_slices in
    refused g.met.F.Field.keeps (g.R.OutliningRule.picking c.args.rule.now) (state c.args.counts c.args.tables.now)
    r.sound r.kept r.goal f.new.terms f.new.index f.new.instances f.new.witnesses f.result f.ensures.does f.ensures.instances
