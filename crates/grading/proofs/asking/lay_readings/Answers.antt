use Rattle.std.proofs.Common.{◌+◌, map, take, sym, ap, ◌∙◌, arith}
use Rattle.std.proofs.lemmas.List.{length-take-le, take_all, drop-set-lt}
use Rattle.tables.specs.Held.{put}
use Rattle.calls.specs.Calls.{as_call}
use Rattle.claims.specs.Grades.{naming}
use Rattle.claims.proofs.Laid.{map_more, naming_long, naming_more, behind_more}
use Rattle.grading.proofs.asking.lay_readings.Goals as goal

pub loop-i-preserved : goal.loop-i-preserved
loop-i-preserved g c =
    let readings = c.args.readings.now in
    let before = c.args.calls.now in
    let at = c.args.at in
    let i = c.loop-i.i in
    let x = c.index-readings-i.result in
    record {
      laid = λ r.
          map_more (as_call r) c.loop-i.calls before at i (naming (take i readings)) _ (omega arith)
          (naming_long (take i readings) ∙ length-take-le i readings (omega arith)) (c.loop-i.invariant.laid r)
          ∙ ap (put (map (as_call r) before) at) (sym (naming_more readings i x (omega arith) c.index-readings-i.is));
      beyond = drop-set-lt (at + (i + 1)) c.loop-i.calls (at + i) _ (omega arith)
          ∙ behind_more c.loop-i.calls before (at + i) (at + (i + 1)) (omega arith) c.loop-i.invariant.beyond;
    }

pub returns-clause-laid : goal.returns-clause-laid
returns-clause-laid g c =
    let readings = c.args.readings.now in
    λ r. c.loop-i.invariant.laid r
    ∙ ap (λ l. put (map (as_call r) c.args.calls.now) c.args.at (naming l)) (take_all c.loop-i.i readings (omega arith))
