use Rattle.std.proofs.Common.{◌≡◌, suc, ◌+◌, ◌*◌, map, drop, sym, ap, ◌∙◌, arith}
use lib.ListN.{length-map}
use Rattle.std.specs.Prelude.{slice_range}
use Rattle.std.specs.List.{slice_get}
use Rattle.tables.specs.Held.{put}
use Rattle.calls.specs.Calls.{as_call}
use Rattle.claims.specs.Grades.{handed, window_calls, windows_calls}
use Rattle.claims.proofs.Laid.{over_more, windows_calls_long, behind_more}
use Rattle.grading.proofs.asking.lay_windows.Goals as goal

pub loop-w-preserved : goal.loop-w-preserved
loop-w-preserved g c =
    let ts = c.args.terms.now in
    let squares = c.args.claim.now.squares.now in
    let before = c.args.calls.now in
    let now = c.loop-w.calls in
    let at = c.args.at in
    let w = c.loop-w.w in
    let lists = slice_range ts (9 * w) (9 * w + 9) in
    let next : suc w ≡ w + 1 = omega arith in
    let past : at + 5 * w + 5 ≡ at + 5 * (w + 1) = omega arith in
    record {
      laid = λ r.
          let f = as_call r in
          c.lay_window.ensures.laid r ∙ ap (λ s. put (map f now) (at + 5 * w) (window_calls lists s)) c.square.ensures
          ∙ over_more (map f before) at (at + 5 * w) (windows_calls ts squares w) (window_calls lists (handed (slice_get squares w))) (map f now)
          (omega (arith, windows_calls_long ts squares w)) (omega (arith, length-map before f)) (c.loop-w.invariant.laid r)
          ∙ ap (λ n. put (map f before) at (windows_calls ts squares n)) next;
      beyond =
          ap (λ n. drop n c.lay_window.new.calls) (sym past) ∙ c.lay_window.ensures.beyond ∙ ap (λ n. drop n now) past
          ∙ behind_more now before (at + 5 * w) (at + 5 * (w + 1)) (omega arith) c.loop-w.invariant.beyond;
    }

pub returns-clause-laid : goal.returns-clause-laid
returns-clause-laid g c =
    let all : c.loop-w.w ≡ c.args.windows = omega arith in
    λ r. c.loop-w.invariant.laid r
    ∙ ap (λ n. put (map (as_call r) c.args.calls.now) c.args.at (windows_calls c.args.terms.now c.args.claim.now.squares.now n)) all
