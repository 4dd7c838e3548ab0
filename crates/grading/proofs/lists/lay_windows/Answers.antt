use Rattle.std.proofs.Common.{◌≡◌, suc, ◌+◌, ◌*◌, sym, ap, ◌∙◌, arith}
use Rattle.matrices.specs.Writing.{over}
use Rattle.claims.specs.Grades.{window_terms, windows_terms}
use Rattle.claims.proofs.Laid.{over_more, over_put, windows_long}
use Rattle.grading.proofs.lists.lay_windows.Goals as goal

pub loop-w-preserved : goal.loop-w-preserved
loop-w-preserved g c =
    let m = g.F.Field.model in
    let wall = c.args.wall.now in
    let before = c.args.terms.now in
    let w = c.loop-w.w in
    let next : suc w ≡ w + 1 = omega arith in
    c.lay_window.ensures
    ∙ over_more before 0 (9 * w) (windows_terms m wall w) (window_terms m wall w) c.loop-w.terms (omega (arith, windows_long m wall w)) (omega arith)
    (c.loop-w.invariant ∙ over_put before (windows_terms m wall w))
    ∙ sym (over_put before (windows_terms m wall (suc w))) ∙ ap (λ n. over before (windows_terms m wall n)) next
