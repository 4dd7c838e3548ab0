use Rattle.std.proofs.Common.{◌*◌, sym, ◌∙◌, arith}
use Rattle.claims.specs.Grades.{windows_of, windows_terms, last_terms, terms_of}
use Rattle.claims.proofs.Laid.{over_more, over_put, windows_long, terms_long}
use Rattle.grading.proofs.lists.claim_terms.Goals as goal

pub returns-clause-laid : goal.returns-clause-laid
returns-clause-laid g c =
    let m = g.F.Field.model in
    let wall = c.args.wall.now in
    let before = c.args.terms.now in
    let n = windows_of wall in (
      omega (arith, terms_long m wall),
      c.lay_last.ensures
          ∙ over_more before 0 (9 * n) (windows_terms m wall n) (last_terms m wall) c.lay_windows.new.terms (omega (arith, windows_long m wall n))
          (omega arith)
          (c.lay_windows.ensures ∙ over_put before (windows_terms m wall n))
          ∙ sym (over_put before (terms_of m wall)),
    )
