use Rattle.std.proofs.Common.{◌≡◌}
use Rattle.matrices.specs.Writing.{over}
use Rattle.claims.specs.Grades.{windows_terms}
use Rattle.grading.proofs.lists.lay_windows.Given as goal

abbrev pub invariant-loop-w : goal.invariant-loop-w
invariant-loop-w g l = l.terms ≡ over l.initial.terms (windows_terms g.F.Field.model l.wall l.w)
