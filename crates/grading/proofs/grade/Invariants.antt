use Rattle.grading.proofs.Honest.{Filled}
use Rattle.grading.proofs.grade.Given as goal

abbrev pub invariant-loop-k : goal.invariant-loop-k
invariant-loop-k g l = Filled g.F.Field.model l.wall l.initial.squares l.squares l.k l.grade
