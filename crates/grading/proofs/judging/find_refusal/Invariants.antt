use Rattle.std.proofs.Common.{◌≡◌, drop}
use Rattle.claims.specs.Verdicts.{refusal_in}
use Rattle.grading.proofs.judging.find_refusal.Given as goal

abbrev pub invariant-loop-answer : goal.invariant-loop-answer
invariant-loop-answer g l = refusal_in (drop l.answer-index l.answers) ≡ refusal_in l.answers
