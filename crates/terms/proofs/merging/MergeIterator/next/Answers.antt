use Rattle.std.proofs.Common.{arith}
use Rattle.std.proofs.lemmas.Grind.{common_steps}
use Rattle.terms.specs.Merging.{rest}
use Rattle.terms.proofs.Merges.{progress}
use Rattle.terms.proofs.merging.MergeIterator.next.Goals as goal

pub returns-in-Less-clause-goes : goal.returns-in-Less-clause-goes
returns-in-Less-clause-goes g c = progress (rest g.C.Combine.pushing g.C.Combine.combining) (grind (arith, common_steps))

pub returns-in-Greater-clause-steps : goal.returns-in-Greater-clause-steps
returns-in-Greater-clause-steps g c = grind (arith, common_steps)

pub returns-in-Greater-clause-goes : goal.returns-in-Greater-clause-goes
returns-in-Greater-clause-goes g c = progress (rest g.C.Combine.pushing g.C.Combine.combining) (grind (arith, common_steps))
