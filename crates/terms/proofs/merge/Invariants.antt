use Rattle.std.proofs.Common.{◌≡◌, ◌++◌, take}
use Rattle.std.specs.Iterator.Adapters.{enumerate_source, enumerate_count}
use Rattle.variables.specs.Merge.{merged}
use Rattle.terms.specs.Merging.{rest}
use Rattle.terms.proofs.merge.Given as goal

abbrev pub invariant-loop-k : goal.invariant-loop-k
invariant-loop-k g l =
    let push = g.C.Combine.pushing in
    let combine = g.C.Combine.combining in
    take (enumerate_count l.k-iterator) l.places ++ rest push combine (enumerate_source l.k-iterator) ≡ merged (push l.with) (combine l.with) l.left l.right
