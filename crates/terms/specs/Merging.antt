-- What a merge still gives. Assumes nothing.
use Rattle.std.specs.Prelude.{List}
use Rattle.variables.specs.declared.Term.{Term}
use Rattle.variables.specs.Merge.{merged}
use Rattle.terms.specs.declared.merging.Merge.{Merge}

-- the merge of what is left of the two lists, where `push` and `combine` say what C does with numbers
abbrev pub rest : {F C : Type 0} → (C → F → F) → (C → F → F → F) → Merge F C → List (Term F)
rest push combine s = merged (push s.with.now) (combine s.with.now) s.left.now s.right.now
