use Rattle.std.proofs.Common.{◌≡◌, ◌++◌, map, take, drop}
use Rattle.finishing.specs.Finalising.{as_given}
use Rattle.finalising.proofs.uses.clear.Given as goal

abbrev pub invariant-loop-entry : goal.invariant-loop-entry
invariant-loop-entry l = l.index ≡ map as_given (take l.entry-index l.initial.index) ++ drop l.entry-index l.initial.index
