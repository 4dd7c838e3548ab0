use Rattle.finalising.proofs.Counts.{counted_once, counted_never}
use Rattle.finalising.proofs.uses.count_use.Goals as goal

pub returns-in-SymbolicLc : goal.returns-in-SymbolicLc
returns-in-SymbolicLc c = counted_once c.args.index.now _ c.args.variable c.in-SymbolicLc.field-0 c.in-SymbolicLc.is c.requires.known

pub returns-in_default : goal.returns-in_default
returns-in_default c = counted_never c.args.index.now c.args.variable c.in_default.not-SymbolicLc
