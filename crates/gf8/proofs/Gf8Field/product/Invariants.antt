use Rattle.std.proofs.Common.{◌≡◌}
use Rattle.gf8.specs.Models.{number}
use Rattle.gf8.proofs.Steps.{upper}
use Rattle.gf8.proofs.Gf8Field.product.Given as goal

abbrev pub invariant-loop-i : goal.invariant-loop-i
invariant-loop-i l = l.value ≡ number (upper l.self.value l.other.value l.i)
