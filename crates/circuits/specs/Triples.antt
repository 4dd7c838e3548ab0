-- The marks of one constraint. Assumes nothing.
use Rattle.std.specs.Prelude.{Bool, true, false}
use Rattle.account.specs.declared.Mark.{Mark}
use Rattle.account.specs.declared.Mark.TheVariants.{A, B, C}

abbrev pub is_triple : (a b c : Mark) → Bool
is_triple A B C = true
is_triple a b c = false
