-- What is said of a number that no member has. Assumes nothing.
use Rattle.std.specs.Prelude.{ℕ, List, ◌++◌, codes}
use Rattle.std.specs.Fmt.{decimal}

abbrev pub not_a_member : ℕ → List ℕ
not_a_member n = decimal n ++ codes " is no number of the field"
