-- The member of a number. Assumes nothing.
use Rattle.std.specs.Prelude.{ℕ, cond, Ok, Err, Result, nat_lt}
use Rattle.field.specs.declared.NotAMember.{NotAMember}
use Rattle.gf8.specs.declared.Gf8.{Gf8}

-- the numbers of the field are those of bytes
abbrev pub member : ℕ → Result Gf8 NotAMember
member n = cond (nat_lt n 256) (Ok (record { value = n })) (Err (record { 0 = n }))
