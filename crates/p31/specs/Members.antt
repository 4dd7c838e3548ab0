-- The member of a number. Assumes nothing.
use Rattle.std.specs.Prelude.{ℕ, cond, Ok, Err, Result, nat_lt}
use Rattle.field.specs.declared.NotAMember.{NotAMember}
use Rattle.p31.specs.Residues.{modulus}
use Rattle.p31.specs.declared.P31.{P31}

-- the numbers of the field are those below the modulus
abbrev pub member : ℕ → Result P31 NotAMember
member n = cond (nat_lt n modulus) (Ok (record { value = n })) (Err (record { 0 = n }))
