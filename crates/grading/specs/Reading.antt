-- What a verdict says. Assumes nothing.
use Rattle.std.specs.Prelude.{Ok, Err, Result}
use Rattle.variables.specs.declared.Refusal.{Refusal}
use Rattle.claims.specs.Verdicts.{Reading}
use Rattle.grading.specs.declared.judging.Verdict.{Verdict}

-- what a verdict says, beside the circuit; or the refusal
abbrev pub read_by : Result Verdict Refusal → Result Reading Refusal
read_by (Ok v) = Ok (record { before = v.before; after = v.after; matrices = v.matrices })
read_by (Err refusal) = Err refusal
