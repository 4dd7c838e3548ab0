-- The number of each refusal, and the values that come with it. Assumes nothing.
use Rattle.std.specs.Prelude.{ℕ, List, [], ◌∷◌, Ok, Err, Result}
use Rattle.variables.specs.declared.SynthesisError.{SynthesisError}
use Rattle.variables.specs.declared.SynthesisError.TheVariants.{MissingCS, AssignmentMissing, DivisionByZero, Unsatisfiable, PolynomialDegreeTooLarge, UnexpectedIdentity, MalformedVerifyingKey, UnconstrainedVariable}
use Rattle.variables.specs.declared.Refusal.{Refusal}
use Rattle.variables.specs.declared.Refusal.TheVariants.{Synthesis, SetTooLate, InstancesFull, WitnessesFull, IndexFull, TermsFull, UnknownVariable, ConstraintList, TablesUnsound, ConstraintsNotKept, TableTooShort, ConstraintsFull}

-- a refusal as it is told
pub record Told : Type 0 where
  pub number : ℕ
  pub values : List ℕ

-- a refusal with no values
abbrev pub number_alone : ℕ → Told
number_alone number = record { number = number; values = [] }

-- a refusal of a term, with its list and its place there
abbrev pub number_at : (number list place : ℕ) → Told
number_at number list place = record { number = number; values = list ∷ place ∷ [] }

-- the place of an error in SynthesisError, from 1
abbrev pub error_number : SynthesisError → ℕ
error_number MissingCS = 1
error_number AssignmentMissing = 2
error_number DivisionByZero = 3
error_number Unsatisfiable = 4
error_number PolynomialDegreeTooLarge = 5
error_number UnexpectedIdentity = 6
error_number MalformedVerifyingKey = 7
error_number UnconstrainedVariable = 8

abbrev pub told : Refusal → Told
told (Synthesis e) = number_alone (error_number e)
told SetTooLate = number_alone 10
told InstancesFull = number_alone 11
told WitnessesFull = number_alone 12
told IndexFull = number_alone 13
told TermsFull = number_alone 14
told (UnknownVariable list term) = number_at 15 list term
told (ConstraintList list term) = number_at 16 list term
told TablesUnsound = number_alone 17
told ConstraintsNotKept = number_alone 18
told TableTooShort = number_alone 19
told ConstraintsFull = number_alone 20

-- an answer with its refusal as it is told
abbrev pub answered : {X : Type 0} → Result X Refusal → Result X Told
answered (Ok x) = Ok x
answered (Err e) = Err (told e)

-- a refusal that carries no values
abbrev pub refused : {X : Type 0} → ℕ → Result X Told
refused n = Err (number_alone n)
