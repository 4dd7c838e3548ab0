-- How variables and terms are written, and what errors and refusals say. Assumes nothing.
use Rattle.std.specs.Prelude.{ℕ, List, ◌++◌, Option, codes}
use Rattle.std.specs.Option.{option_map}
use Rattle.std.specs.Fmt.{decimal}
use Rattle.variables.specs.declared.Variable.{Variable}
use Rattle.variables.specs.declared.Variable.TheVariants.{Zero, One, Instance, Witness, SymbolicLc}
use Rattle.variables.specs.declared.Term.{Term}
use Rattle.variables.specs.declared.SynthesisError.{SynthesisError}
use Rattle.variables.specs.declared.SynthesisError.TheVariants.{MissingCS, AssignmentMissing, DivisionByZero, Unsatisfiable, PolynomialDegreeTooLarge, UnexpectedIdentity, MalformedVerifyingKey, UnconstrainedVariable}
use Rattle.variables.specs.declared.Refusal.{Refusal}
use Rattle.variables.specs.declared.Refusal.TheVariants.{Synthesis, SetTooLate, InstancesFull, WitnessesFull, IndexFull, TermsFull, UnknownVariable, ConstraintList, TablesUnsound, ConstraintsNotKept, TableTooShort, ConstraintsFull}

abbrev pub variable_text : Variable → List ℕ
variable_text Zero = codes "z"
variable_text One = codes "o"
variable_text (Instance i) = codes "i" ++ decimal i
variable_text (Witness i) = codes "w" ++ decimal i
variable_text (SymbolicLc k) = codes "s" ++ decimal k.0

-- `N*V`, where it is known how a number is written
abbrev pub term_text : {V : Type 0} → (V → Option (List ℕ)) → Term V → Option (List ℕ)
term_text number t = option_map (λ n. n ++ codes "*" ++ variable_text t.variable) (number t.number)

-- the texts of the Rust
abbrev pub error_text : SynthesisError → List ℕ
error_text MissingCS = codes "the constraint system was `None`"
error_text AssignmentMissing = codes "an assignment for a variable could not be computed"
error_text DivisionByZero = codes "division by zero"
error_text Unsatisfiable = codes "unsatisfiable constraint system"
error_text PolynomialDegreeTooLarge = codes "polynomial degree is too large"
error_text UnexpectedIdentity = codes "encountered an identity element in the CRS"
error_text MalformedVerifyingKey = codes "malformed verifying key"
error_text UnconstrainedVariable = codes "auxiliary variable was unconstrained"

abbrev pub refusal_text : Refusal → List ℕ
refusal_text (Synthesis e) = error_text e
refusal_text SetTooLate = codes "mode or goal set after a variable, a combination or a constraint"
refusal_text InstancesFull = codes "no place for another instance variable"
refusal_text WitnessesFull = codes "no place for another witness variable"
refusal_text IndexFull = codes "too few free index entries"
refusal_text TermsFull = codes "too few free term places"
refusal_text (UnknownVariable list term) = codes "unknown variable in list " ++ decimal list ++ codes ", term " ++ decimal term
refusal_text (ConstraintList list term) = codes "constraint's own list in list " ++ decimal list ++ codes ", term " ++ decimal term
refusal_text TablesUnsound = codes "the lent tables are not sound"
refusal_text ConstraintsNotKept = codes "constraints are counted and not kept"
refusal_text TableTooShort = codes "a lent table is too short"
refusal_text ConstraintsFull = codes "no place for another constraint"
