-- The calls with their answers, and the account of a list of them. Assumes nothing.
use Rattle.std.specs.Prelude.{ℕ, List, [], ◌∷◌, ◌++◌, length, Ok, Err, Option, Result}
use Rattle.std.specs.Result.{result_ok}
use Rattle.field.specs.Laws.{Model}
use Rattle.variables.specs.declared.Variable.{Variable}
use Rattle.variables.specs.declared.Variable.TheVariants.{Instance, Witness, SymbolicLc}
use Rattle.variables.specs.declared.Term.{Term}
use Rattle.variables.specs.Refusals.{Told}
use Rattle.account.specs.declared.SynthesisMode.{SynthesisMode}
use Rattle.account.specs.declared.OptimizationGoal.{OptimizationGoal}
use Rattle.variables.specs.declared.SynthesisError.{SynthesisError}
use Rattle.account.specs.Rows.{Row, Matrices}
use Rattle.account.specs.Given.{Given}
use Rattle.account.specs.Account.{Account, plain_lists, constraint_lists, Effect, asks, checks, writes, sets_mode, sets_goal, names_instance, names_witness, names_lists, constrains, finalises, opened, changed, failing_of, value_of, matrices_of}

-- A call, with what is handed in. A check and a question are lent a work table of this many places, which a finished circuit does not
-- look at, and a writing tables of so many cells and row ends.
pub data Call (V : Type 0) : Type 0 where
  set_mode : SynthesisMode → Call V
  set_optimization_goal : OptimizationGoal → Call V
  new_input_variable : Result V SynthesisError → Call V
  new_witness_variable : Result V SynthesisError → Call V
  new_lc : List (Term V) → Call V
  enforce_constraint : (a b c : List (Term V)) → Call V
  which_is_unsatisfied : (work : ℕ) → Call V
  assigned_value : (work : ℕ) → Variable → Call V
  finalize : Call V
  to_matrices : (cells ends : ℕ) → Call V

-- what an accepted call answers: no more than that it was accepted, the variable that it named, the first row that fails or none, a value
-- or none, matrices or none
pub data Answer (V : Type 0) : Type 0 where
  unit : Answer V
  named : Variable → Answer V
  unsatisfied : Option ℕ → Answer V
  assigned : Option V → Answer V
  written : Option (Matrices V) → Answer V

-- a call with its answer, or its refusal as it is told
pub record Event (V : Type 0) : Type 0 where
  pub call : Call V
  pub answer : Result (Answer V) Told

abbrev pub accepted : {V : Type 0} → Call V → Answer V → Event V
accepted call answer = record { call = call; answer = Ok answer }

-- what a call does where it is accepted
abbrev pub effect_of : {V : Type 0} → Call V → Effect V
effect_of (set_mode mode) = sets_mode mode
effect_of (set_optimization_goal goal) = sets_goal goal
effect_of (new_input_variable handed) = names_instance (result_ok handed)
effect_of (new_witness_variable handed) = names_witness (result_ok handed)
effect_of (new_lc ts) = names_lists (ts ∷ [])
effect_of (enforce_constraint a b c) = constrains a b c
effect_of (which_is_unsatisfied work) = checks
effect_of (assigned_value work v) = asks
effect_of finalize = finalises
effect_of (to_matrices cells ends) = writes

abbrev pub if_accepted : {V X : Type 0} → Result (Answer V) Told → List X → List X
if_accepted (Ok answer) xs = xs
if_accepted (Err refusal) xs = []

-- what the accepted calls of a log bring, by their effects and in their order, where f says what an effect brings
abbrev pub accepted_all : {V X : Type 0} → (Effect V → List X) → List (Event V) → List X
accepted_all f [] = []
accepted_all f (e ∷ es) = if_accepted e.answer (f (effect_of e.call)) ++ accepted_all f es

-- constraints, as they were written
abbrev pub constraint_in : {V : Type 0} → Effect V → List (Row (List (Term V)))
constraint_in (constrains a b c) = record { a = a; b = b; c = c } ∷ []
constraint_in other = []

abbrev pub accepted_constraints : {V : Type 0} → List (Event V) → List (Row (List (Term V)))
accepted_constraints log = accepted_all constraint_in log

-- the lists that are kept in a mode, with their marks
abbrev pub lists_in : {V : Type 0} → SynthesisMode → Effect V → List (Given V)
lists_in mode (names_lists ls) = plain_lists ls
lists_in mode (constrains a b c) = constraint_lists mode a b c
lists_in mode other = []

abbrev pub accepted_lists : {V : Type 0} → SynthesisMode → List (Event V) → List (Given V)
accepted_lists mode log = accepted_all (lists_in mode) log

-- instances and witnesses, each with what was handed in, where it was a value
abbrev pub instance_in : {V : Type 0} → Effect V → List (Option V)
instance_in (names_instance handed) = handed ∷ []
instance_in other = []

abbrev pub witness_in : {V : Type 0} → Effect V → List (Option V)
witness_in (names_witness handed) = handed ∷ []
witness_in other = []

abbrev pub accepted_instances : {V : Type 0} → List (Event V) → List (Option V)
accepted_instances log = accepted_all instance_in log

abbrev pub accepted_witnesses : {V : Type 0} → List (Event V) → List (Option V)
accepted_witnesses log = accepted_all witness_in log

-- modes and goals that were set, and finalisings
abbrev pub mode_in : {V : Type 0} → Effect V → List SynthesisMode
mode_in (sets_mode mode) = mode ∷ []
mode_in other = []

abbrev pub goal_in : {V : Type 0} → Effect V → List OptimizationGoal
goal_in (sets_goal goal) = goal ∷ []
goal_in other = []

abbrev pub finalising_in : {V : Type 0} → Effect V → List (Effect V)
finalising_in finalises = finalises ∷ []
finalising_in other = []

abbrev pub accepted_modes : {V : Type 0} → List (Event V) → List SynthesisMode
accepted_modes log = accepted_all mode_in log

abbrev pub accepted_goals : {V : Type 0} → List (Event V) → List OptimizationGoal
accepted_goals log = accepted_all goal_in log

abbrev pub accepted_finalisings : {V : Type 0} → List (Event V) → List (Effect V)
accepted_finalisings log = accepted_all finalising_in log

module _ {V : Type 0} (m : Model V) where
  -- what a call answers where it is accepted
  abbrev pub answer_of : Account V → Call V → Answer V
  answer_of x (set_mode mode) = unit
  answer_of x (set_optimization_goal goal) = unit
  answer_of x (new_input_variable handed) = named (Instance x.instances.count)
  answer_of x (new_witness_variable handed) = named (Witness x.witnesses.count)
  answer_of x (new_lc ts) = named (SymbolicLc (record { 0 = length x.given }))
  answer_of x (enforce_constraint a b c) = unit
  answer_of x (which_is_unsatisfied work) = unsatisfied (failing_of m x.mode x)
  answer_of x (assigned_value work v) = assigned (value_of m x v)
  answer_of x finalize = unit
  answer_of x (to_matrices cells ends) = written (matrices_of m x x.finished)

  -- refused calls leave the account alone
  abbrev pub after_answer : Result (Answer V) Told → Account V → Effect V → Account V
  after_answer (Ok answer) x effect = changed m x effect
  after_answer (Err refusal) x effect = x

  abbrev pub after : Account V → Event V → Account V
  after x e = after_answer e.answer x (effect_of e.call)

  abbrev pub after_all : Account V → List (Event V) → Account V
  after_all x [] = x
  after_all x (e ∷ es) = after_all (after x e) es

  -- the account of a list of calls with their answers, from the opening on
  abbrev pub account : List (Event V) → Account V
  account log = after_all (opened m) log
