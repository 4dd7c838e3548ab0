-- Calls on an open circuit: when each is refused, and what it does where it is accepted. Assumes nothing.
use Rattle.std.specs.Prelude.{ℕ, ◌+◌, Bool, true, false, cond, not, ◌&&◌, List, [], ◌∷◌, ◌++◌, length, drop, Some, None, Ok, Err, Option, Result, ◌==◌, slice_set}
use Rattle.std.specs.Option.{is_none}
use Rattle.field.specs.Laws.{Model}
use Rattle.variables.specs.declared.SynthesisError.{SynthesisError}
use Rattle.variables.specs.declared.Variable.{Variable}
use Rattle.variables.specs.declared.Variable.TheVariants.{Instance, Witness, SymbolicLc}
use Rattle.variables.specs.declared.Term.{Term}
use Rattle.variables.specs.Refusals.{Told}
use Rattle.account.specs.declared.Mark.TheVariants.{Plain, A, B, C}
use Rattle.account.specs.declared.SynthesisMode.{SynthesisMode}
use Rattle.account.specs.declared.SynthesisMode.TheVariants.{Setup, Prove}
use Rattle.account.specs.declared.OptimizationGoal.{OptimizationGoal}
use Rattle.account.specs.declared.OptimizationGoal.TheVariants.{Constraints}
use Rattle.account.specs.Given.{lists}
use Rattle.account.specs.Finish.{lacks}
use Rattle.account.specs.Evaluate.{filled}
use Rattle.account.specs.Account.{failing_of, value_of}
use Rattle.account.specs.Refusals.{limit, value_places, when, first, variable_refusal, unless_bare, opening_refusal, value_refusal, terms_refusal, check_refusal}
use Rattle.tables.specs.declared.Counts.{Counts}
use Rattle.tables.specs.Held.{Held, State, lengths, room, with_list}
use Rattle.tables.specs.Sound.{marks_of, account_of, sound}

-- what a call answers, and what it leaves of all that it may change: where it is refused that is as it was
pub record Outcome (S X : Type 0) : Type 0 where
  pub answer : Result X Told
  pub state : S

abbrev pub outcome : {S X : Type 0} → Option Told → X → (accepted before : S) → Outcome S X
outcome None answer accepted before = record { answer = Ok answer; state = accepted }
outcome (Some refusal) answer accepted before = record { answer = Err refusal; state = before }

-- what the modes keep
abbrev pub is_setup : SynthesisMode → Bool
is_setup Setup = true
is_setup other = false

abbrev pub keeps_matrices : SynthesisMode → Bool
keeps_matrices (Prove false) = false
keeps_matrices other = true

-- no variable but the constant one, no combination and no constraint
abbrev pub fresh : Counts → Bool
fresh c = c.instances == 1 && (c.witnesses == 0 && (c.entries == 0 && c.constraints == 0))

-- mode and goal, which are set before all else
abbrev pub set_refusal : Counts → Option Told
set_refusal c = when (not (fresh c)) 10

abbrev pub with_mode : SynthesisMode → Counts → Counts
with_mode mode c = record c { mode = mode }

abbrev pub with_goal : OptimizationGoal → Counts → Counts
with_goal goal c = record c { goal = goal }

abbrev pub setting_mode : Counts → SynthesisMode → Outcome Counts (Unit {0})
setting_mode c mode = outcome (set_refusal c) tt (with_mode mode c) c

abbrev pub setting_goal : Counts → OptimizationGoal → Outcome Counts (Unit {0})
setting_goal c goal = outcome (set_refusal c) tt (with_goal goal c) c

-- where values are kept the one that is handed in lies at its number
abbrev pub with_value : {V : Type 0} → SynthesisMode → Result V SynthesisError → ℕ → List V → List V
with_value (Prove matrices) (Ok v) k values = slice_set values k v
with_value mode handed k values = values

module _ {V : Type 0} where
  -- What denies a call.

  -- 13 and 14: too few free entries, or term places, for so many more
  abbrev pub no_entries : ℕ → State V → Option Told
  no_entries n s = when (lacks (s.counts.entries + n) (room s.tables.index)) 13

  abbrev pub no_places : ℕ → State V → Option Told
  no_places n s = when (lacks (s.counts.terms + n) (room s.tables.terms)) 14

  -- 15 and 16: the first term that is not known at the next free entry
  abbrev pub unknown_in : State V → (list : ℕ) → List (Term V) → Option Told
  unknown_in s list ts = terms_refusal s.counts.instances s.counts.witnesses (marks_of s) list 0 ts

  -- 17: the tables are not sound
  abbrev pub unsound : State V → Option Told
  unsound s = when (not (sound s)) 17

  -- 11 and 12: no place for one value more
  abbrev pub no_instance_place : State V → Option Told
  no_instance_place s = when (lacks (s.counts.instances + 1) (value_places s.counts.mode (length s.tables.instances))) 11

  abbrev pub no_witness_place : State V → Option Told
  no_witness_place s = when (lacks (s.counts.witnesses + 1) (value_places s.counts.mode (length s.tables.witnesses))) 12

  -- 20: no constraint more can be counted
  abbrev pub no_constraint_more : State V → Option Told
  no_constraint_more s = when (lacks (s.counts.constraints + 1) limit) 20

  -- 19: a work table shorter than the entries
  abbrev pub short_of_work : (work : ℕ) → State V → Option Told
  short_of_work work s = when (lacks s.counts.entries work) 19

  -- a question needs the work table for a known symbol alone
  abbrev pub is_known_symbol : State V → Variable → Bool
  is_known_symbol s (SymbolicLc k) = is_none (variable_refusal s.counts.instances s.counts.witnesses (marks_of s) (SymbolicLc k))
  is_known_symbol s other = false

  -- The tests of each call, in their order: the first that refuses decides.
  abbrev pub new_input_variable_tests : State V → Result V SynthesisError → List (Option Told)
  new_input_variable_tests s handed = no_instance_place s ∷ value_refusal s.counts.mode handed ∷ []

  abbrev pub new_witness_variable_tests : State V → Result V SynthesisError → List (Option Told)
  new_witness_variable_tests s handed = no_witness_place s ∷ value_refusal s.counts.mode handed ∷ []

  abbrev pub new_lc_tests : State V → List (Term V) → List (Option Told)
  new_lc_tests s ts = no_entries 1 s ∷ no_places (length ts) s ∷ unknown_in s 0 ts ∷ []

  abbrev pub enforce_constraint_tests : State V → (a b c : List (Term V)) → List (Option Told)
  enforce_constraint_tests s a b c =
      no_constraint_more s
      ∷ unless_bare s.counts.mode (no_entries 3 s) ∷ unless_bare s.counts.mode (no_places (length a + length b + length c) s)
      ∷ unknown_in s 0 a ∷ unknown_in s 1 b ∷ unknown_in s 2 c ∷ []

  abbrev pub which_is_unsatisfied_tests : State V → (work : ℕ) → List (Option Told)
  which_is_unsatisfied_tests s work = unsound s ∷ check_refusal s.counts.mode (account_of s) ∷ short_of_work work s ∷ []

  abbrev pub assigned_value_tests : State V → (work : ℕ) → Variable → List (Option Told)
  assigned_value_tests s work v = unsound s ∷ when (is_known_symbol s v && lacks s.counts.entries work) 19 ∷ []

  -- What each does where it is accepted.

  abbrev pub with_instance : Result V SynthesisError → State V → State V
  with_instance handed s = record {
    counts = record s.counts { instances = s.counts.instances + 1 };
    tables = record s.tables { instances = with_value s.counts.mode handed s.counts.instances s.tables.instances };
  }

  abbrev pub with_witness : Result V SynthesisError → State V → State V
  with_witness handed s = record {
    counts = record s.counts { witnesses = s.counts.witnesses + 1 };
    tables = record s.tables { witnesses = with_value s.counts.mode handed s.counts.witnesses s.tables.witnesses };
  }

  -- a constraint's three lists, which bare mode does not keep
  abbrev pub with_constraint_lists : SynthesisMode → (a b c : List (Term V)) → State V → State V
  with_constraint_lists (Prove false) a b c s = s
  with_constraint_lists other a b c s = with_list C c (with_list B b (with_list A a s))

  abbrev pub one_constraint_more : State V → State V
  one_constraint_more s = record s { counts = record s.counts { constraints = s.counts.constraints + 1 } }

  abbrev pub with_constraint : (a b c : List (Term V)) → State V → State V
  with_constraint a b c s = one_constraint_more (with_constraint_lists s.counts.mode a b c s)

-- each call by name: what it answers and leaves
module _ {V : Type 0} (s : State V) where
  abbrev pub naming_instance : Result V SynthesisError → Outcome (State V) Variable
  naming_instance handed = outcome (first (new_input_variable_tests s handed)) (Instance s.counts.instances) (with_instance handed s) s

  abbrev pub naming_witness : Result V SynthesisError → Outcome (State V) Variable
  naming_witness handed = outcome (first (new_witness_variable_tests s handed)) (Witness s.counts.witnesses) (with_witness handed s) s

  abbrev pub naming_list : List (Term V) → Outcome (State V) Variable
  naming_list ts = outcome (first (new_lc_tests s ts)) (SymbolicLc (record { 0 = s.counts.entries })) (with_list Plain ts s) s

  abbrev pub constraining : (a b c : List (Term V)) → Outcome (State V) (Unit {0})
  constraining a b c = outcome (first (enforce_constraint_tests s a b c)) tt (with_constraint a b c s) s

-- mode Prove with matrices, goal Constraints, and the instance one
abbrev pub opened_counts : Counts
opened_counts = record { mode = Prove true; goal = Constraints; instances = 1; witnesses = 0; constraints = 0; entries = 0; terms = 0 }

module _ {V : Type 0} (m : Model V) where
  -- opening, whatever the tables held
  abbrev pub opened_tables : Held V → Held V
  opened_tables h = record h { instances = slice_set h.instances 0 m.one }

  abbrev pub opened_in : Held V → State V
  opened_in h = record { counts = opened_counts; tables = opened_tables h }

  abbrev pub opening : Held V → Outcome (Held V) Counts
  opening h = outcome (opening_refusal (lengths h)) opened_counts (opened_tables h) h

  -- the work table after it was filled: a place for each entry, and then what was there
  unfoldable pub work_of : State V → List (Option V) → List (Option V)
  work_of s work = let x = account_of s in filled m x.instances.kept x.witnesses.kept (lists x.given) ++ drop s.counts.entries work

  -- where a question needs it
  abbrev pub work_for : State V → Variable → List (Option V) → List (Option V)
  work_for s v work = cond (is_known_symbol s v) (work_of s work) work

  -- a check and a question
  abbrev pub checking : State V → List (Option V) → Outcome (List (Option V)) (Option ℕ)
  checking s work = outcome (first (which_is_unsatisfied_tests s (length work))) (failing_of m s.counts.mode (account_of s)) (work_of s work) work

  abbrev pub satisfying : State V → List (Option V) → Outcome (List (Option V)) Bool
  satisfying s work = outcome (first (which_is_unsatisfied_tests s (length work))) (is_none (failing_of m s.counts.mode (account_of s))) (work_of s work) work

  abbrev pub asking : State V → Variable → List (Option V) → Outcome (List (Option V)) (Option V)
  asking s v work = outcome (first (assigned_value_tests s (length work) v)) (value_of m (account_of s) v) (work_for s v work) work
