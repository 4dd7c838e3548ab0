-- When a call is accepted, as conditions. Assumes nothing.
use Rattle.std.specs.Prelude.{◌≡◌, ◌+◌, ◌≤◌, ◌↔◌, [], length, Some, None}
use Rattle.std.specs.Result.{result_ok}
use Rattle.field.specs.Laws.{Model}
use Rattle.variables.specs.Refusals.{Told}
use Rattle.variables.specs.declared.LcIndex.{LcIndex}
use Rattle.variables.specs.declared.Variable.TheVariants.{SymbolicLc}
use Rattle.account.specs.Given.{marks, lists, KnownVariable}
use Rattle.account.specs.Finish.{places}
use Rattle.account.specs.Rows.{Matrices}
use Rattle.account.specs.Account.{Account, KeepsMatrices, KeepsValues, HasValue, Checkable, KnownAt, witness_count, rule_of, matrices_of}
use Rattle.account.specs.Calls.{Call, set_mode, set_optimization_goal, new_input_variable, new_witness_variable, new_lc, enforce_constraint, which_is_unsatisfied, assigned_value, finalize, to_matrices}
use Rattle.account.specs.Refusals.{Lengths, opening_refusal, limit, capacity, value_places, used_terms, used_entries, room_of, start_of, refusal}
use Rattle.account.specs.Laws.{FindsPlaces}

-- no variable but instance 0, no combination and no constraint yet
pub record Fresh {V : Type 0} (x : Account V) : Type 0 where
  pub one_instance : x.instances.count ≡ 1
  pub no_witness : x.witnesses.count ≡ 0
  pub no_list : x.given ≡ []
  pub no_constraint : x.constraints ≡ 0

-- the counts fit the tables; of values Setup keeps the first instance alone
pub record Fits {V : Type 0} (k : Lengths) (x : Account V) : Type 0 where
  pub terms : used_terms x ≤ capacity k.terms
  pub entries : used_entries x ≤ capacity k.index
  pub first : (KeepsValues x.mode → ⊥) → 1 ≤ capacity k.instances
  pub instances : KeepsValues x.mode → x.instances.count ≤ capacity k.instances
  pub witnesses : KeepsValues x.mode → witness_count x ≤ capacity k.witnesses

module _ {V : Type 0} (m : Model V) where
  abbrev pub Conditions : Lengths → Account V → Call V → Type 0
  Conditions k x (set_mode mode) = Fresh x
  Conditions k x (set_optimization_goal goal) = Fresh x
  Conditions k x (new_input_variable handed) = (x.instances.count + 1 ≤ value_places x.mode k.instances) × HasValue x.mode (result_ok handed)
  Conditions k x (new_witness_variable handed) = (x.witnesses.count + 1 ≤ value_places x.mode k.witnesses) × HasValue x.mode (result_ok handed)
  Conditions k x (new_lc ts) = (used_entries x + 1 ≤ capacity k.index) × (used_terms x + length ts ≤ capacity k.terms) × KnownAt x ts
  -- bare mode asks for no places
  Conditions k x (enforce_constraint a b c) =
      (x.constraints + 1 ≤ limit)
      × (KeepsMatrices x.mode → (used_entries x + 3 ≤ capacity k.index) × (used_terms x + (length a + length b + length c) ≤ capacity k.terms))
      × KnownAt x a × KnownAt x b × KnownAt x c
  -- the work table is for an open circuit
  Conditions k x (which_is_unsatisfied work) = Fits k x × Checkable x.mode x × (x.finished ≡ None → used_entries x ≤ work)
  -- .. and here for a known symbol
  Conditions k x (assigned_value work v) =
      Fits k x
      × ((j : LcIndex) → v ≡ SymbolicLc j → KnownVariable x.instances.count x.witnesses.count (marks x.given) v → x.finished ≡ None → used_entries x ≤ work)
  -- every step of finalising finds its places
  Conditions k x finalize =
      Fits k x × (KeepsMatrices x.mode → FindsPlaces m (rule_of m x.goal (lists x.given)) (room_of k x) (start_of x) (places (lists x.given)) (lists x.given))
  Conditions k x (to_matrices cells ends) =
      Fits k x
      × ((answer : Matrices V) → matrices_of m x x.finished ≡ Some answer → (length answer.cells ≤ cells) × (length answer.ends ≤ ends))

  -- a call is accepted exactly where these hold
  abbrev pub AcceptedWhen : Type 0
  AcceptedWhen = (k : Lengths) (x : Account V) (call : Call V) → (refusal m k x call ≡ None) ↔ Conditions k x call

-- a circuit is opened exactly where there is a place for the first instance, and else refused by 11
pub record Opens (k : Lengths) : Type 0 where
  pub when_there : (opening_refusal k ≡ None) ↔ (1 ≤ k.instances)
  pub else_11 : (r : Told) → opening_refusal k ≡ Some r → r ≡ record { number = 11; values = [] }

abbrev pub OpenedWhen : Type 0
OpenedWhen = (k : Lengths) → Opens k
