-- What the calls of a run do, by the definition of each call: its answer, and every place of every table but what finalising leaves free.
-- Assumes nothing.
use Rattle.std.specs.Prelude.{ℕ, min, List, [], ◌∷◌, ◌++◌, length, take, Some, None, Option, Result}
use Rattle.std.specs.Option.{is_some}
use Rattle.field.specs.Laws.{Model}
use Rattle.variables.specs.declared.SynthesisError.{SynthesisError}
use Rattle.variables.specs.declared.Variable.{Variable}
use Rattle.variables.specs.declared.Term.{Term}
use Rattle.variables.specs.Refusals.{Told}
use Rattle.account.specs.declared.SynthesisMode.{SynthesisMode}
use Rattle.account.specs.declared.OptimizationGoal.{OptimizationGoal}
use Rattle.account.specs.Calls as account
use Rattle.account.specs.Calls.{effect_of}
use Rattle.tables.specs.Held.{State, KeepsBeyond}
use Rattle.tables.specs.Calls.{setting_mode, setting_goal, naming_instance, naming_witness, naming_list, constraining}
use Rattle.tables.specs.Calls as tables
use Rattle.tables.specs.Follows.{answer_as}
use Rattle.finishing.specs.Checks.{unless_refused}
use Rattle.finishing.specs.Checks as finished
use Rattle.finishing.specs.Finalising.{Finalises}
use Rattle.matrices.specs.Writing.{writing}
use Rattle.matrices.specs.Laws.{as_written}
use Rattle.calls.specs.Calls.{Beside}
use Rattle.calls.specs.Standing.{Standing}
use Rattle.calls.specs.Runs.{Goes}
use Rattle.calls.specs.Laws.{while_open, when_finished, with_work, part_of, with_part, WhileOpen}

module _ {V : Type 0} (m : Model V) where
  -- what a writing leaves of what lies beside the tables, where it is lent the first cells and the first row ends
  abbrev pub left_by : State V → Beside V → (cells ends : ℕ) → Beside V
  left_by s b cells ends = with_part b cells ends (writing m s (part_of b.written cells ends)).state

  -- One call, with its answer, makes of the one standing the other. A check and a question of an open circuit are lent the first n places of
  -- the work table, and a writing the first cells and the first row ends.
  pub data Does : Standing V → account.Call V → Option (Result (account.Answer V) Told) → Standing V → Type 0 where
    sets_mode : (s : State V) (b : Beside V) (mode : SynthesisMode)
        → Does (while_open s b) (account.set_mode mode) (Some (answer_as (λ _. account.unit) (setting_mode s.counts mode).answer))
        (while_open (record s { counts = (setting_mode s.counts mode).state }) b)
    sets_goal : (s : State V) (b : Beside V) (goal : OptimizationGoal)
        → Does (while_open s b) (account.set_optimization_goal goal) (Some (answer_as (λ _. account.unit) (setting_goal s.counts goal).answer))
        (while_open (record s { counts = (setting_goal s.counts goal).state }) b)
    names_instance : (s : State V) (b : Beside V) (handed : Result V SynthesisError)
        → Does (while_open s b) (account.new_input_variable handed) (Some (answer_as account.named (naming_instance s handed).answer))
        (while_open (naming_instance s handed).state b)
    names_witness : (s : State V) (b : Beside V) (handed : Result V SynthesisError)
        → Does (while_open s b) (account.new_witness_variable handed) (Some (answer_as account.named (naming_witness s handed).answer))
        (while_open (naming_witness s handed).state b)
    names_list : (s : State V) (b : Beside V) (ts : List (Term V))
        → Does (while_open s b) (account.new_lc ts) (Some (answer_as account.named (naming_list s ts).answer)) (while_open (naming_list s ts).state b)
    constrains : (s : State V) (b : Beside V) (x y z : List (Term V))
        → Does (while_open s b) (account.enforce_constraint x y z) (Some (answer_as (λ _. account.unit) (constraining s x y z).answer))
        (while_open (constraining s x y z).state b)
    checks : (s : State V) (b : Beside V) (n : ℕ)
        → Does (while_open s b) (account.which_is_unsatisfied (min n (length b.work)))
        (Some (answer_as account.unsatisfied (tables.checking m s (take n b.work)).answer))
        (while_open s (with_work b n (tables.checking m s (take n b.work)).state))
    asks : (s : State V) (b : Beside V) (v : Variable) (n : ℕ)
        → Does (while_open s b) (account.assigned_value (min n (length b.work)) v)
        (Some (answer_as account.assigned (tables.asking m s v (take n b.work)).answer))
        (while_open s (with_work b n (tables.asking m s v (take n b.work)).state))
    finalises : (before after : State V) (refusal : Option Told) (b : Beside V) → KeepsBeyond before.tables after.tables
        → Finalises m before refusal after
        → Does (while_open before b) account.finalize (Some (unless_refused refusal account.unit))
        (record { unfinished = is_some refusal; circuit = after; beside = b })
    checks_rows : (s : State V) (b : Beside V) (work : ℕ)
        → Does (when_finished s b) (account.which_is_unsatisfied work) (Some (answer_as account.unsatisfied (finished.checking m s))) (when_finished s b)
    asks_finished : (s : State V) (b : Beside V) (work : ℕ) (v : Variable)
        → Does (when_finished s b) (account.assigned_value work v) (Some (answer_as account.assigned (finished.asking m s v))) (when_finished s b)
    writes : (s : State V) (b : Beside V) (cells ends : ℕ)
        → Does (when_finished s b) (account.to_matrices (min cells (length b.written.cells)) (min ends (length b.written.ends)))
        (Some (answer_as (as_written (left_by s b cells ends).written) (writing m s (part_of b.written cells ends)).answer))
        (when_finished s (left_by s b cells ends))
    -- a call out of place does nothing
    before_its_time : (s : State V) (b : Beside V) (cells ends : ℕ) → Does (while_open s b) (account.to_matrices cells ends) None (while_open s b)
    after_its_time : (s : State V) (b : Beside V) (call : account.Call V) → WhileOpen (effect_of call) → Does (when_finished s b) call None (when_finished s b)

  -- calls one after another, each on what the one before left, with their answers
  pub data DoAll (start : Standing V) : List (account.Call V) → List (Option (Result (account.Answer V) Told)) → Standing V → Type 0 where
    no_call : DoAll start [] [] start
    one_more : {calls : List (account.Call V)} {answers : List (Option (Result (account.Answer V) Told))} {before now : Standing V}
        {call : account.Call V} {answer : Option (Result (account.Answer V) Told)}
        → DoAll start calls answers before → Does before call answer now → DoAll start (calls ++ call ∷ []) (answers ++ answer ∷ []) now

  -- What a call does is as the account has it.
  abbrev pub DoesGo : Type 0
  DoesGo = (before now : Standing V) (call : account.Call V) (answer : Option (Result (account.Answer V) Told)) → Does before call answer now
      → Goes m before call answer now
