-- Runs of calls on lent tables. Assumes nothing.
use Rattle.std.specs.Prelude.{◌≡◌, List, [], ◌∷◌, ◌++◌, map, length, None, Option, Result}
use Rattle.field.specs.Laws.{Model}
use Rattle.variables.specs.declared.SynthesisError.{SynthesisError}
use Rattle.variables.specs.declared.Variable.{Variable}
use Rattle.variables.specs.declared.Term.{Term}
use Rattle.variables.specs.Refusals.{Told}
use Rattle.account.specs.declared.SynthesisMode.{SynthesisMode}
use Rattle.account.specs.declared.OptimizationGoal.{OptimizationGoal}
use Rattle.account.specs.Calls.{Call, Answer, Event, account}
use Rattle.account.specs.Calls as calls
use Rattle.account.specs.Refusals.{opening_refusal}
use Rattle.account.specs.Run.{log_of}
use Rattle.account.specs.Promise.{Promised}
use Rattle.tables.specs.Held.{Held, State, lengths, KeepsBeyond}
use Rattle.tables.specs.Calls.{setting_mode, setting_goal, naming_instance, naming_witness, naming_list, constraining, opened_in, checking, asking}
use Rattle.tables.specs.Follows.{Shows, answer_as}

module _ {V : Type 0} (m : Model V) where
  -- What a call on an open circuit answers, and the circuit that it leaves. A check and a question are lent a work table, whatever it
  -- holds, and leave the circuit as it was.
  pub data Makes (s : State V) : Call V → Result (Answer V) Told → State V → Type 0 where
    sets_mode : (mode : SynthesisMode)
        → Makes s (calls.set_mode mode) (answer_as (λ _. calls.unit) (setting_mode s.counts mode).answer) (record s { counts = (setting_mode s.counts mode).state })
    sets_goal : (goal : OptimizationGoal)
        → Makes s (calls.set_optimization_goal goal) (answer_as (λ _. calls.unit) (setting_goal s.counts goal).answer) (record s { counts = (setting_goal s.counts goal).state })
    names_instance : (handed : Result V SynthesisError)
        → Makes s (calls.new_input_variable handed) (answer_as calls.named (naming_instance s handed).answer) (naming_instance s handed).state
    names_witness : (handed : Result V SynthesisError)
        → Makes s (calls.new_witness_variable handed) (answer_as calls.named (naming_witness s handed).answer) (naming_witness s handed).state
    names_list : (ts : List (Term V)) → Makes s (calls.new_lc ts) (answer_as calls.named (naming_list s ts).answer) (naming_list s ts).state
    constrains : (a b c : List (Term V))
        → Makes s (calls.enforce_constraint a b c) (answer_as (λ _. calls.unit) (constraining s a b c).answer) (constraining s a b c).state
    checks : (work : List (Option V)) → Makes s (calls.which_is_unsatisfied (length work)) (answer_as calls.unsatisfied (checking m s work).answer) s
    asks : (work : List (Option V)) (v : Variable) → Makes s (calls.assigned_value (length work) v) (answer_as calls.assigned (asking m s v work).answer) s

  -- calls one after another, each on what the one before left, with their answers
  pub data RunOn (s : State V) : List (Event V) → State V → Type 0 where
    none : RunOn s [] s
    more : {log : List (Event V)} {t u : State V} {call : Call V} {answer : Result (Answer V) Told} → RunOn s log t → Makes t call answer u
        → RunOn s (log ++ record { call = call; answer = answer } ∷ []) u

  -- Calls on a circuit that was opened over these tables make the run of the account:
  pub record RunFollows (before : Held V) (log : List (Event V)) (now : State V) : Type 0 where
    -- they are answered and refused as the account has it for the same calls;
    pub answers : log ≡ log_of m (lengths before) (map (λ e. e.call) log)
    -- all is so that is promised of runs;
    pub promised : Promised m log
    -- the tables show the account of the run;
    pub shows : Shows now (account m log)
    -- and they keep their lengths, and what lies past the places that count.
    pub same_lengths : lengths now.tables ≡ lengths before
    pub beyond : KeepsBeyond before now.tables

  abbrev pub RunsFollow : Type 0
  RunsFollow = (h : Held V) → opening_refusal (lengths h) ≡ None → (log : List (Event V)) (now : State V) → RunOn (opened_in m h) log now → RunFollows h log now
