-- Laws about runs: every call goes by the account, one call more makes a longer run, and a run keeps the promise. Assumes nothing.
use Rattle.std.specs.Prelude.{◌≡◌, ℕ, min, true, false, List, [], ◌∷◌, ◌++◌, map, length, take, drop, Some, None, Option, Result}
use Rattle.std.specs.Option.{is_some}
use Rattle.field.specs.Laws.{Model}
use Rattle.variables.specs.declared.SynthesisError.{SynthesisError}
use Rattle.variables.specs.declared.Variable.{Variable}
use Rattle.variables.specs.declared.Term.{Term}
use Rattle.variables.specs.Refusals.{Told}
use Rattle.account.specs.declared.SynthesisMode.{SynthesisMode}
use Rattle.account.specs.declared.OptimizationGoal.{OptimizationGoal}
use Rattle.account.specs.Account.{Account, Effect, asks, checks, writes, opened}
use Rattle.account.specs.Calls as account
use Rattle.account.specs.Calls.{effect_of, after_all}
use Rattle.account.specs.Refusals.{opening_refusal}
use Rattle.account.specs.Promise.{Promised}
use Rattle.tables.specs.Held.{Held, State, lengths, KeepsBeyond}
use Rattle.tables.specs.Calls.{setting_mode, setting_goal, naming_instance, naming_witness, naming_list, constraining, opened_in}
use Rattle.tables.specs.Calls as tables
use Rattle.tables.specs.Follows.{answer_as}
use Rattle.finishing.specs.Checks.{unless_refused}
use Rattle.finishing.specs.Checks as finished
use Rattle.finishing.specs.Finalising.{Finalises}
use Rattle.matrices.specs.Writing.{Lent, lent, writing}
use Rattle.matrices.specs.Laws.{as_written}
use Rattle.calls.specs.declared.Call.{Call}
use Rattle.calls.specs.declared.Answer.{Answer}
use Rattle.calls.specs.Calls.{Beside, rooms, as_call, as_answer, log_in}
use Rattle.calls.specs.Standing.{Standing}
use Rattle.calls.specs.Runs.{Runs, Goes}
use Rattle.calls.specs.Promise.{Refuses, Shows}

module _ {V : Type 0} where
  -- a run whose circuit is open, or finished
  abbrev pub while_open : State V → Beside V → Standing V
  while_open s b = record { unfinished = true; circuit = s; beside = b }

  abbrev pub when_finished : State V → Beside V → Standing V
  when_finished s b = record { unfinished = false; circuit = s; beside = b }

  -- the work table, of which the first places were lent; and what a writing was lent
  abbrev pub with_work : Beside V → ℕ → List (Option V) → Beside V
  with_work b n work = record { work = work ++ drop n b.work; written = b.written }

  abbrev pub part_of : Lent V → (cells ends : ℕ) → Lent V
  part_of t cells ends = lent (take cells t.cells) (take ends t.ends)

  abbrev pub with_part : Beside V → (cells ends : ℕ) → Lent V → Beside V
  with_part b cells ends t = record { work = b.work; written = lent (t.cells ++ drop cells b.written.cells) (t.ends ++ drop ends b.written.ends) }

  -- effects that build while the circuit is open alone
  abbrev pub WhileOpen : Effect V → Type 0
  WhileOpen asks = ⊥
  WhileOpen checks = ⊥
  WhileOpen writes = ⊥
  WhileOpen other = Unit {0}

module _ {V : Type 0} (m : Model V) where
  -- Each call on an open circuit goes by the account. A check and a question are lent the first n places of the work table.
  pub record OpenCallsGo : Type 0 where
    pub set_mode : (s : State V) (b : Beside V) (mode : SynthesisMode)
        → let o = setting_mode s.counts mode in
        Goes m (while_open s b) (account.set_mode mode) (Some (answer_as (λ _. account.unit) o.answer)) (while_open (record s { counts = o.state }) b)
    pub set_optimization_goal : (s : State V) (b : Beside V) (goal : OptimizationGoal)
        → let o = setting_goal s.counts goal in
        Goes m (while_open s b) (account.set_optimization_goal goal) (Some (answer_as (λ _. account.unit) o.answer)) (while_open (record s { counts = o.state }) b)
    pub new_input_variable : (s : State V) (b : Beside V) (handed : Result V SynthesisError)
        → let o = naming_instance s handed in
        Goes m (while_open s b) (account.new_input_variable handed) (Some (answer_as account.named o.answer)) (while_open o.state b)
    pub new_witness_variable : (s : State V) (b : Beside V) (handed : Result V SynthesisError)
        → let o = naming_witness s handed in
        Goes m (while_open s b) (account.new_witness_variable handed) (Some (answer_as account.named o.answer)) (while_open o.state b)
    pub new_lc : (s : State V) (b : Beside V) (ts : List (Term V))
        → let o = naming_list s ts in Goes m (while_open s b) (account.new_lc ts) (Some (answer_as account.named o.answer)) (while_open o.state b)
    pub enforce_constraint : (s : State V) (b : Beside V) (x y z : List (Term V))
        → let o = constraining s x y z in
        Goes m (while_open s b) (account.enforce_constraint x y z) (Some (answer_as (λ _. account.unit) o.answer)) (while_open o.state b)
    pub which_is_unsatisfied : (s : State V) (b : Beside V) (n : ℕ)
        → let o = tables.checking m s (take n b.work) in
        Goes m (while_open s b) (account.which_is_unsatisfied (min n (length b.work))) (Some (answer_as account.unsatisfied o.answer)) (while_open s (with_work b n o.state))
    pub assigned_value : (s : State V) (b : Beside V) (v : Variable) (n : ℕ)
        → let o = tables.asking m s v (take n b.work) in
        Goes m (while_open s b) (account.assigned_value (min n (length b.work)) v) (Some (answer_as account.assigned o.answer)) (while_open s (with_work b n o.state))
    pub finalize : (before after : State V) (refusal : Option Told) (b : Beside V) → KeepsBeyond before.tables after.tables → Finalises m before refusal after
        → Goes m (while_open before b) account.finalize (Some (unless_refused refusal account.unit)) (record { unfinished = is_some refusal; circuit = after; beside = b })
    pub to_matrices : (s : State V) (b : Beside V) (cells ends : ℕ) → Goes m (while_open s b) (account.to_matrices cells ends) None (while_open s b)

  -- So does each call on a finished one. A writing is lent the first cells and the first row ends.
  pub record FinishedCallsGo : Type 0 where
    pub which_is_unsatisfied : (s : State V) (b : Beside V) (work : ℕ)
        → Goes m (when_finished s b) (account.which_is_unsatisfied work) (Some (answer_as account.unsatisfied (finished.checking m s))) (when_finished s b)
    pub assigned_value : (s : State V) (b : Beside V) (work : ℕ) (v : Variable)
        → Goes m (when_finished s b) (account.assigned_value work v) (Some (answer_as account.assigned (finished.asking m s v))) (when_finished s b)
    pub to_matrices : (s : State V) (b : Beside V) (cells ends : ℕ)
        → let o = writing m s (part_of b.written cells ends) in
        let left = with_part b cells ends o.state in
        Goes m (when_finished s b) (account.to_matrices (min cells (length b.written.cells)) (min ends (length b.written.ends)))
        (Some (answer_as (as_written left.written) o.answer)) (when_finished s left)
    pub others : (s : State V) (b : Beside V) (call : account.Call V) → WhileOpen (effect_of call) → Goes m (when_finished s b) call None (when_finished s b)

  -- one call more
  abbrev pub RunsGrow : Type 0
  RunsGrow = (x : Account V) (start before now : Standing V) (calls : List (account.Call V)) (answers : List (Option (Result (account.Answer V) Told)))
      (call : account.Call V) (answer : Option (Result (account.Answer V) Told))
      → let k = lengths start.circuit.tables in
      Runs m k x start calls answers before → Goes m before call answer now → Runs m k x start (calls ++ call ∷ []) (answers ++ answer ∷ []) now

  -- What was read of the answers so far is read of them after one call more, from a circuit just opened on.
  abbrev pub ReadsOn : Type 0
  ReadsOn = (h : Held V) (b : Beside V) (before now : Standing V) (calls : List (account.Call V)) (answers : List (Answer V))
      (call : account.Call V) (answer : Option (Result (account.Answer V) Told))
      → let k = lengths h in let start = while_open (opened_in m h) b in
      Runs m k (opened m) start calls (map (as_answer before.beside.written) answers) before → Goes m before call answer now
      → map (as_answer now.beside.written) answers ≡ map (as_answer before.beside.written) answers

  -- a circuit just opened stands for the account as opening starts it
  abbrev pub OpeningRuns : Type 0
  OpeningRuns = (h : Held V) (b : Beside V) → opening_refusal (lengths h) ≡ None
      → let start = while_open (opened_in m h) b in Runs m (lengths h) (opened m) start [] [] start

  -- A run of calls on a circuit just opened, whose answers are read in the tables that it leaves, keeps the promise.
  pub record KeepsPromise (h : Held V) (b : Beside V) (calls : List (Call V)) (answers : List (Answer V)) (now : Standing V) : Type 0 where
    pub promised : Promised m (log_in (rooms b) now.beside.written calls answers)
    pub refused : Refuses m (lengths h) (rooms b) now.beside.written calls answers
    pub shows : Shows m h b (log_in (rooms b) now.beside.written calls answers) now

  abbrev pub RunsKeepPromise : Type 0
  RunsKeepPromise = (h : Held V) (b : Beside V) (calls : List (Call V)) (answers : List (Answer V)) (now : Standing V) → opening_refusal (lengths h) ≡ None
      → Runs m (lengths h) (opened m) (while_open (opened_in m h) b) (map (as_call (rooms b)) calls) (map (as_answer now.beside.written) answers) now
      → KeepsPromise h b calls answers now
