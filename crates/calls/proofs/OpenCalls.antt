-- Each call on an open circuit goes by whatever account the tables show. Assumes nothing.
use Rattle.std.proofs.Common.{◌≡◌, ℕ, min, List, [], length, take, Some, None, Option, Result, sym, refl, subst}
use Rattle.std.specs.Option.{is_some}
use Rattle.std.proofs.lemmas.List.{length-take}
use Rattle.field.specs.Laws.{Model, Keeps}
use Rattle.variables.specs.declared.SynthesisError.{SynthesisError}
use Rattle.variables.specs.declared.Variable.{Variable}
use Rattle.variables.specs.declared.Term.{Term}
use Rattle.variables.specs.Refusals.{Told}
use Rattle.account.specs.declared.SynthesisMode.{SynthesisMode}
use Rattle.account.specs.declared.OptimizationGoal.{OptimizationGoal}
use Rattle.account.specs.Account.{is_open}
use Rattle.account.specs.Calls as account
use Rattle.account.specs.Calls.{Event, after}
use Rattle.tables.specs.Held.{State, KeepsBeyond}
use Rattle.tables.specs.Sound.{account_of}
use Rattle.tables.specs.Calls.{setting_mode, setting_goal, naming_instance, naming_witness, naming_list, constraining}
use Rattle.tables.specs.Calls as tables
use Rattle.tables.specs.Follows.{answer_as}
use Rattle.tables.proofs.Beyond.{same_beyond, calls_keep_beyond}
use Rattle.tables.proofs.Calls.{calls_follow}
use Rattle.finishing.specs.Checks.{unless_refused}
use Rattle.finishing.specs.Finalising.{Finalises}
use Rattle.finishing.proofs.FollowsFinalising.{finalising_follows}
use Rattle.calls.specs.Calls.{Beside}
use Rattle.calls.specs.Standing.{Standing, FreeStays}
use Rattle.calls.specs.Runs.{Goes}
use Rattle.calls.specs.Laws.{while_open, with_work, OpenCallsGo}
use Rattle.calls.proofs.OpenSteps.{stands_open, made_run, goes_open, open_goes, quiet_goes, beside_stays}
use Rattle.calls.proofs.Free.{free_same, instance_free, witness_free, list_free, constraint_free}
use Rattle.calls.proofs.OpenWork.{checking_beside, asking_beside}

module _ {V : Type 0} (m : Model V) (s : State V) (b : Beside V) where
  -- mode and goal are set
  mode_goes : (mode : SynthesisMode) → let o = setting_mode s.counts mode in
      Goes m (while_open s b) (account.set_mode mode) (Some (answer_as (λ _. account.unit) o.answer))
      (while_open (record s { counts = o.state }) b)
  mode_goes mode =
      let o = setting_mode s.counts mode in
      quiet_goes m s (record s { counts = o.state }) b (account.set_mode mode) (answer_as (λ _. account.unit) o.answer) refl refl refl
      ((calls_follow m).set_mode s mode)
      (same_beyond s.tables) (λ y _. free_same y s.tables)

  goal_goes : (goal : OptimizationGoal) → let o = setting_goal s.counts goal in
      Goes m (while_open s b) (account.set_optimization_goal goal) (Some (answer_as (λ _. account.unit) o.answer))
      (while_open (record s { counts = o.state }) b)
  goal_goes goal =
      let o = setting_goal s.counts goal in
      quiet_goes m s (record s { counts = o.state }) b (account.set_optimization_goal goal) (answer_as (λ _. account.unit) o.answer) refl refl refl
      ((calls_follow m).set_optimization_goal s goal) (same_beyond s.tables) (λ y _. free_same y s.tables)

  -- variables, lists and constraints
  instance_goes : (handed : Result V SynthesisError) → let o = naming_instance s handed in
      Goes m (while_open s b) (account.new_input_variable handed) (Some (answer_as account.named o.answer)) (while_open o.state b)
  instance_goes handed =
      let o = naming_instance s handed in
      quiet_goes m s o.state b (account.new_input_variable handed) (answer_as account.named o.answer) refl refl refl
      ((calls_follow m).new_input_variable s handed)
      ((calls_keep_beyond m).new_input_variable s handed) (instance_free s handed)

  witness_goes : (handed : Result V SynthesisError) → let o = naming_witness s handed in
      Goes m (while_open s b) (account.new_witness_variable handed) (Some (answer_as account.named o.answer)) (while_open o.state b)
  witness_goes handed =
      let o = naming_witness s handed in
      quiet_goes m s o.state b (account.new_witness_variable handed) (answer_as account.named o.answer) refl refl refl
      ((calls_follow m).new_witness_variable s handed)
      ((calls_keep_beyond m).new_witness_variable s handed) (witness_free s handed)

  list_goes : (ts : List (Term V)) → let o = naming_list s ts in
      Goes m (while_open s b) (account.new_lc ts) (Some (answer_as account.named o.answer)) (while_open o.state b)
  list_goes ts =
      let o = naming_list s ts in
      quiet_goes m s o.state b (account.new_lc ts) (answer_as account.named o.answer) refl refl refl
      ((calls_follow m).new_lc s ts)
      ((calls_keep_beyond m).new_lc s ts) (list_free s ts)

  constraint_goes : (x y z : List (Term V)) → let o = constraining s x y z in
      Goes m (while_open s b) (account.enforce_constraint x y z) (Some (answer_as (λ _. account.unit) o.answer)) (while_open o.state b)
  constraint_goes x y z =
      let o = constraining s x y z in
      quiet_goes m s o.state b (account.enforce_constraint x y z) (answer_as (λ _. account.unit) o.answer) refl refl refl
      ((calls_follow m).enforce_constraint s x y z)
      ((calls_keep_beyond m).enforce_constraint s x y z) (constraint_free s x y z)

  -- A check and a question are lent so many places of the work table, and no more than there are.
  check_goes : (n : ℕ) → let o = tables.checking m s (take n b.work) in
      Goes m (while_open s b) (account.which_is_unsatisfied (min n (length b.work))) (Some (answer_as account.unsatisfied o.answer))
      (while_open s (with_work b n o.state))
  check_goes n =
      let o = tables.checking m s (take n b.work) in
      let answer = answer_as account.unsatisfied o.answer in
      let now = while_open s (with_work b n o.state) in
      subst (λ (k : ℕ). Goes m (while_open s b) (account.which_is_unsatisfied k) (Some answer) now) (length-take n b.work)
      (open_goes m s s b (with_work b n o.state) (account.which_is_unsatisfied (length (take n b.work))) answer refl
      ((calls_follow m).which_is_unsatisfied s (take n b.work)) (same_beyond s.tables) (λ y _. free_same y s.tables)
      (λ shows. checking_beside m s shows b n))

  question_goes : (v : Variable) (n : ℕ) → let o = tables.asking m s v (take n b.work) in
      Goes m (while_open s b) (account.assigned_value (min n (length b.work)) v) (Some (answer_as account.assigned o.answer))
      (while_open s (with_work b n o.state))
  question_goes v n =
      let o = tables.asking m s v (take n b.work) in
      let answer = answer_as account.assigned o.answer in
      let now = while_open s (with_work b n o.state) in
      subst (λ (k : ℕ). Goes m (while_open s b) (account.assigned_value k v) (Some answer) now) (length-take n b.work)
      (open_goes m s s b (with_work b n o.state) (account.assigned_value (length (take n b.work)) v) answer refl
      ((calls_follow m).assigned_value s v (take n b.work)) (same_beyond s.tables) (λ y _. free_same y s.tables)
      (λ shows. asking_beside m s shows b n v))

  -- a writing is out of place
  writing_goes : (cells ends : ℕ) → Goes m (while_open s b) (account.to_matrices cells ends) None (while_open s b)
  writing_goes cells ends =
      goes_open m s b (account.to_matrices cells ends) None (while_open s b)
      (λ shows.
      let x = account_of s in
      record { answered = refl; stands = stands_open s b x shows; beyond = same_beyond s.tables; free = λ _. free_same x s.tables; beside = refl })

module _ {V : Type 0} {m : Model V} (keeps : Keeps m) where
  -- Finalising leaves the circuit open exactly where it is refused.
  phase_after : (s : State V) (refusal : Option Told)
      → is_some refusal ≡ is_open (after m (account_of s) (record { call = account.finalize; answer = unless_refused refusal account.unit })).finished
  phase_after s None = refl
  phase_after s (Some r) = refl

  finalising_goes : (before now : State V) (refusal : Option Told) (b : Beside V) → KeepsBeyond before.tables now.tables
      → Finalises m before refusal now
      → Goes m (while_open before b) account.finalize (Some (unless_refused refusal account.unit))
      (record { unfinished = is_some refusal; circuit = now; beside = b })
  finalising_goes before now refusal b beyond h =
      let answer = unless_refused refusal account.unit in
      let left : Standing V = record { unfinished = is_some refusal; circuit = now; beside = b } in
      goes_open m before b account.finalize (Some answer) left
      (λ shows.
      let x = account_of before in
      let e : Event V = record { call = account.finalize; answer = answer } in
      let follows = finalising_follows keeps before now refusal beyond h x shows in
      made_run m x (while_open before b) e left
      (record {
        built = refl;
        is_due = follows.0;
        stands = record { phase = phase_after before refusal; shows = follows.1 };
        beyond = beyond;
        free = λ no.
            subst (λ (t : State V). FreeStays (after m x e) before.tables t.tables) (sym (h.bare (λ kept. no ([], e, [], refl, refl, kept))))
            (free_same (after m x e) before.tables);
        beside = beside_stays m before e b refl refl;
      }))

  pub open_calls_go : OpenCallsGo m
  open_calls_go = record {
    set_mode = mode_goes m;
    set_optimization_goal = goal_goes m;
    new_input_variable = instance_goes m;
    new_witness_variable = witness_goes m;
    new_lc = list_goes m;
    enforce_constraint = constraint_goes m;
    which_is_unsatisfied = check_goes m;
    assigned_value = question_goes m;
    finalize = finalising_goes;
    to_matrices = writing_goes m;
  }
