-- Laws about sound tables and about calls on them. Assumes nothing.
use Rattle.std.specs.Prelude.{◌≡◌, ℕ, ◌<◌, ◌≤◌, ◌↔◌, Bool, true, List, length, drop, None, Option, Result, slice_index_or}
use Rattle.std.specs.List.{AllByRecursion}
use Rattle.field.specs.Laws.{Model}
use Rattle.variables.specs.declared.SynthesisError.{SynthesisError}
use Rattle.variables.specs.declared.Variable.{Variable}
use Rattle.variables.specs.declared.Variable.TheVariants.{SymbolicLc}
use Rattle.variables.specs.declared.Term.{Term}
use Rattle.variables.specs.Worth.{value}
use Rattle.account.specs.declared.SynthesisMode.{SynthesisMode}
use Rattle.account.specs.declared.OptimizationGoal.{OptimizationGoal}
use Rattle.account.specs.Given.{marks, lists, KnownVariable}
use Rattle.account.specs.Worths.{worths}
use Rattle.account.specs.Rows.{Holds, FirstFailing, constraints}
use Rattle.account.specs.Rests.{AllKept, Found}
use Rattle.account.specs.Account.{opened, constraints_kept, failing_of, value_of}
use Rattle.account.specs.Calls as calls
use Rattle.account.specs.Refusals.{first, opening_refusal}
use Rattle.tables.specs.Held.{Held, State, lengths, KeepsBeyond}
use Rattle.tables.specs.Sound.{account_of, sound, SoundTables}
use Rattle.tables.specs.Calls.{which_is_unsatisfied_tests, assigned_value_tests, setting_mode, setting_goal, naming_instance, naming_witness, naming_list, constraining, opened_in, work_of, checking, asking}
use Rattle.tables.specs.Follows.{Shows, answer_as, Follows}

-- the test for sound tables says yes exactly where they are sound
abbrev pub SoundWhen : Type 0 → Type 0
SoundWhen V = (s : State V) → (sound s ≡ true) ↔ SoundTables s

module _ {V : Type 0} (m : Model V) where
  open m.ring use {zero}

  -- no call changes the length of a table, or a place past those that count
  pub record CallsKeepBeyond : Type 0 where
    pub new : (h : Held V) → opening_refusal (lengths h) ≡ None → KeepsBeyond h (opened_in m h).tables
    pub new_input_variable : (s : State V) (handed : Result V SynthesisError) → KeepsBeyond s.tables (naming_instance s handed).state.tables
    pub new_witness_variable : (s : State V) (handed : Result V SynthesisError) → KeepsBeyond s.tables (naming_witness s handed).state.tables
    pub new_lc : (s : State V) (ts : List (Term V)) → KeepsBeyond s.tables (naming_list s ts).state.tables
    pub enforce_constraint : (s : State V) (a b c : List (Term V)) → KeepsBeyond s.tables (constraining s a b c).state.tables

  -- a circuit that is opened shows the account as opening starts it, and each call follows the account
  pub record CallsFollow : Type 0 where
    pub new : (h : Held V) → opening_refusal (lengths h) ≡ None → Shows (opened_in m h) (opened m)
    pub set_mode : (s : State V) (mode : SynthesisMode)
        → let o = setting_mode s.counts mode in Follows m (calls.set_mode mode) (answer_as (λ _. calls.unit) o.answer) s (record s { counts = o.state })
    pub set_optimization_goal : (s : State V) (goal : OptimizationGoal)
        → let o = setting_goal s.counts goal in Follows m (calls.set_optimization_goal goal) (answer_as (λ _. calls.unit) o.answer) s (record s { counts = o.state })
    pub new_input_variable : (s : State V) (handed : Result V SynthesisError)
        → let o = naming_instance s handed in Follows m (calls.new_input_variable handed) (answer_as calls.named o.answer) s o.state
    pub new_witness_variable : (s : State V) (handed : Result V SynthesisError)
        → let o = naming_witness s handed in Follows m (calls.new_witness_variable handed) (answer_as calls.named o.answer) s o.state
    pub new_lc : (s : State V) (ts : List (Term V))
        → let o = naming_list s ts in Follows m (calls.new_lc ts) (answer_as calls.named o.answer) s o.state
    pub enforce_constraint : (s : State V) (a b c : List (Term V))
        → let o = constraining s a b c in Follows m (calls.enforce_constraint a b c) (answer_as (λ _. calls.unit) o.answer) s o.state
    pub which_is_unsatisfied : (s : State V) (work : List (Option V))
        → Follows m (calls.which_is_unsatisfied (length work)) (answer_as calls.unsatisfied (checking m s work).answer) s s
    pub assigned_value : (s : State V) (v : Variable) (work : List (Option V))
        → Follows m (calls.assigned_value (length work) v) (answer_as calls.assigned (asking m s v work).answer) s s

  -- An answer names the first constraint in the tables that fails at the kept values as it was given, and none exactly when all hold.
  abbrev pub Names : State V → Option ℕ → Type 0
  Names s answer = let x = account_of s in FirstFailing (Holds m) (constraints_kept m x (constraints x.given)) answer

  -- what an accepted check answers does
  abbrev pub ChecksName : Type 0
  ChecksName = (s : State V) (work : ℕ) → first (which_is_unsatisfied_tests s work) ≡ None → Names s (failing_of m s.counts.mode (account_of s))

  -- A yes says that every constraint in the tables holds, and a no that one does not.
  abbrev pub Satisfies : State V → Bool → Type 0
  Satisfies s answer = let x = account_of s in (answer ≡ true) ↔ AllByRecursion (Holds m) (constraints_kept m x (constraints x.given))

  -- There is a value exactly where the variable is known and all that it rests on is kept, and then it stands for what the variable is
  -- worth, under every vector that has the kept values.
  abbrev pub Values : State V → Variable → Option V → Type 0
  Values s v answer =
      let x = account_of s in
      Found m x.instances.count x.instances.kept x.witnesses.kept
      (KnownVariable x.instances.count x.witnesses.count (marks x.given) v × AllKept (length x.instances.kept) (length x.witnesses.kept) (lists x.given) v)
      (λ z. value m x.instances.count z (worths m x.instances.count z (lists x.given)) v) answer

  -- what an accepted question answers is so, where there is an instance
  abbrev pub QuestionsFind : Type 0
  QuestionsFind = (s : State V) → 1 ≤ s.counts.instances → (work : ℕ) (v : Variable) → first (assigned_value_tests s work v) ≡ None → Values s v (value_of m (account_of s) v)

  -- Place k of a filled work table: there is a value exactly where all is kept that list k rests on, whatever its mark, and then it stands
  -- for what the list is worth, under every vector that has the kept values.
  abbrev pub ListFound : State V → ℕ → Option V → Type 0
  ListFound s k answer =
      let x = account_of s in
      Found m x.instances.count x.instances.kept x.witnesses.kept
      (AllKept (length x.instances.kept) (length x.witnesses.kept) (lists x.given) (SymbolicLc (record { 0 = k })))
      (λ z. slice_index_or (worths m x.instances.count z (lists x.given)) k zero) answer

  -- what a work table holds once it is filled: at each list's place what is found for it, and past the lists what was there
  pub record Filled (s : State V) (work : List (Option V)) : Type 0 where
    pub found : (k : ℕ) → k < s.counts.entries → ListFound s k (slice_index_or (work_of m s work) k None)
    pub rest : drop s.counts.entries (work_of m s work) ≡ drop s.counts.entries work

  abbrev pub WorkFound : Type 0
  WorkFound = (s : State V) → SoundTables s → (work : List (Option V)) → Filled s work
