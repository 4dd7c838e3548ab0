-- Laws about finalising over lent tables and about finished circuits. Assumes nothing.
use Rattle.std.specs.Prelude.{◌≡◌, ◌≢◌, ◌+◌, Some, ℕ, ◌++◌, ◌↔◌, Bool, true, List, [], map, length, None, Option}
use Rattle.std.specs.List.{AllByRecursion, slice_get}
use Rattle.variables.specs.Order.{Rises}
use Rattle.account.specs.declared.Mark.TheVariants.{Plain}
use Rattle.account.specs.declared.OptimizationGoal.TheVariants.{Weight}
use Rattle.field.specs.Laws.{Model}
use Rattle.variables.specs.declared.Variable.{Variable}
use Rattle.variables.specs.Evaluate.{SymbolFree}
use Rattle.variables.specs.Worth.{value}
use Rattle.account.specs.Given.{lists}
use Rattle.account.specs.Rows.{Row, Holds, FirstFailing, constraints, finished_rows, rows_at}
use Rattle.account.specs.Rests.{Found}
use Rattle.account.specs.Account.{KeepsMatrices, KeepsValues, rule_of, kept_of, constraints_kept}
use Rattle.account.specs.Laws.{WellFormed, OutlinedBy, Exact, FailsAlike, combination_worths}
use Rattle.account.specs.Refusals.{first}
use Rattle.tables.specs.Held.{State, KeepsBeyond}
use Rattle.variables.specs.Refusals.{Told}
use Rattle.tables.specs.Sound.{marks_of, account_of}
use Rattle.finishing.specs.Sound.{finished_of, rows_of, instances_of, witnesses_of, sound_finished, SoundFinished}
use Rattle.account.specs.Calls as calls
use Rattle.tables.specs.Follows.{answer_as}
use Rattle.finishing.specs.Finalising.{Finalises}
use Rattle.finishing.specs.Checks.{unless_refused, check_tests, question_tests, failing_row, value_at, checking, asking}
use Rattle.finishing.specs.Follows.{FollowsFinalising, FollowsFinished}

-- the test for sound tables of a finished circuit says yes exactly where they are sound
abbrev pub SoundFinishedWhen : Type 0 → Type 0
SoundFinishedWhen V = (s : State V) → (sound_finished s ≡ true) ↔ SoundFinished s

module _ {V : Type 0} (m : Model V) where
  open m.ring use {Member}

  -- what the rows of a finished circuit are worth at the kept values
  abbrev pub rows_kept : State V → List (Row Member)
  rows_kept s = rows_at m s.counts.instances (map m.stands (instances_of s ++ witnesses_of s)) (rows_of s)

  -- Finalising where matrices are kept: what the finished rows in the tables admit, by the open circuit that was in them.
  pub record Admits (before after : State V) : Type 0 where
    -- the lists, by their numbers, that the added witnesses stand for, in their order
    pub combinations : List ℕ
    -- There are as many finished rows as constraints and added witnesses, no finished list holds a symbol, and each rises. The numbers of
    -- the finished circuit count the rows and the witnesses.
    pub formed : let x = account_of before in WellFormed x.instances.count x.witnesses.count x.given (constraints x.given) (finished_of after) combinations
    pub rows : let x = account_of before in rows_of after ≡ finished_rows x.given (finished_of after) combinations
    pub rises : AllByRecursion Rises (finished_of after)
    pub rows_counted : after.counts.constraints ≡ length (rows_of after)
    pub witnesses_counted : after.counts.witnesses ≡ before.counts.witnesses + length combinations
    -- Exactly those lists are outlined that the goal's rule picks, and that is none but under goal Weight. Each is one that was named, never a
    -- constraint's own.
    pub outlined : let x = account_of before in OutlinedBy m (rule_of m x.goal (lists x.given)) x.witnesses.count x.given (finished_of after) combinations
    pub weight_alone : (before.counts.goal ≢ Weight) → combinations ≡ []
    pub plain : AllByRecursion (λ k. slice_get (marks_of before) k ≡ Some Plain) combinations
    -- Every vector that begins with one satisfies the finished rows exactly when its original part satisfies every constraint as given and
    -- each added witness equals the combination that it stands for.
    pub vectors : let x = account_of before in Exact m x.instances.count x.witnesses.count x.given (constraints x.given) (finished_of after) combinations
    -- At any values of the original part, each added witness having the worth of its combination, the first finished row that fails is the
    -- first constraint that fails as given.
    pub fails_alike : let x = account_of before in FailsAlike m x.instances.count x.witnesses.count x.given (constraints x.given) (finished_of after) combinations
    -- Where values are kept, those of before stay, and behind them come those of the added witnesses, each of which stands for the worth of
    -- its combination; so at the kept values the first row that fails is the first constraint that fails as given.
    pub added : KeepsValues before.counts.mode → let x = account_of before in
        (values : List V) × (witnesses_of after ≡ x.witnesses.kept ++ values) × (map m.stands values ≡ combination_worths m x.instances.count x.given combinations (kept_of m x))
    pub kept_fails : KeepsValues before.counts.mode → (answer : Option ℕ)
        → FirstFailing (Holds m) (rows_kept after) answer
        ↔ FirstFailing (Holds m) (constraints_kept m (account_of before) (constraints (account_of before).given)) answer

  -- An answer names the first row of a finished circuit that fails at the kept values, and none exactly when all hold.
  abbrev pub NamesRow : State V → Option ℕ → Type 0
  NamesRow s answer = FirstFailing (Holds m) (rows_kept s) answer

  abbrev pub ChecksNameRows : Type 0
  ChecksNameRows = (s : State V) → first (check_tests s) ≡ None → NamesRow s (failing_row m s s.counts.mode)

  -- A yes says that every row holds, and a no that one does not.
  abbrev pub SatisfiesRows : State V → Bool → Type 0
  SatisfiesRows s answer = (answer ≡ true) ↔ AllByRecursion (Holds m) (rows_kept s)

  -- There is a value exactly for a variable that is no symbol and, where it is an instance or a witness, kept; and it stands for what the
  -- variable is worth under every vector that has the kept values.
  abbrev pub ValuesFinished : State V → Variable → Option V → Type 0
  ValuesFinished s v answer =
      Found m s.counts.instances (instances_of s) (witnesses_of s) (SymbolFree (length (instances_of s)) (length (witnesses_of s)) v)
      (λ z. value m s.counts.instances z [] v) answer

  abbrev pub QuestionsFindFinished : Type 0
  QuestionsFindFinished = (s : State V) (v : Variable) → first (question_tests s) ≡ None → ValuesFinished s v (value_at m s v)

  -- Finalising that is not refused leaves rows that admit exactly what was given.
  abbrev pub FinalisingAdmits : Type 0
  FinalisingAdmits = (before after : State V) → KeepsMatrices before.counts.mode → KeepsBeyond before.tables after.tables → Finalises m before None after → Admits before after

  -- Finalising is that of the account.
  abbrev pub FinalisingFollows : Type 0
  FinalisingFollows = (before after : State V) (refusal : Option Told) → KeepsBeyond before.tables after.tables → Finalises m before refusal after
      → FollowsFinalising m (unless_refused refusal calls.unit) before after

  -- So are the calls on a finished circuit.
  pub record FinishedFollow : Type 0 where
    pub which_is_unsatisfied : (s : State V) (work : ℕ) → FollowsFinished m (calls.which_is_unsatisfied work) (answer_as calls.unsatisfied (checking m s)) s
    pub assigned_value : (s : State V) (work : ℕ) (v : Variable) → FollowsFinished m (calls.assigned_value work v) (answer_as calls.assigned (asking m s v)) s
