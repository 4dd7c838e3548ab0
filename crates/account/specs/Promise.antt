-- The main promise, over whole runs. Assumes nothing.
use Rattle.std.specs.Prelude.{◌≡◌, ℕ, ◌+◌, ◌↔◌, true, cond, List, [], ◌∷◌, ◌++◌, map, length, Some, None, Ok, Err, Option, Result, ◌≢◌}
use Rattle.std.specs.List.{AllByRecursion, slice_get}
use Rattle.field.specs.Laws.{Model}
use Rattle.variables.specs.declared.Variable.{Variable}
use Rattle.variables.specs.declared.Variable.TheVariants.{Instance, Witness, SymbolicLc}
use Rattle.variables.specs.declared.Term.{Term}
use Rattle.variables.specs.Order.{Rises}
use Rattle.variables.specs.Refusals.{Told}
use Rattle.variables.specs.Worth.{value}
use Rattle.variables.specs.Evaluate.{SymbolFree}
use Rattle.variables.specs.Laws.{Means}
use Rattle.account.specs.declared.Mark.TheVariants.{Plain}
use Rattle.account.specs.declared.SynthesisMode.TheVariants.{Prove}
use Rattle.account.specs.declared.OptimizationGoal.TheVariants.{Constraints, Weight}
use Rattle.variables.specs.declared.SynthesisError.{SynthesisError}
use Rattle.account.specs.Given.{marks, lists, marked, KnownVariable, Known}
use Rattle.account.specs.Worths.{worths}
use Rattle.account.specs.Rests.{AllKept, Found}
use Rattle.account.specs.Rows.{Row, each, constraints, FirstFailing, Holds, cells, Marlin, Matrices, rows_in, concatenated, last_of}
use Rattle.account.specs.Account.{Finished, Account, KeepsMatrices, KeepsValues, builds, nothing_made, rule_of, rows_of, opened, kept_of, all_kept_of, constraints_kept, made_in, matrices_from, LeavesAlone}
use Rattle.account.specs.Sound.{Sound}
use Rattle.account.specs.Calls.{Call, new_input_variable, new_witness_variable, new_lc, which_is_unsatisfied, assigned_value, finalize, to_matrices, Answer, unit, named, unsatisfied, assigned, written, Event, accepted, effect_of, accepted_constraints, accepted_lists, accepted_instances, accepted_witnesses, accepted_modes, accepted_goals, accepted_finalisings, answer_of, account}
use Rattle.account.specs.Refusals.{Lengths, opening_refusal}
use Rattle.account.specs.Conditions.{Fits}
use Rattle.account.specs.Run.{due, log_of, Run}
use Rattle.account.specs.Laws.{WellFormed, OutlinedBy, combination_worths, Admits, Exact, FailsAlike}

-- the counts that are written: the constant one and the accepted instances, the accepted witnesses and the added ones, the accepted
-- constraints and the added rows; and the cells of A, of B and of C, as they are read back
pub record CountsWritten {V : Type 0} (past : List (Event V)) (done : Finished V) (answer : Matrices V) : Type 0 where
  pub instances : answer.instances ≡ 1 + length (accepted_instances past)
  pub witnesses : answer.witnesses ≡ length (accepted_witnesses past) + length done.combinations
  pub rows : answer.row_count ≡ length (accepted_constraints past) + length done.combinations
  pub cells : let read = rows_in answer in
      answer.cell_counts ≡ (length (concatenated (map (λ r. r.a) read)), length (concatenated (map (λ r. r.b) read)), length (concatenated (map (λ r. r.c) read)))

module _ {V : Type 0} (m : Model V) where
  -- the log has this call after those of `past`, accepted with this answer
  abbrev pub Accepted : (log past : List (Event V)) → Call V → Answer V → Type 0
  Accepted log past call answer = (future : List (Event V)) × (log ≡ past ++ accepted call answer ∷ future)

  -- what is promised of a circuit that is finished with its matrices, these constraints having been accepted
  pub record Faithful (x : Account V) (cs : List (Row (List (Term V)))) (done : Finished V) : Type 0 where
    -- No finished list or row holds a symbol, and the rows number the accepted constraints plus the added witnesses.
    pub formed : WellFormed x.instances.count x.witnesses.count x.given cs done.lists done.combinations
    -- Exactly those lists are outlined that the goal's rule picks, and that is none but under goal Weight. Each is one that a call named,
    -- never a constraint's own.
    pub outlined : OutlinedBy m (rule_of m x.goal (lists x.given)) x.witnesses.count x.given done.lists done.combinations
    pub weight_alone : (x.goal ≢ Weight) → done.combinations ≡ []
    pub plain : AllByRecursion (λ k. slice_get (marks x.given) k ≡ Some Plain) done.combinations
    -- Each finished list rises.
    pub rises : AllByRecursion Rises done.lists
    -- Every vector that begins with one satisfies the finished rows exactly when its original part satisfies every accepted constraint as
    -- written and each added witness equals the combination it stands for.
    pub vectors : Exact m x.instances.count x.witnesses.count x.given cs done.lists done.combinations
    -- At any values of the original part, each added witness having the worth of its combination, the first finished row that fails is the
    -- first accepted constraint that fails as written.
    pub fails_alike : FailsAlike m x.instances.count x.witnesses.count x.given cs done.lists done.combinations
    -- Where values are kept, that of each added witness stands for the worth of its combination; in Setup none is kept.
    pub no_added : (KeepsValues x.mode → ⊥) → done.added ≡ []
    pub added : KeepsValues x.mode → map m.stands done.added ≡ combination_worths m x.instances.count x.given done.combinations (kept_of m x)
    -- So at the kept values the first row that fails Marlin's condition is the first accepted constraint that fails as written.
    pub kept_fails : KeepsValues x.mode → (answer : Option ℕ)
        → FirstFailing (Marlin m (all_kept_of m x done)) (map (each (cells m x.instances.count)) (rows_of x done)) answer
        ↔ FirstFailing (Holds m) (constraints_kept m x cs) answer

  -- What is promised of the answers of accepted calls, after the log `past`: an accepted check ..
  pub record Checks (past : List (Event V)) (a : Answer V) : Type 0 where
    pub answer : Option ℕ
    pub is : a ≡ unsatisfied answer
    -- .. names the first accepted constraint that fails at the kept values as written, and none exactly when all hold;
    pub fails_first : let x = account m past in FirstFailing (Holds m) (constraints_kept m x (accepted_constraints past)) answer
    -- of a circuit that is finished with its matrices, that is the first row that fails Marlin's condition at the kept values.
    pub by_matrices : let x = account m past in KeepsMatrices x.mode → (done : Finished V) → x.finished ≡ Some done
        → FirstFailing (Marlin m (all_kept_of m x done)) (map (each (cells m x.instances.count)) (rows_of x done)) answer

  -- An accepted question ..
  pub record Questions (past : List (Event V)) (v : Variable) (a : Answer V) : Type 0 where
    pub answer : Option V
    pub is : a ≡ assigned answer
    -- .. of an open circuit has a value exactly where the variable is known and all that it rests on is kept, and the value stands for what
    -- the variable is worth under every vector that has the kept values;
    pub while_open : let x = account m past in x.finished ≡ None
        → Found m x.instances.count x.instances.kept x.witnesses.kept
        (KnownVariable x.instances.count x.witnesses.count (marks x.given) v × AllKept (length x.instances.kept) (length x.witnesses.kept) (lists x.given) v)
        (λ z. value m x.instances.count z (worths m x.instances.count z (lists x.given)) v) answer
    -- so where values are kept it has one for every known variable.
    pub while_kept : let x = account m past in x.finished ≡ None → KeepsValues x.mode → KnownVariable x.instances.count x.witnesses.count (marks x.given) v
        → Means m answer (value m x.instances.count (kept_of m x) (worths m x.instances.count (kept_of m x) (lists x.given)) v)
    -- Of a finished one it has a value exactly for a variable that is no symbol and, where it is an instance or a witness, kept.
    pub when_finished : (done : Finished V) → let x = account m past in x.finished ≡ Some done
        → Found m x.instances.count x.instances.kept (x.witnesses.kept ++ done.added) (SymbolFree (length x.instances.kept) (length (x.witnesses.kept ++ done.added)) v)
        (λ z. value m x.instances.count z [] v) answer

  -- what is promised of matrices that were written
  pub record Writes (past : List (Event V)) (answer : Matrices V) : Type 0 where
    pub done : Finished V
    pub finished : (account m past).finished ≡ Some done
    -- They are exactly the cells, row ends and counts of the finished rows.
    pub exactly : answer ≡ matrices_from m (account m past) done
    pub counts : CountsWritten past done answer
    -- What is read back of them is the cells of the finished rows, so the same vectors satisfy Marlin's condition.
    pub reads : let x = account m past in rows_in answer ≡ map (each (cells m x.instances.count)) (rows_of x done)
    pub vectors : let x = account m past in Admits m x.instances.count x.witnesses.count x.given (accepted_constraints past) done.combinations (rows_in answer)

  -- An accepted writing, of a finished circuit, answers them where matrices are kept, and none in bare mode.
  pub record Writings (past : List (Event V)) (a : Answer V) : Type 0 where
    pub answer : Option (Matrices V)
    pub is : a ≡ written answer
    pub of_finished : ((account m past).finished ≡ None) → ⊥
    pub kept : KeepsMatrices (account m past).mode → (matrices : Matrices V) × (answer ≡ Some matrices) × Writes past matrices
    pub bare : (KeepsMatrices (account m past).mode → ⊥) → answer ≡ None

  -- After any calls:
  pub record Promised (log : List (Event V)) : Type 0 where
    -- Every list names only what is known where it stands, and the lists of constraints come in threes; and all lists of the circuit are
    -- sound, those of added rows and the finished ones among them.
    pub known : let x = account m log in Known x.instances.count x.witnesses.count x.given
    pub sound : Sound (account m log)
    -- The lists are those that were handed in, in their order and with their marks; in bare mode none of a constraint.
    pub lists_handed : let x = account m log in x.given ≡ accepted_lists x.mode log
    -- Where matrices are kept the constraints among the lists are the accepted ones, as they were written and in their order; in bare mode
    -- there are none; in every mode the accepted ones are counted.
    pub as_written : let x = account m log in KeepsMatrices x.mode → constraints x.given ≡ accepted_constraints log
    pub bare : let x = account m log in (KeepsMatrices x.mode → ⊥) → constraints x.given ≡ []
    pub counted : (account m log).constraints ≡ length (accepted_constraints log)
    -- Every accepted naming is counted, from the constant one on.
    pub named_counted : let x = account m log in (x.instances.count ≡ 1 + length (accepted_instances log)) × (x.witnesses.count ≡ length (accepted_witnesses log))
    -- Mode and goal are the last that were set.
    pub last_set : let x = account m log in (x.mode ≡ last_of (Prove true) (accepted_modes log)) × (x.goal ≡ last_of Constraints (accepted_goals log))
    -- Instance 0 is one. Setup keeps no other value; where values are kept they are, in their order, those that were handed in.
    pub begins : (rest : List V) × ((account m log).instances.kept ≡ m.one ∷ rest)
    pub in_setup : let x = account m log in (KeepsValues x.mode → ⊥) → (x.instances.kept ≡ m.one ∷ []) × (x.witnesses.kept ≡ [])
    pub values_handed : let x = account m log in KeepsValues x.mode
        → (map Some x.instances.kept ≡ Some m.one ∷ accepted_instances log) × (map Some x.witnesses.kept ≡ accepted_witnesses log)
    -- An accepted naming answers the variable that comes next, which has from then on the list or, where values are kept, the value that was
    -- handed in.
    pub named_lists : (past : List (Event V)) (ts : List (Term V)) (a : Answer V) → Accepted log past (new_lc ts) a
        → let k = length (account m past).given in (a ≡ named (SymbolicLc (record { 0 = k }))) × (slice_get (account m log).given k ≡ Some (marked Plain ts))
    pub named_instances : (past : List (Event V)) (handed : Result V SynthesisError) (a : Answer V) → Accepted log past (new_input_variable handed) a
        → let i = 1 + length (accepted_instances past) in
        (a ≡ named (Instance i)) × (KeepsValues (account m log).mode → (value : V) × (handed ≡ Ok value) × (slice_get (account m log).instances.kept i ≡ Some value))
    pub named_witnesses : (past : List (Event V)) (handed : Result V SynthesisError) (a : Answer V) → Accepted log past (new_witness_variable handed) a
        → let i = length (accepted_witnesses past) in
        (a ≡ named (Witness i)) × (KeepsValues (account m log).mode → (value : V) × (handed ≡ Ok value) × (slice_get (account m log).witnesses.kept i ≡ Some value))
    -- Accepted finalising finishes the circuit, for good, and nothing else does. Where matrices are kept, what is finished is faithful to the
    -- accepted constraints; in bare mode finalising makes nothing.
    pub finishes : (past : List (Event V)) (a : Answer V) → Accepted log past finalize a → let x = account m past in (a ≡ unit) × ((account m log).finished ≡ Some (made_in m x.mode x))
    pub unfinished : ((account m log).finished ≡ None) ↔ (accepted_finalisings log ≡ [])
    -- Of a finished circuit only checks, questions and writings are accepted.
    pub closed : (past : List (Event V)) (call : Call V) (a : Answer V) → Accepted log past call a → (done : Finished V) → (account m past).finished ≡ Some done
        → LeavesAlone (effect_of call)
    pub faithful : let x = account m log in KeepsMatrices x.mode → (done : Finished V) → x.finished ≡ Some done → Faithful x (accepted_constraints log) done
    pub bare_finished : let x = account m log in (KeepsMatrices x.mode → ⊥) → (done : Finished V) → x.finished ≡ Some done → done ≡ nothing_made
    -- Every accepted call is answered from the account, and so checks, questions and writings are answered as they should.
    pub answers : (past : List (Event V)) (call : Call V) (a : Answer V) → Accepted log past call a → a ≡ answer_of m (account m past) call
    pub checks : (past : List (Event V)) (work : ℕ) (a : Answer V) → Accepted log past (which_is_unsatisfied work) a → Checks past a
    pub questions : (past : List (Event V)) (work : ℕ) (v : Variable) (a : Answer V) → Accepted log past (assigned_value work v) a → Questions past v a
    pub writings : (past : List (Event V)) (cells ends : ℕ) (a : Answer V) → Accepted log past (to_matrices cells ends) a → Writings past a

  -- Whichever calls are refused, what is accepted keeps the promise.
  abbrev pub AnyRefusals : Type 0
  AnyRefusals = (log : List (Event V)) → Run m (opened m) log → Promised log

  -- Parts of it, by name. The given lists of an account name only what is known where they stand.
  abbrev pub GivenKnown : Type 0
  GivenKnown = (log : List (Event V)) → Run m (opened m) log → let x = account m log in Known x.instances.count x.witnesses.count x.given

  -- The counts that are written are those of the account.
  abbrev pub WrittenCounted : Type 0
  WrittenCounted = (log past : List (Event V)) (cells ends : ℕ) (answer : Matrices V) → Run m (opened m) log → Accepted log past (to_matrices cells ends) (written (Some answer))
      → (done : Finished V) → (account m past).finished ≡ Some done → CountsWritten past done answer

  -- An accepted check of a circuit that is finished with its matrices names the first row that fails Marlin's condition at the kept values.
  abbrev pub ChecksByMatrices : Type 0
  ChecksByMatrices = (log past : List (Event V)) (work : ℕ) (answer : Option ℕ) → Run m (opened m) log → Accepted log past (which_is_unsatisfied work) (unsatisfied answer)
      → let x = account m past in KeepsMatrices x.mode → (done : Finished V) → x.finished ≡ Some done
      → FirstFailing (Marlin m (all_kept_of m x done)) (map (each (cells m x.instances.count)) (rows_of x done)) answer

  -- Two accepted checks of equal lists at equal kept values answer the same: before finalising or after, of one circuit or of two.
  abbrev pub ChecksAgree : Type 0
  ChecksAgree = (log log' past past' : List (Event V)) (work work' : ℕ) (a a' : Answer V) → Run m (opened m) log → Run m (opened m) log'
      → Accepted log past (which_is_unsatisfied work) a → Accepted log' past' (which_is_unsatisfied work') a'
      → let x = account m past in let y = account m past' in
      x.given ≡ y.given → x.instances.kept ≡ y.instances.kept → x.witnesses.kept ≡ y.witnesses.kept → a ≡ a'

  -- What is promised of calls on a circuit just opened, where tables of these lengths are lent to each:
  pub record RunPromised (k : Lengths) (calls : List (Call V)) : Type 0 where
    pub promised : Promised (log_of m k calls)
    -- Each call of the log builds, and is answered or refused as is due to it by the account of the calls before it.
    pub dues : (past future : List (Event V)) (e : Event V) → log_of m k calls ≡ past ++ e ∷ future
        → (builds (account m past) (effect_of e.call) ≡ true) × (e.answer ≡ due m k (account m past) e.call)
    -- One call more is one event more, unless it does not build.
    pub grows : (call : Call V) → let log = log_of m k calls in let x = account m log in
        log_of m k (calls ++ call ∷ []) ≡ cond (builds x (effect_of call)) (log ++ record { call = call; answer = due m k x call } ∷ []) log

  abbrev pub EveryRun : Type 0
  EveryRun = (k : Lengths) (calls : List (Call V)) → RunPromised k calls

  -- Where opening is not refused, at every moment of the run the counts fit the tables, and the lists are sound. So no call is refused by
  -- 17.
  pub record Fitting (k : Lengths) (calls : List (Call V)) : Type 0 where
    pub fitting : (past future : List (Event V)) → log_of m k calls ≡ past ++ future → Fits k (account m past) × Sound (account m past)
    pub never_17 : (past future : List (Event V)) (e : Event V) → log_of m k calls ≡ past ++ e ∷ future → (r : Told) → e.answer ≡ Err r → r.number ≢ 17

  abbrev pub TablesFit : Type 0
  TablesFit = (k : Lengths) → opening_refusal k ≡ None → (calls : List (Call V)) → Fitting k calls
