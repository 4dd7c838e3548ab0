-- Why a call is refused, by the number that is told. Assumes nothing.
use Rattle.std.specs.Prelude.{◌≡◌, ◌≢◌, ℕ, ◌+◌, ◌<◌, List, ◌∷◌, ◌++◌, length, take, Some, None, Err, Result, slice_index_or}
use Rattle.std.specs.List.{slice_get}
use Rattle.field.specs.Laws.{Model}
use Rattle.variables.specs.Refusals.{Told, number_alone, number_at, error_number}
use Rattle.variables.specs.declared.LcIndex.{LcIndex}
use Rattle.variables.specs.declared.Variable.{Variable}
use Rattle.variables.specs.declared.Variable.TheVariants.{SymbolicLc}
use Rattle.variables.specs.declared.Term.{Term}
use Rattle.account.specs.declared.Mark.TheVariants.{Plain}
use Rattle.account.specs.declared.SynthesisMode.{SynthesisMode}
use Rattle.variables.specs.declared.SynthesisError.{SynthesisError}
use Rattle.account.specs.declared.OptimizationGoal.{OptimizationGoal}
use Rattle.account.specs.Given.{marks, lists, KnownVariable}
use Rattle.account.specs.Finish.{places}
use Rattle.account.specs.Rows.{Matrices}
use Rattle.account.specs.Account.{Account, KeepsMatrices, KeepsValues, KnownAt, rule_of, matrices_of}
use Rattle.account.specs.Calls.{Call, set_mode, set_optimization_goal, new_input_variable, new_witness_variable, new_lc, enforce_constraint, which_is_unsatisfied, assigned_value, finalize, to_matrices}
use Rattle.account.specs.Refusals.{Lengths, limit, capacity, value_places, used_terms, used_entries, room_of, start_of, refusal}
use Rattle.account.specs.Laws.{StopsAt}
use Rattle.account.specs.Conditions.{Fresh, Fits}

module _ {V : Type 0} where
  abbrev pub KnownHere : Account V → Variable → Type 0
  KnownHere x v = KnownVariable x.instances.count x.witnesses.count (marks x.given) v

  -- a symbol whose list is there and is a constraint's own: it is marked A, B or C
  pub record NamesOwnList (x : Account V) (v : Variable) : Type 0 where
    pub list : ℕ
    pub symbol : v ≡ SymbolicLc (record { 0 = list })
    pub there : list < length x.given
    pub own : slice_index_or (marks x.given) list Plain ≢ Plain

  -- the number for a variable that is not known: 16 where it names a constraint's own list, and else 15
  pub data UnknownBy (x : Account V) (v : Variable) : ℕ → Type 0 where
    names_own : NamesOwnList x v → UnknownBy x v 16
    names_no_own : (NamesOwnList x v → ⊥) → UnknownBy x v 15

  -- a list's first term whose variable is not known stands at this place, and it has this number
  pub record FirstUnknown (x : Account V) (ts : List (Term V)) (place number : ℕ) : Type 0 where
    pub term : Term V
    pub here : slice_get ts place ≡ Some term
    pub known_before : KnownAt x (take place ts)
    pub not_known : KnownHere x term.variable → ⊥
    pub numbered : UnknownBy x term.variable number

module _ {V : Type 0} (m : Model V) where
  -- What holds where a call is refused as told. Where more than one of these holds of a call, the order of its tests decides.
  pub data Cause (k : Lengths) (x : Account V) : Call V → Told → Type 0 where
    -- 10: there is a variable, a combination or a constraint already
    mode_set_late : {mode : SynthesisMode} → (Fresh x → ⊥) → Cause k x (set_mode mode) (number_alone 10)
    goal_set_late : {goal : OptimizationGoal} → (Fresh x → ⊥) → Cause k x (set_optimization_goal goal) (number_alone 10)
    -- 11 and 12: no place for one instance or witness more
    no_instance_place : {handed : Result V SynthesisError} → value_places x.mode k.instances < x.instances.count + 1
        → Cause k x (new_input_variable handed) (number_alone 11)
    no_witness_place : {handed : Result V SynthesisError} → value_places x.mode k.witnesses < x.witnesses.count + 1
        → Cause k x (new_witness_variable handed) (number_alone 12)
    -- 1 to 8: outside Setup an error is handed in
    instance_error : {e : SynthesisError} → KeepsValues x.mode → Cause k x (new_input_variable (Err e)) (number_alone (error_number e))
    witness_error : {e : SynthesisError} → KeepsValues x.mode → Cause k x (new_witness_variable (Err e)) (number_alone (error_number e))
    -- 13 and 14: too few index entries or term places for a list; ..
    no_entry_for_list : {ts : List (Term V)} → capacity k.index < used_entries x + 1 → Cause k x (new_lc ts) (number_alone 13)
    no_places_for_list : {ts : List (Term V)} → capacity k.terms < used_terms x + length ts → Cause k x (new_lc ts) (number_alone 14)
    -- .. and, where matrices are kept, for the three of a constraint
    no_entries_for_constraint : {a b c : List (Term V)} → KeepsMatrices x.mode → capacity k.index < used_entries x + 3
        → Cause k x (enforce_constraint a b c) (number_alone 13)
    no_places_for_constraint : {a b c : List (Term V)} → KeepsMatrices x.mode → capacity k.terms < used_terms x + (length a + length b + length c)
        → Cause k x (enforce_constraint a b c) (number_alone 14)
    -- 15 and 16: a term names a variable that is not known, the first such term of the lists in their order; the list and the term's place in it are told
    unknown_in_list : {ts : List (Term V)} {place number : ℕ} → FirstUnknown x ts place number → Cause k x (new_lc ts) (number_at number 0 place)
    unknown_in_a : {a b c : List (Term V)} {place number : ℕ} → FirstUnknown x a place number → Cause k x (enforce_constraint a b c) (number_at number 0 place)
    unknown_in_b : {a b c : List (Term V)} {place number : ℕ} → KnownAt x a → FirstUnknown x b place number
        → Cause k x (enforce_constraint a b c) (number_at number 1 place)
    unknown_in_c : {a b c : List (Term V)} {place number : ℕ} → KnownAt x a → KnownAt x b → FirstUnknown x c place number
        → Cause k x (enforce_constraint a b c) (number_at number 2 place)
    -- 20: no constraint more can be counted
    no_constraint_more : {a b c : List (Term V)} → limit < x.constraints + 1 → Cause k x (enforce_constraint a b c) (number_alone 20)
    -- 17: the counts do not fit the tables
    check_unfit : {work : ℕ} → (Fits k x → ⊥) → Cause k x (which_is_unsatisfied work) (number_alone 17)
    question_unfit : {work : ℕ} {v : Variable} → (Fits k x → ⊥) → Cause k x (assigned_value work v) (number_alone 17)
    finalize_unfit : (Fits k x → ⊥) → Cause k x finalize (number_alone 17)
    writing_unfit : {cells ends : ℕ} → (Fits k x → ⊥) → Cause k x (to_matrices cells ends) (number_alone 17)
    -- 2 and 18: a check in Setup, or in bare mode with a constraint counted
    check_in_setup : {work : ℕ} → (KeepsValues x.mode → ⊥) → Cause k x (which_is_unsatisfied work) (number_alone 2)
    check_in_bare_mode : {work : ℕ} → (KeepsMatrices x.mode → ⊥) → x.constraints ≢ 0 → Cause k x (which_is_unsatisfied work) (number_alone 18)
    -- 19: of an open circuit, a work table shorter than the entries, for a check or for a question about a known symbol; ..
    check_short_of_work : {work : ℕ} → x.finished ≡ None → work < used_entries x → Cause k x (which_is_unsatisfied work) (number_alone 19)
    question_short_of_work : {work : ℕ} {j : LcIndex} → KnownHere x (SymbolicLc j) → x.finished ≡ None → work < used_entries x
        → Cause k x (assigned_value work (SymbolicLc j)) (number_alone 19)
    -- .. or a table of cells or of row ends shorter than what is written
    short_of_cells : {cells ends : ℕ} (answer : Matrices V) → matrices_of m x x.finished ≡ Some answer → cells < length answer.cells
        → Cause k x (to_matrices cells ends) (number_alone 19)
    short_of_ends : {cells ends : ℕ} (answer : Matrices V) → matrices_of m x x.finished ≡ Some answer → ends < length answer.ends
        → Cause k x (to_matrices cells ends) (number_alone 19)
    -- 14, 12 and 13: where matrices are kept, the first entry that does not find its places in finalising, by what it lacks
    finalize_stops : {number : ℕ} (past : List (List (Term V))) (l : List (Term V)) (future : List (List (Term V)))
        → KeepsMatrices x.mode → lists x.given ≡ past ++ l ∷ future
        → StopsAt m (rule_of m x.goal (lists x.given)) (room_of k x) (start_of x) (places (lists x.given)) past l number → Cause k x finalize (number_alone number)

  -- each refusal has its cause
  abbrev pub RefusedForCause : Type 0
  RefusedForCause = (k : Lengths) (x : Account V) (call : Call V) (r : Told) → refusal m k x call ≡ Some r → Cause k x call r

  -- .. and a call that has a cause is refused
  abbrev pub CausesRefuse : Type 0
  CausesRefuse = (k : Lengths) (x : Account V) (call : Call V) (r : Told) → Cause k x call r → refusal m k x call ≡ None → ⊥
