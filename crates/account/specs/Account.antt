-- The account of a circuit: what it is, told by the calls that it accepted. Assumes nothing.
use Rattle.std.specs.Prelude.{◌≡◌, ℕ, ◌+◌, Bool, true, false, not, ◌&&◌, List, [], ◌∷◌, ◌++◌, map, length, drop, Some, None, Option, ◌==◌, slice_index_or}
use Rattle.std.specs.List.{slice_get, zip}
use Rattle.std.specs.Option.{option_map}
use Rattle.field.specs.Laws.{Model}
use Rattle.variables.specs.declared.Variable.{Variable}
use Rattle.variables.specs.declared.Variable.TheVariants.{Zero, One, Instance, Witness, SymbolicLc}
use Rattle.variables.specs.declared.Term.{Term}
use Rattle.variables.specs.Evaluate.{read, evaluated}
use Rattle.account.specs.declared.Mark.{Mark}
use Rattle.account.specs.declared.Mark.TheVariants.{Plain, A, B, C}
use Rattle.account.specs.declared.SynthesisMode.{SynthesisMode}
use Rattle.account.specs.declared.SynthesisMode.TheVariants.{Setup, Prove}
use Rattle.account.specs.declared.OptimizationGoal.{OptimizationGoal}
use Rattle.account.specs.declared.OptimizationGoal.TheVariants.{Constraints, Weight}
use Rattle.account.specs.Given.{Given, marks, lists, marked, KnownTerms, KnownAfter}
use Rattle.account.specs.Finish.{Rule, Finishing, outline_none, outline_by_weight, finish}
use Rattle.account.specs.Rows.{Row, each, rows, row_marks, finished_rows, finished_lists, constraints_at, Matrices, matrices}
use Rattle.account.specs.Evaluate.{filled, added_values, or_zero, failing}

-- instances, the constant one among them, or witnesses: how many there are, and the values that are kept, from the first on
pub record Named (V : Type 0) : Type 0 where
  pub count : ℕ
  pub kept : List V

-- what finalising made, where matrices are kept: the finished list of each entry and after them the three of each added row, the
-- combination that each added witness stands for, by the number of its list, and the values kept of these witnesses
pub record Finished (V : Type 0) : Type 0 where
  pub lists : List (List (Term V))
  pub combinations : List ℕ
  pub added : List V

pub record Account (V : Type 0) : Type 0 where
  pub mode : SynthesisMode
  pub goal : OptimizationGoal
  pub instances : Named V
  pub witnesses : Named V
  pub given : List (Given V)
  pub constraints : ℕ
  pub finished : Option (Finished V)

-- an account with one part replaced
abbrev pub with_mode : {V : Type 0} → Account V → SynthesisMode → Account V
with_mode x new = record { mode = new; goal = x.goal; instances = x.instances; witnesses = x.witnesses; given = x.given; constraints = x.constraints; finished = x.finished }

abbrev pub with_goal : {V : Type 0} → Account V → OptimizationGoal → Account V
with_goal x new = record { mode = x.mode; goal = new; instances = x.instances; witnesses = x.witnesses; given = x.given; constraints = x.constraints; finished = x.finished }

abbrev pub with_instances : {V : Type 0} → Account V → Named V → Account V
with_instances x new = record { mode = x.mode; goal = x.goal; instances = new; witnesses = x.witnesses; given = x.given; constraints = x.constraints; finished = x.finished }

abbrev pub with_witnesses : {V : Type 0} → Account V → Named V → Account V
with_witnesses x new = record { mode = x.mode; goal = x.goal; instances = x.instances; witnesses = new; given = x.given; constraints = x.constraints; finished = x.finished }

abbrev pub with_given : {V : Type 0} → Account V → List (Given V) → Account V
with_given x new = record { mode = x.mode; goal = x.goal; instances = x.instances; witnesses = x.witnesses; given = new; constraints = x.constraints; finished = x.finished }

abbrev pub with_constraints : {V : Type 0} → Account V → ℕ → Account V
with_constraints x new = record { mode = x.mode; goal = x.goal; instances = x.instances; witnesses = x.witnesses; given = x.given; constraints = new; finished = x.finished }

abbrev pub with_finished : {V : Type 0} → Account V → Option (Finished V) → Account V
with_finished x new = record { mode = x.mode; goal = x.goal; instances = x.instances; witnesses = x.witnesses; given = x.given; constraints = x.constraints; finished = new }

-- what an accepted call does to the account; asking for a value, checking and writing do nothing to it
pub data Effect (V : Type 0) : Type 0 where
  asks : Effect V
  checks : Effect V
  writes : Effect V
  sets_mode : SynthesisMode → Effect V
  sets_goal : OptimizationGoal → Effect V
  names_instance : Option V → Effect V
  names_witness : Option V → Effect V
  names_lists : List (List (Term V)) → Effect V
  constrains : (a b c : List (Term V)) → Effect V
  finalises : Effect V

-- effects that do nothing to the account
abbrev pub LeavesAlone : {V : Type 0} → Effect V → Type 0
LeavesAlone asks = Unit {0}
LeavesAlone checks = Unit {0}
LeavesAlone writes = Unit {0}
LeavesAlone other = ⊥

-- matrices are kept except in bare mode, and all values except in Setup
abbrev pub KeepsMatrices : SynthesisMode → Type 0
KeepsMatrices (Prove false) = ⊥
KeepsMatrices other = Unit {0}

abbrev pub KeepsValues : SynthesisMode → Type 0
KeepsValues Setup = ⊥
KeepsValues (Prove matrices) = Unit {0}

abbrev pub kept_value : {V : Type 0} → SynthesisMode → Option V → List V
kept_value Setup handed = []
kept_value (Prove matrices) None = []
kept_value (Prove matrices) (Some v) = v ∷ []

abbrev pub one_more : {V : Type 0} → SynthesisMode → Option V → Named V → Named V
one_more mode handed named = record { count = named.count + 1; kept = named.kept ++ kept_value mode handed }

abbrev pub plain_lists : {V : Type 0} → List (List (Term V)) → List (Given V)
plain_lists ls = map (marked Plain) ls

-- a constraint's three lists, which bare mode does not keep
abbrev pub constraint_lists : {V : Type 0} → SynthesisMode → (a b c : List (Term V)) → List (Given V)
constraint_lists (Prove false) a b c = []
constraint_lists other a b c = marked A a ∷ marked B b ∷ marked C c ∷ []

-- no variable, combination or constraint yet
abbrev pub fresh : {V : Type 0} → Account V → Bool
fresh x = x.instances.count == 1 && (x.witnesses.count == 0 && (length x.given == 0 && x.constraints == 0))

abbrev pub is_open : {V : Type 0} → Option (Finished V) → Bool
is_open None = true
is_open (Some done) = false

-- Whether a call of this effect builds: of a finished circuit only checks, questions and writing do, and of an open one all but writing.
-- What does not build stands in no run.
abbrev pub builds : {V : Type 0} → Account V → Effect V → Bool
builds x asks = true
builds x checks = true
builds x writes = not (is_open x.finished)
builds x other = is_open x.finished

-- outside Setup a new variable has a value
abbrev pub HasValue : {V : Type 0} → SynthesisMode → Option V → Type 0
HasValue Setup v = Unit {0}
HasValue (Prove matrices) None = ⊥
HasValue (Prove matrices) (Some v) = Unit {0}

-- a check is for circuits that keep values; in bare mode for one without constraints
abbrev pub Checkable : {V : Type 0} → SynthesisMode → Account V → Type 0
Checkable Setup x = ⊥
Checkable (Prove true) x = Unit {0}
Checkable (Prove false) x = x.constraints ≡ 0

abbrev pub KnownAt : {V : Type 0} → Account V → List (Term V) → Type 0
KnownAt x ts = KnownTerms x.instances.count x.witnesses.count (marks x.given) ts

-- what has to hold of a circuit and of what is handed in, beside places and limits of counts, for a call of this effect to be accepted
abbrev pub Allows : {V : Type 0} → Account V → Effect V → Type 0
Allows x asks = Unit {0}
Allows x checks = Checkable x.mode x
Allows x writes = Unit {0}
Allows x (sets_mode mode) = fresh x ≡ true
Allows x (sets_goal goal) = fresh x ≡ true
Allows x (names_instance v) = HasValue x.mode v
Allows x (names_witness v) = HasValue x.mode v
Allows x (names_lists ls) = KnownAfter x.instances.count x.witnesses.count (marks x.given) (plain_lists ls)
Allows x (constrains a b c) = KnownAt x a × KnownAt x b × KnownAt x c
Allows x finalises = Unit {0}

-- where matrices are not kept finalising makes nothing
abbrev pub nothing_made : {V : Type 0} → Finished V
nothing_made = record { lists = []; combinations = []; added = [] }

-- the values kept of added witnesses, and how many there are
abbrev pub added_kept : {V : Type 0} → Option (Finished V) → List V
added_kept None = []
added_kept (Some done) = done.added

abbrev pub added_count : {V : Type 0} → Option (Finished V) → ℕ
added_count None = 0
added_count (Some done) = length done.combinations

-- the finished list of every entry
abbrev pub lists_of : {V : Type 0} → Option (Finished V) → Option (List (List (Term V)))
lists_of finished = option_map (λ done. done.lists) finished

-- the witnesses and the constraints, the added ones among them
abbrev pub witness_count : {V : Type 0} → Account V → ℕ
witness_count x = x.witnesses.count + added_count x.finished

abbrev pub constraint_count : {V : Type 0} → Account V → ℕ
constraint_count x = x.constraints + added_count x.finished

-- the given lists of all entries: those that were handed in, and then the three of each added row, which stand as given and as finished
abbrev pub added_given : {V : Type 0} → (entries : ℕ) → Option (Finished V) → List (Given V)
added_given entries None = []
added_given entries (Some done) = map (λ e. marked e.0 e.1) (zip (row_marks done.combinations) (drop entries done.lists))

abbrev pub all_given : {V : Type 0} → Account V → List (Given V)
all_given x = x.given ++ added_given (length x.given) x.finished

-- the rows of a finished circuit
abbrev pub rows_of : {V : Type 0} → Account V → Finished V → List (Row (List (Term V)))
rows_of x done = finished_rows x.given done.lists done.combinations

module _ {V : Type 0} (m : Model V) where
  open m.ring use {Member}

  -- which lists a goal outlines, of those given
  abbrev pub rule_of : OptimizationGoal → List (List (Term V)) → Rule V
  rule_of Weight given = outline_by_weight given
  rule_of other given = outline_none

  -- a circuit just opened: mode Prove with matrices, goal Constraints, and the instance one
  abbrev pub opened : Account V
  opened = record {
    mode = Prove true;
    goal = Constraints;
    instances = record { count = 1; kept = m.one ∷ [] };
    witnesses = record { count = 0; kept = [] };
    given = [];
    constraints = 0;
    finished = None;
  }

  -- what the kept values stand for, and with them those of the added witnesses: outside Setup these are vectors
  abbrev pub kept_of : Account V → List Member
  kept_of x = map m.stands (x.instances.kept ++ x.witnesses.kept)

  abbrev pub all_kept_of : Account V → Finished V → List Member
  all_kept_of x done = kept_of x ++ map m.stands done.added

  -- what the three lists of each of some constraints are worth at the kept values
  abbrev pub constraints_kept : Account V → List (Row (List (Term V))) → List (Row Member)
  constraints_kept x cs = constraints_at m x.instances.count (kept_of x) (lists x.given) cs

  -- the steps of finalising on the lists
  abbrev pub finish_of : Account V → Finishing V
  finish_of x = finish m (rule_of x.goal (lists x.given)) x.witnesses.count (lists x.given)

  -- what finalising makes of the lists, these being the values of the added witnesses
  abbrev pub made : List V → Account V → Finished V
  made added x = record { lists = finished_lists m (finish_of x); combinations = map (λ o. o.entry) (finish_of x).outlined; added = added }

  -- Setup keeps no values of added witnesses, and where matrices are not kept finalising makes nothing
  abbrev pub made_in : SynthesisMode → Account V → Finished V
  made_in Setup x = made [] x
  made_in (Prove true) x = made (added_values m x.instances.kept x.witnesses.kept (finish_of x).outlined) x
  made_in (Prove false) x = nothing_made

  -- the account after an accepted call of this effect
  abbrev pub changed : Account V → Effect V → Account V
  changed x asks = x
  changed x checks = x
  changed x writes = x
  changed x (sets_mode mode) = with_mode x mode
  changed x (sets_goal goal) = with_goal x goal
  changed x (names_instance v) = with_instances x (one_more x.mode v x.instances)
  changed x (names_witness v) = with_witnesses x (one_more x.mode v x.witnesses)
  changed x (names_lists ls) = with_given x (x.given ++ plain_lists ls)
  changed x (constrains a b c) = with_constraints (with_given x (x.given ++ constraint_lists x.mode a b c)) (x.constraints + 1)
  changed x finalises = with_finished x (Some (made_in x.mode x))

  -- The values that a check reads: of an open circuit the work table at the constraints, of a finished one its rows worked out.
  abbrev pub values_of : Account V → Option (Finished V) → List (Row V)
  values_of x None = rows m.zero (marks x.given) (map (or_zero m) (filled m x.instances.kept x.witnesses.kept (lists x.given)))
  values_of x (Some done) = map (each (λ ts. or_zero m (evaluated m (read m x.instances.kept (x.witnesses.kept ++ done.added) []) ts))) (rows_of x done)

  -- what a check answers; no check is accepted in Setup, and in bare mode only that of a circuit without a constraint
  abbrev pub failing_of : SynthesisMode → Account V → Option ℕ
  failing_of Setup x = None
  failing_of (Prove true) x = failing m (values_of x x.finished)
  failing_of (Prove false) x = None

  -- a plain list's place in the work table; none for a constraint's own list and for a list that is not there
  abbrev pub if_plain : Option Mark → Option V → Option V
  if_plain (Some Plain) worth = worth
  if_plain other worth = None

  -- the value of symbol k, of which a finished circuit has none
  abbrev pub symbol_value : Option (Finished V) → Account V → ℕ → Option V
  symbol_value None x k = if_plain (slice_get (marks x.given) k) (slice_index_or (filled m x.instances.kept x.witnesses.kept (lists x.given)) k None)
  symbol_value (Some done) x k = None

  -- the value of a variable, or none where it is not known, where its value or one that it rests on is not kept, and for a constraint's own
  -- list and every symbol of a finished circuit
  abbrev pub value_of : Account V → Variable → Option V
  value_of x Zero = Some m.zero
  value_of x One = Some m.one
  value_of x (Instance i) = slice_get x.instances.kept i
  value_of x (Witness i) = slice_get (x.witnesses.kept ++ added_kept x.finished) i
  value_of x (SymbolicLc k) = symbol_value x.finished x k.0

  -- the matrices of a finished circuit, where they are kept
  abbrev pub matrices_from : Account V → Finished V → Matrices V
  matrices_from x done = matrices m x.instances.count (x.witnesses.count + length done.combinations) (rows_of x done)

  abbrev pub matrices_in : SynthesisMode → Account V → Finished V → Option (Matrices V)
  matrices_in (Prove false) x done = None
  matrices_in other x done = Some (matrices_from x done)

  abbrev pub matrices_of : Account V → Option (Finished V) → Option (Matrices V)
  matrices_of x None = None
  matrices_of x (Some done) = matrices_in x.mode x done
