-- When a call is refused, by the account and the lengths of the lent tables, in a run: every call is lent the same four tables as the
-- call before left them. Assumes nothing.
use Rattle.std.specs.Prelude.{ℕ, suc, ◌+◌, ◌-◌, ◌*◌, min, Bool, true, false, cond, not, ◌&&◌, List, [], ◌∷◌, length, Some, None, Ok, Err, Option, Result, ◌==◌, nat_lt, slice_index_or}
use Rattle.std.specs.Result.{result_err}
use Rattle.field.specs.Laws.{Model}
use Rattle.variables.specs.declared.Variable.{Variable}
use Rattle.variables.specs.declared.Variable.TheVariants.{Zero, One, Instance, Witness, SymbolicLc}
use Rattle.variables.specs.declared.Term.{Term}
use Rattle.variables.specs.Refusals.{Told, number_alone, number_at, error_number}
use Rattle.account.specs.declared.Mark.{Mark}
use Rattle.account.specs.declared.Mark.TheVariants.{Plain, A}
use Rattle.account.specs.declared.SynthesisMode.{SynthesisMode}
use Rattle.account.specs.declared.SynthesisMode.TheVariants.{Setup, Prove}
use Rattle.variables.specs.declared.SynthesisError.{SynthesisError}
use Rattle.account.specs.Given.{marks, lists}
use Rattle.account.specs.Finish.{Room, Start, Stage, untaken, places, lacks, finish_within}
use Rattle.account.specs.Rows.{Matrices}
use Rattle.account.specs.Account.{Finished, Account, fresh, added_count, witness_count, rule_of, matrices_of}
use Rattle.account.specs.Calls.{Call, set_mode, set_optimization_goal, new_input_variable, new_witness_variable, new_lc, enforce_constraint, which_is_unsatisfied, assigned_value, finalize, to_matrices}

-- the lengths of the four tables that are lent to every call
pub record Lengths : Type 0 where
  pub terms : ℕ
  pub index : ℕ
  pub instances : ℕ
  pub witnesses : ℕ

-- Of a longer one of these tables only this many places count. All places of a table for an answer do.
abbrev pub limit : ℕ
limit = 1048576

abbrev pub capacity : ℕ → ℕ
capacity len = min len limit

-- the places for values: Setup, which keeps none of a new variable, goes by the limit alone
abbrev pub value_places : SynthesisMode → ℕ → ℕ
value_places Setup len = limit
value_places (Prove matrices) len = capacity len

-- a refusal that carries no values, where a test says so
abbrev pub when : Bool → ℕ → Option Told
when fails number = cond fails (Some (number_alone number)) None

-- the first of some tests, made in order, that refuses
abbrev pub first : List (Option Told) → Option Told
first [] = None
first (None ∷ rest) = first rest
first (Some refusal ∷ rest) = Some refusal

-- 16: a constraint's own list
abbrev pub own_list : Mark → Option ℕ
own_list Plain = None
own_list other = Some 16

-- 15: any other variable that is not known
abbrev pub variable_refusal : ℕ → ℕ → List Mark → Variable → Option ℕ
variable_refusal n w before Zero = None
variable_refusal n w before One = None
variable_refusal n w before (Instance i) = cond (nat_lt i n) None (Some 15)
variable_refusal n w before (Witness i) = cond (nat_lt i w) None (Some 15)
variable_refusal n w before (SymbolicLc k) = cond (nat_lt k.0 (length before)) (own_list (slice_index_or before k.0 A)) (Some 15)

-- a refusal of a term carries its list and its place there
abbrev pub at_term : (list term : ℕ) → Option ℕ → Option Told
at_term list term None = None
at_term list term (Some number) = Some (number_at number list term)

-- a test that bare mode does not make
abbrev pub unless_bare : SynthesisMode → Option Told → Option Told
unless_bare Setup test = test
unless_bare (Prove true) test = test
unless_bare (Prove false) test = None

-- a test that is made for a known variable alone
abbrev pub if_known : Option ℕ → Option Told → Option Told
if_known None test = test
if_known (Some unknown) test = None

-- 11 where the instance table is empty
abbrev pub opening_refusal : Lengths → Option Told
opening_refusal k = when (lacks 1 (capacity k.instances)) 11

module _ {V : Type 0} where
  -- The term places in use: those of the lists as given and of the finished lists, where an outlined entry's finished list is the C of
  -- its row and lies there.
  abbrev pub finished_places : Option (Finished V) → ℕ
  finished_places None = 0
  finished_places (Some done) = places done.lists - length done.combinations

  abbrev pub used_terms : Account V → ℕ
  used_terms x = places (lists x.given) + finished_places x.finished

  abbrev pub used_entries : Account V → ℕ
  used_entries x = length x.given + 3 * added_count x.finished

  -- 1 to 8: outside Setup the value is an error
  abbrev pub value_refusal : SynthesisMode → Result V SynthesisError → Option Told
  value_refusal Setup handed = None
  value_refusal (Prove matrices) (Ok v) = None
  value_refusal (Prove matrices) (Err e) = when true (error_number e)

  -- 15 and 16: the first term, from place `term` of the list on, that is not known
  abbrev pub terms_refusal : ℕ → ℕ → List Mark → (list term : ℕ) → List (Term V) → Option Told
  terms_refusal n w before list term [] = None
  terms_refusal n w before list term (t ∷ ts) =
      first (at_term list term (variable_refusal n w before t.variable) ∷ terms_refusal n w before list (suc term) ts ∷ [])

  abbrev pub list_refusal : Account V → (list : ℕ) → List (Term V) → Option Told
  list_refusal x list ts = terms_refusal x.instances.count x.witnesses.count (marks x.given) list 0 ts

  -- 13: entries for some lists more
  abbrev pub entries_refusal : Lengths → Account V → List (List (Term V)) → Option Told
  entries_refusal k x ls = when (lacks (used_entries x + length ls) (capacity k.index)) 13

  -- 14: term places for some lists more
  abbrev pub places_refusal : Lengths → Account V → List (List (Term V)) → Option Told
  places_refusal k x ls = when (lacks (used_terms x + places ls) (capacity k.terms)) 14

  -- 17: counts that do not fit the tables. Of values Setup keeps the first instance alone. What else makes tables sound holds of every
  -- account of a run.
  abbrev pub values_fit : SynthesisMode → Lengths → Account V → Bool
  values_fit Setup k x = not (lacks 1 (capacity k.instances))
  values_fit (Prove matrices) k x =
      not (lacks x.instances.count (capacity k.instances)) && not (lacks (witness_count x) (capacity k.witnesses))

  abbrev pub fits : Lengths → Account V → Bool
  fits k x =
      not (lacks (used_terms x) (capacity k.terms)) && (not (lacks (used_entries x) (capacity k.index)) && values_fit x.mode k x)

  abbrev pub unsound : Lengths → Account V → Option Told
  unsound k x = when (not (fits k x)) 17

  -- 2 and 18: a check in Setup, or in bare mode with a constraint counted
  abbrev pub check_refusal : SynthesisMode → Account V → Option Told
  check_refusal Setup x = when true 2
  check_refusal (Prove true) x = None
  check_refusal (Prove false) x = when (not (x.constraints == 0)) 18

  -- 19: of an open circuit, in every mode, a work table shorter than the entries
  abbrev pub work_refusal : Option (Finished V) → ℕ → Account V → Option Told
  work_refusal None work x = when (lacks (used_entries x) work) 19
  work_refusal (Some done) work x = None

  -- a question needs the work table for a known symbol alone
  abbrev pub question_refusal : ℕ → Account V → Variable → Option Told
  question_refusal work x Zero = None
  question_refusal work x One = None
  question_refusal work x (Instance i) = None
  question_refusal work x (Witness i) = None
  question_refusal work x (SymbolicLc k) =
      if_known (variable_refusal x.instances.count x.witnesses.count (marks x.given) (SymbolicLc k)) (work_refusal x.finished work x)

  -- 19: a table of cells or row ends shorter than what is written
  abbrev pub writing_refusal : (cells ends : ℕ) → Option (Matrices V) → Option Told
  writing_refusal cells ends None = None
  writing_refusal cells ends (Some answer) =
      first (when (lacks (length answer.cells) cells) 19 ∷ when (lacks (length answer.ends) ends) 19 ∷ [])

  -- the places that finalising has, and what is there at its start
  abbrev pub room_of : Lengths → Account V → Room
  room_of k x = record {
    terms = capacity k.terms;
    entries = capacity k.index;
    witnesses = value_places x.mode k.witnesses;
  }

  abbrev pub start_of : Account V → Start
  start_of x = record { witnesses = x.witnesses.count; entries = length x.given }

module _ {V : Type 0} (m : Model V) where
  -- the steps of finalising in the places that there are
  abbrev pub stages_of : Lengths → Account V → Result (Stage V) Told
  stages_of k x =
      finish_within m (rule_of m x.goal (lists x.given)) (room_of k x) (start_of x) (record { lists = untaken; used = places (lists x.given) }) (lists x.given)

  -- the tests of a call in their order
  abbrev pub tests : Lengths → Account V → Call V → List (Option Told)
  tests k x (set_mode mode) = when (not (fresh x)) 10 ∷ []
  tests k x (set_optimization_goal goal) = when (not (fresh x)) 10 ∷ []
  tests k x (new_input_variable handed) =
      when (lacks (x.instances.count + 1) (value_places x.mode k.instances)) 11 ∷ value_refusal x.mode handed ∷ []
  tests k x (new_witness_variable handed) =
      when (lacks (x.witnesses.count + 1) (value_places x.mode k.witnesses)) 12 ∷ value_refusal x.mode handed ∷ []
  tests k x (new_lc ts) = entries_refusal k x (ts ∷ []) ∷ places_refusal k x (ts ∷ []) ∷ list_refusal x 0 ts ∷ []
  tests k x (enforce_constraint a b c) =
      when (lacks (x.constraints + 1) limit) 20
      ∷ unless_bare x.mode (entries_refusal k x (a ∷ b ∷ c ∷ [])) ∷ unless_bare x.mode (places_refusal k x (a ∷ b ∷ c ∷ []))
      ∷ list_refusal x 0 a ∷ list_refusal x 1 b ∷ list_refusal x 2 c ∷ []
  tests k x (which_is_unsatisfied work) = unsound k x ∷ check_refusal x.mode x ∷ work_refusal x.finished work x ∷ []
  tests k x (assigned_value work v) = unsound k x ∷ question_refusal work x v ∷ []
  tests k x finalize = unsound k x ∷ unless_bare x.mode (result_err (stages_of k x)) ∷ []
  tests k x (to_matrices cells ends) = unsound k x ∷ writing_refusal cells ends (matrices_of m x x.finished) ∷ []

  -- when a call is refused, and how
  abbrev pub refusal : Lengths → Account V → Call V → Option Told
  refusal k x call = first (tests k x call)
