-- Small cases that can be worked out by hand, over the two fields. Assumes nothing.
use Rattle.std.specs.Prelude.{◌≡◌, ℕ, ◌+◌, ◌*◌, ◌==◌, true, false, List, [], ◌∷◌, ◌++◌, map, Some, None, Ok, Err, Option}
use Rattle.field.specs.Laws.{Model}
use Rattle.p31.specs.declared.P31.{P31}
use Rattle.p31.specs.Models.{p31}
use Rattle.gf8.specs.declared.Gf8.{Gf8}
use Rattle.gf8.specs.Models.{gf8}
use Rattle.variables.specs.declared.Variable.{Variable}
use Rattle.variables.specs.declared.Variable.TheVariants.{Zero, One, Instance, Witness, SymbolicLc}
use Rattle.variables.specs.declared.Term.{Term}
use Rattle.variables.specs.Terms.{term}
use Rattle.variables.specs.Compact.{compactify}
use Rattle.variables.specs.Locate.{added}
use Rattle.variables.specs.Evaluate.{read, evaluated}
use Rattle.variables.specs.Refusals.{Told, error_number}
use Rattle.account.specs.declared.OptimizationGoal.TheVariants.{None as NoGoal, Constraints, Weight}
use Rattle.account.specs.declared.SynthesisMode.TheVariants.{Setup, Prove}
use Rattle.variables.specs.declared.SynthesisError.TheVariants.{MissingCS, AssignmentMissing, DivisionByZero, Unsatisfiable, PolynomialDegreeTooLarge, UnexpectedIdentity, MalformedVerifyingKey, UnconstrainedVariable}
use Rattle.account.specs.Given.{lists}
use Rattle.account.specs.Evaluate.{failing}
use Rattle.account.specs.Finish.{uses_in, uses, weighs_more, outline_none, outline_by_weight, untaken, expanded, finish, most_places}
use Rattle.account.specs.Rows.{Row, Cell, cells, Matrices, matrices}
use Rattle.account.specs.Account.{Account, with_mode, with_goal, with_witnesses, with_constraints, with_finished, rule_of, made_in, value_of}
use Rattle.account.specs.Calls.{Call, set_mode, set_optimization_goal, new_input_variable, new_witness_variable, new_lc, enforce_constraint, which_is_unsatisfied, assigned_value, finalize, to_matrices, unit, named, unsatisfied, assigned, written, Event, accepted, account}
use Rattle.account.specs.Refusals.{Lengths, capacity, when, at_term, stages_of, refusal}
use Rattle.account.specs.Run.{log_of}

abbrev pub num : ℕ → P31
num n = record { value = n }

abbrev pub byte : ℕ → Gf8
byte n = record { value = n }

abbrev pub ◌times◌ : ℕ → Variable → Term P31
◌times◌ n v = term (num n) v

abbrev pub symbol : ℕ → Variable
symbol k = SymbolicLc (record { 0 = k })

abbrev pub ◌at◌ : ℕ → ℕ → Cell P31
◌at◌ n column = record { number = num n; column = column }

infixl 70 ◌times◌
infixl 70 ◌at◌
-- tables of these lengths
abbrev pub tables : (terms index witnesses : ℕ) → Lengths
tables terms index witnesses = record { terms = terms; index = index; instances = 2; witnesses = witnesses }

-- A circuit with goal Weight: the instance 64 and the witnesses 3 and 4; their sum and one as a symbol, whose square is to be the instance.
abbrev pub calls : List (Call P31)
calls =
    set_optimization_goal Weight ∷ new_input_variable (Ok (num 64)) ∷ new_witness_variable (Ok (num 3)) ∷ new_witness_variable (Ok (num 4))
    ∷ new_lc (1 times Witness 0 ∷ 1 times Witness 1 ∷ 1 times One ∷ []) ∷ enforce_constraint (1 times symbol 0 ∷ []) (1 times symbol 0 ∷ []) (1 times Instance 1 ∷ []) ∷ []

abbrev pub log : List (Event P31)
log =
    accepted (set_optimization_goal Weight) unit ∷ accepted (new_input_variable (Ok (num 64))) (named (Instance 1))
    ∷ accepted (new_witness_variable (Ok (num 3))) (named (Witness 0)) ∷ accepted (new_witness_variable (Ok (num 4))) (named (Witness 1))
    ∷ accepted (new_lc (1 times Witness 0 ∷ 1 times Witness 1 ∷ 1 times One ∷ [])) (named (symbol 0))
    ∷ accepted (enforce_constraint (1 times symbol 0 ∷ []) (1 times symbol 0 ∷ []) (1 times Instance 1 ∷ [])) unit ∷ []

-- its account
abbrev pub circuit : Account P31
circuit = account p31 log

-- what writing it answers
abbrev pub circuit_matrices : Matrices P31
circuit_matrices = record {
  cells = 1 at 4 ∷ 1 at 0 ∷ 1 at 2 ∷ 1 at 3 ∷ 1 at 4 ∷ 1 at 0 ∷ 1 at 1 ∷ 1 at 4 ∷ [];
  ends = 1 ∷ 4 ∷ 5 ∷ 6 ∷ 7 ∷ 8 ∷ [];
  instances = 2;
  witnesses = 3;
  row_count = 2;
  cell_counts = (4, 2, 2);
}

-- calls that follow: questions, checks and writings, two of which are refused for a short table; a goal that comes too late; and a second
-- finalising, which does not build
abbrev pub more_calls : List (Call P31)
more_calls =
    assigned_value 4 (symbol 0) ∷ which_is_unsatisfied 3 ∷ which_is_unsatisfied 4 ∷ set_optimization_goal Weight ∷ finalize ∷ finalize
    ∷ which_is_unsatisfied 0 ∷ assigned_value 0 (symbol 0) ∷ assigned_value 0 (Witness 2) ∷ to_matrices 8 5 ∷ to_matrices 8 6 ∷ []

abbrev pub refused_by : Call P31 → (number : ℕ) → Event P31
refused_by call number = record { call = call; answer = Err (record { number = number; values = [] }) }

abbrev pub more_log : List (Event P31)
more_log =
    accepted (assigned_value 4 (symbol 0)) (assigned (Some (num 8))) ∷ refused_by (which_is_unsatisfied 3) 19
    ∷ accepted (which_is_unsatisfied 4) (unsatisfied None) ∷ refused_by (set_optimization_goal Weight) 10
    ∷ accepted finalize unit ∷ accepted (which_is_unsatisfied 0) (unsatisfied None) ∷ accepted (assigned_value 0 (symbol 0)) (assigned None)
    ∷ accepted (assigned_value 0 (Witness 2)) (assigned (Some (num 8))) ∷ refused_by (to_matrices 8 5) 19
    ∷ accepted (to_matrices 8 6) (written (Some circuit_matrices)) ∷ []

-- two constraints, of which the second fails: 1 × 1 = 1 and 1 × 1 = 2
abbrev pub failing_calls : List (Call P31)
failing_calls =
    enforce_constraint (1 times One ∷ []) (1 times One ∷ []) (1 times One ∷ []) ∷ enforce_constraint (1 times One ∷ []) (1 times One ∷ []) (2 times One ∷ [])
    ∷ which_is_unsatisfied 6 ∷ finalize ∷ which_is_unsatisfied 0 ∷ []

-- bare mode: a check before a constraint and one after it, a mode that comes too late, and no matrices
abbrev pub bare_calls : List (Call P31)
bare_calls =
    set_mode (Prove false) ∷ which_is_unsatisfied 0 ∷ enforce_constraint (1 times One ∷ []) [] [] ∷ which_is_unsatisfied 0 ∷ set_mode Setup ∷ finalize
    ∷ to_matrices 0 0 ∷ []

-- Setup: an error handed in is ignored, and so is a value; no value is kept but that of instance 0, and a check is refused
abbrev pub setup_calls : List (Call P31)
setup_calls =
    set_mode Setup ∷ new_witness_variable (Err Unsatisfiable) ∷ new_witness_variable (Ok (num 5)) ∷ assigned_value 0 (Witness 1) ∷ new_lc (2 times Instance 0 ∷ [])
    ∷ assigned_value 1 (symbol 0) ∷ which_is_unsatisfied 0 ∷ finalize ∷ to_matrices 0 0 ∷ []

-- Setup: symbol 0 rests on the first instance alone, symbol 1 on another, and symbol 2 on symbol 1; asked for are instances, a witness, the
-- three symbols and one that is not there
abbrev pub resting_calls : List (Call P31)
resting_calls =
    set_mode Setup ∷ new_input_variable (Ok (num 5)) ∷ new_witness_variable (Ok (num 6)) ∷ new_lc (3 times One ∷ 4 times Instance 0 ∷ []) ∷ new_lc (0 times Instance 1 ∷ [])
    ∷ new_lc (2 times symbol 1 ∷ []) ∷ assigned_value 3 (Instance 0) ∷ assigned_value 3 (Instance 1) ∷ assigned_value 3 (Witness 0) ∷ assigned_value 3 (symbol 0)
    ∷ assigned_value 3 (symbol 2) ∷ assigned_value 0 (symbol 3) ∷ []

-- two lists that are both outlined, where the second names the first
abbrev pub nested_calls : List (Call P31)
nested_calls =
    set_optimization_goal Weight ∷ new_witness_variable (Ok (num 3)) ∷ new_witness_variable (Ok (num 7)) ∷ new_lc (1 times Witness 1 ∷ 1 times One ∷ 1 times Witness 0 ∷ [])
    ∷ new_lc (2 times symbol 0 ∷ 1 times One ∷ 1 times Witness 0 ∷ 0 times Witness 1 ∷ [])
    ∷ enforce_constraint (1 times symbol 1 ∷ []) (1 times symbol 0 ∷ []) (11 times symbol 1 ∷ []) ∷ finalize ∷ which_is_unsatisfied 0
    ∷ assigned_value 0 (Witness 2) ∷ assigned_value 0 (Witness 3) ∷ to_matrices 99 99 ∷ []

-- what writing it answers
abbrev pub nested_matrices : Matrices P31
nested_matrices = record {
  cells = 1 at 4 ∷ 1 at 0 ∷ 1 at 1 ∷ 1 at 2 ∷ 1 at 0 ∷ 1 at 1 ∷ 2 at 3 ∷ 1 at 3 ∷ 1 at 0 ∷ 1 at 0 ∷ 11 at 4 ∷ 1 at 3 ∷ 1 at 4 ∷ [];
  ends = 1 ∷ 4 ∷ 7 ∷ 8 ∷ 9 ∷ 10 ∷ 11 ∷ 12 ∷ 13 ∷ [];
  instances = 1;
  witnesses = 4;
  row_count = 3;
  cell_counts = (7, 3, 3);
}

-- Over gf8: the instance 254, which is 87 times 19 in one constraint that holds; and a list of worth 168 that is outlined, which another
-- constraint asks to be one more than it is, and so fails.
abbrev pub gf8_term : ℕ → Variable → Term Gf8
gf8_term n v = term (byte n) v

abbrev pub gf8_calls : List (Call Gf8)
gf8_calls =
    set_optimization_goal Weight ∷ new_input_variable (Ok (byte 254)) ∷ new_witness_variable (Ok (byte 87))
    ∷ new_lc (gf8_term 1 (Witness 0) ∷ gf8_term 1 One ∷ gf8_term 1 (Instance 1) ∷ [])
    ∷ enforce_constraint (gf8_term 1 (Witness 0) ∷ []) (gf8_term 19 One ∷ []) (gf8_term 1 (Instance 1) ∷ [])
    ∷ enforce_constraint (gf8_term 1 (symbol 0) ∷ []) (gf8_term 1 One ∷ []) (gf8_term 1 (symbol 0) ∷ gf8_term 1 One ∷ [])
    ∷ assigned_value 7 (symbol 0) ∷ which_is_unsatisfied 7 ∷ finalize ∷ which_is_unsatisfied 0 ∷ assigned_value 0 (Witness 1) ∷ []

-- calls that a finished circuit does not build
abbrev pub late_calls : List (Call P31)
late_calls =
    set_mode Setup ∷ set_optimization_goal NoGoal ∷ new_input_variable (Ok (num 1)) ∷ new_witness_variable (Ok (num 1)) ∷ new_lc [] ∷ enforce_constraint [] [] [] ∷ finalize ∷ []

-- values whose sums and products tell in which order they were made: 2 and 3 have the sum 2003 and the product 203. They keep no laws.
abbrev pub digits : Model ℕ
digits = record {
  ring = p31.ring;
  stands = λ n. p31.stands (num n);
  zero = 0;
  one = 1;
  plus = λ a b. a * 1000 + b;
  times = λ a b. a * 100 + b;
  minus = λ a. a;
  same = λ a b. a == b;
}

abbrev pub once_digits : ℕ → Variable → List (Term ℕ)
once_digits n v = term n v ∷ []

-- the circuit above in Setup, where no witness table is looked at
abbrev pub setup_circuit : Account P31
setup_circuit = with_mode circuit Setup

-- one list, `1*w0 1*w0`, which is written out in two places and kept in one
abbrev pub twice : Account P31
twice = account p31 (log_of p31 (tables 9 9 9) (new_witness_variable (Ok (num 1)) ∷ new_lc (1 times Witness 0 ∷ 1 times Witness 0 ∷ []) ∷ []))

-- what is written of some rows over one instance
abbrev pub matrices_of_rows : List (Row (List (Term P31))) → Matrices P31
matrices_of_rows rs = matrices p31 1 0 rs

abbrev pub by_number : ℕ → Option Told
by_number number = when true number

pub record Samples : Type 0 where
  -- products
  pub p31_product : p31.times (num 2147483646) (num 2147483646) ≡ num 1
  pub gf8_product : gf8.times (byte 87) (byte 131) ≡ byte 193
  pub gf8_by_19 : gf8.times (byte 87) (byte 19) ≡ byte 254
  -- a term added to a short list
  pub added_short : added p31 (3 times Witness 0) (1 times One ∷ 2 times Witness 0 ∷ []) ≡ 1 times One ∷ 3 times Witness 0 ∷ 2 times Witness 0 ∷ []
  -- a sum of zero stays, and gives an empty row
  pub sum_of_zero : compactify p31 (2 times Witness 0 ∷ 2147483645 times Witness 0 ∷ []) ≡ 0 times Witness 0 ∷ []
  pub empty_row : cells p31 1 (0 times Witness 0 ∷ []) ≡ []
  -- what is outlined, by uses and length
  pub outlined_five : weighs_more 1 5 ≡ true
  pub outlined_three : weighs_more 2 3 ≡ true
  pub not_outlined : weighs_more 1 4 ≡ false
  pub not_unused : weighs_more 0 9 ≡ false
  pub not_single : weighs_more 8 1 ≡ false
  pub not_empty : weighs_more 9 0 ≡ false
  -- with s0 = 2*w0 3*o, which finishes as 3*o 2*w0, 5*s0 1*w0 is written out as 15*o 10*w0 1*w0 and finishes as 15*o 11*w0
  pub written_out : expanded p31 ((3 times One ∷ 2 times Witness 0 ∷ []) ∷ []) (5 times symbol 0 ∷ 1 times Witness 0 ∷ []) ≡ 15 times One ∷ 10 times Witness 0 ∷ 1 times Witness 0 ∷ []
  -- nothing is left out where a list is written out, and each term counts in what is outlined
  pub all_written_out : expanded p31 ((3 times One ∷ []) ∷ []) (0 times symbol 0 ∷ 5 times Zero ∷ 0 times Witness 0 ∷ []) ≡ 0 times One ∷ 5 times Zero ∷ 0 times Witness 0 ∷ []
  pub all_counted : outline_by_weight ((1 times symbol 0 ∷ 1 times symbol 0 ∷ []) ∷ []) 0 (5 times Zero ∷ 0 times Witness 0 ∷ 1 times Witness 1 ∷ []) ≡ true
  pub substituted : (finish p31 outline_none 1 ((2 times Witness 0 ∷ 3 times One ∷ []) ∷ (5 times symbol 0 ∷ 1 times Witness 0 ∷ []) ∷ [])).finished
      ≡ (3 times One ∷ 2 times Witness 0 ∷ []) ∷ (15 times One ∷ 11 times Witness 0 ∷ []) ∷ []
  -- One and Instance 0 share a column, and give two cells
  pub two_cells : cells p31 1 (1 times One ∷ 1 times Instance 0 ∷ []) ≡ 1 at 0 ∷ 1 at 0 ∷ []
  -- the circuit: its symbol is used twice and outlined; it needs 14 terms, 7 entries and 3 witnesses
  pub used_twice : uses (lists circuit.given) 0 ≡ 2
  pub used_with_zero : uses_in 0 (0 times symbol 0 ∷ []) ≡ 1
  pub used_in_plain : uses ((1 times One ∷ []) ∷ (1 times symbol 0 ∷ 1 times Witness 0 ∷ []) ∷ []) 0 ≡ 1
  pub used_twice_in_one : uses_in 0 (1 times symbol 0 ∷ 1 times symbol 0 ∷ []) ≡ 2
  pub needs_14_terms : most_places p31 (rule_of p31 Weight (lists circuit.given)) 2 untaken 6 (lists circuit.given) ≡ 14
  pub stages : stages_of p31 (tables 14 7 3) circuit
      ≡ Ok (record {
        lists = record {
          finished = (1 times Witness 2 ∷ []) ∷ (1 times Witness 2 ∷ []) ∷ (1 times Witness 2 ∷ []) ∷ (1 times Instance 1 ∷ []) ∷ [];
          outlined = record { entry = 0; witness = 2; merged = 1 times One ∷ 1 times Witness 0 ∷ 1 times Witness 1 ∷ [] } ∷ [];
        };
        used = 14;
      })
  pub whole_run : log_of p31 (tables 14 7 3) (calls ++ more_calls) ≡ log ++ more_log
  pub terms_short : refusal p31 (tables 13 7 3) circuit finalize ≡ by_number 14
  pub index_short : refusal p31 (tables 14 6 3) circuit finalize ≡ by_number 13
  pub witnesses_short : refusal p31 (tables 14 7 2) circuit finalize ≡ by_number 12
  -- a term that is not known, a constraint's own list, and what is tested before
  pub not_known : refusal p31 (tables 14 7 3) circuit (new_lc (1 times One ∷ 1 times Witness 2 ∷ [])) ≡ at_term 0 1 (Some 15)
  pub own_list : refusal p31 (tables 14 7 3) circuit (enforce_constraint [] (1 times symbol 1 ∷ []) []) ≡ at_term 1 0 (Some 16)
  pub entries_first : refusal p31 (tables 6 4 3) circuit (new_lc (1 times symbol 1 ∷ [])) ≡ by_number 13
  pub terms_next : refusal p31 (tables 6 5 3) circuit (new_lc (1 times symbol 1 ∷ [])) ≡ by_number 14
  -- the first constraint that fails, before finalising and after
  pub second_fails : map (λ e. e.answer) (log_of p31 (tables 12 6 0) failing_calls) ≡ Ok unit ∷ Ok unit ∷ Ok (unsatisfied (Some 1)) ∷ Ok unit ∷ Ok (unsatisfied (Some 1)) ∷ []
  -- under another goal nothing is outlined
  pub inlined : stages_of p31 (tables 16 4 2) (with_goal circuit Constraints)
      ≡ Ok (record {
        lists = record {
          finished = (1 times One ∷ 1 times Witness 0 ∷ 1 times Witness 1 ∷ []) ∷ (1 times One ∷ 1 times Witness 0 ∷ 1 times Witness 1 ∷ [])
              ∷ (1 times One ∷ 1 times Witness 0 ∷ 1 times Witness 1 ∷ []) ∷ (1 times Instance 1 ∷ []) ∷ [];
          outlined = [];
        };
        used = 16;
      })
  pub none_inlined : stages_of p31 (tables 16 4 2) (with_goal circuit NoGoal) ≡ stages_of p31 (tables 16 4 2) (with_goal circuit Constraints)
  -- outlining asks for terms, then a witness, then entries
  pub terms_before_witnesses : refusal p31 (tables 10 7 2) circuit finalize ≡ by_number 14
  pub witnesses_before_entries : refusal p31 (tables 14 6 2) circuit finalize ≡ by_number 12
  pub setup_finalises : refusal p31 (tables 14 7 0) setup_circuit finalize ≡ None
  pub setup_full : refusal p31 (tables 14 7 0) (with_witnesses setup_circuit (record { count = 1048576; kept = [] })) finalize ≡ by_number 12
  -- writing out asks for a place for each term
  pub written_out_first : refusal p31 (tables 3 9 9) twice finalize ≡ by_number 14
  pub then_merged : refusal p31 (tables 4 9 9) twice finalize ≡ None
  -- the order of tests
  pub space_before_terms : refusal p31 (tables 6 4 3) circuit (enforce_constraint [] (1 times symbol 1 ∷ []) []) ≡ by_number 13
  pub places_before_terms : refusal p31 (tables 5 7 3) circuit (enforce_constraint [] (1 times symbol 1 ∷ []) []) ≡ by_number 14
  pub place_before_error : refusal p31 (tables 14 7 2) circuit (new_witness_variable (Err Unsatisfiable)) ≡ by_number 12
  pub mode_before_work : refusal p31 (tables 14 7 3) setup_circuit (which_is_unsatisfied 0) ≡ by_number 2
  pub unsound_first : refusal p31 (tables 5 7 3) circuit (which_is_unsatisfied 3) ≡ by_number 17
  pub mode_before_bare_work : refusal p31 (tables 14 7 3) (with_constraints (with_mode circuit (Prove false)) 1) (which_is_unsatisfied 0) ≡ by_number 18
  pub limit_before_terms : refusal p31 (tables 14 7 3) (with_constraints (with_mode circuit (Prove false)) 1048576) (enforce_constraint (1 times Witness 9 ∷ []) [] []) ≡ by_number 20
  -- lists are counted from 0, and the first that is at fault decides
  pub first_list : refusal p31 (tables 14 7 3) circuit (enforce_constraint (1 times Witness 9 ∷ []) [] []) ≡ at_term 0 0 (Some 15)
  pub third_list : refusal p31 (tables 14 7 3) circuit (enforce_constraint [] [] (1 times symbol 3 ∷ [])) ≡ at_term 2 0 (Some 16)
  pub first_of_two : refusal p31 (tables 14 7 3) circuit (enforce_constraint [] (1 times One ∷ 1 times symbol 1 ∷ []) (1 times Witness 9 ∷ [])) ≡ at_term 1 1 (Some 16)
  pub first_of_three : refusal p31 (tables 14 7 3) circuit (enforce_constraint (1 times symbol 9 ∷ []) (1 times symbol 1 ∷ []) (1 times Witness 9 ∷ [])) ≡ at_term 0 0 (Some 15)
  -- the limit
  pub at_limit : refusal p31 (tables 0 0 0) (with_constraints (with_mode circuit (Prove false)) 1048576) (enforce_constraint [] [] []) ≡ by_number 20
  pub below_limit : refusal p31 (tables 0 0 0) (with_constraints (with_mode circuit (Prove false)) 1048575) (enforce_constraint [] [] []) ≡ None
  pub longer_table : capacity 1048577 ≡ 1048576
  pub setup_limit : refusal p31 (tables 0 0 0) (with_witnesses setup_circuit (record { count = 1048576; kept = [] })) (new_witness_variable (Ok (num 1))) ≡ by_number 12
  -- single values: a constraint's own list has none; a finished circuit keeps those of its variables
  pub own_value : value_of p31 circuit (symbol 1) ≡ None
  pub finished_instance : value_of p31 (with_finished circuit (Some (made_in p31 (Prove true) circuit))) (Instance 1) ≡ Some (num 64)
  pub finished_witness : value_of p31 (with_finished circuit (Some (made_in p31 (Prove true) circuit))) (Witness 1) ≡ Some (num 4)
  -- the cells of A, of B and of C
  pub cell_counted : (matrices_of_rows (record { a = 1 times One ∷ []; b = 1 times One ∷ 1 times Instance 0 ∷ []; c = [] } ∷ [])).cell_counts ≡ (1, 2, 0)
  -- an empty list has no cell, and its end is the one before it
  pub empty_lists : matrices_of_rows (record { a = 0 times One ∷ []; b = 1 times One ∷ []; c = [] } ∷ record { a = []; b = []; c = 2 times One ∷ [] } ∷ [])
      ≡ record { cells = 1 at 0 ∷ 2 at 0 ∷ []; ends = 0 ∷ 0 ∷ 1 ∷ 1 ∷ 1 ∷ 2 ∷ []; instances = 1; witnesses = 0; row_count = 2; cell_counts = (0, 1, 1) }
  -- a number of p31 that is not below the modulus stays where nothing is worked out, and one that stands for zero gives no cell
  pub not_reduced : map (λ e. e.answer) (log_of p31 (tables 3 1 1) (new_witness_variable (Ok (num 2147483650)) ∷ new_lc (1 times Witness 0 ∷ []) ∷ assigned_value 1 (Witness 0) ∷ assigned_value 1 (symbol 0) ∷ []))
      ≡ Ok (named (Witness 0)) ∷ Ok (named (symbol 0)) ∷ Ok (assigned (Some (num 2147483650))) ∷ Ok (assigned (Some (num 3))) ∷ []
  pub not_reduced_inlined : (finish p31 outline_none 1 ((2147483650 times Witness 0 ∷ []) ∷ [])).finished ≡ (2147483650 times Witness 0 ∷ []) ∷ []
  pub not_reduced_cell : cells p31 1 (2147483650 times Witness 0 ∷ 2147483647 times One ∷ []) ≡ 2147483650 at 1 ∷ []
  -- the order of sums and products, over values by which it can be told
  pub product_order : expanded digits (once_digits 7 One ∷ []) (once_digits 5 (symbol 0)) ≡ once_digits 705 One
  pub sum_order : compactify digits (term 3 One ∷ term 4 One ∷ []) ≡ once_digits 3004 One
  pub list_order : evaluated digits (read digits (1 ∷ []) (2 ∷ []) []) (term 5 (Witness 0) ∷ term 6 One ∷ []) ≡ Some 502601
  pub check_order : failing digits (record { a = 2; b = 3; c = 203 } ∷ record { a = 2; b = 3; c = 302 } ∷ []) ≡ Some 1
  -- of a finished circuit nothing else builds, nor does a writing of an open one
  pub closed : log_of p31 (tables 14 7 3) (to_matrices 8 6 ∷ calls ++ finalize ∷ late_calls) ≡ log ++ accepted finalize unit ∷ []
  -- the errors by number
  pub errors_numbered : map error_number (MissingCS ∷ AssignmentMissing ∷ DivisionByZero ∷ Unsatisfiable ∷ PolynomialDegreeTooLarge ∷ UnexpectedIdentity ∷ MalformedVerifyingKey ∷ UnconstrainedVariable ∷ [])
      ≡ 1 ∷ 2 ∷ 3 ∷ 4 ∷ 5 ∷ 6 ∷ 7 ∷ 8 ∷ []
  -- the other modes
  pub bare_run : map (λ e. e.answer) (log_of p31 (tables 0 0 0) bare_calls)
      ≡ Ok unit ∷ Ok (unsatisfied None) ∷ Ok unit ∷ Err (record { number = 18; values = [] }) ∷ Err (record { number = 10; values = [] }) ∷ Ok unit ∷ Ok (written None) ∷ []
  pub setup_run : map (λ e. e.answer) (log_of p31 (tables 2 1 0) setup_calls)
      ≡ Ok unit ∷ Ok (named (Witness 0)) ∷ Ok (named (Witness 1)) ∷ Ok (assigned None) ∷ Ok (named (symbol 0)) ∷ Ok (assigned (Some (num 2)))
      ∷ Err (record { number = 2; values = [] }) ∷ Ok unit
      ∷ Ok (written (Some (record { cells = []; ends = []; instances = 1; witnesses = 2; row_count = 0; cell_counts = (0, 0, 0) }))) ∷ []
  -- in Setup a value is there where all that it rests on is kept, whatever the numbers
  pub setup_values : map (λ e. e.answer) (log_of p31 (tables 9 9 0) resting_calls)
      ≡ Ok unit ∷ Ok (named (Instance 1)) ∷ Ok (named (Witness 0)) ∷ Ok (named (symbol 0)) ∷ Ok (named (symbol 1)) ∷ Ok (named (symbol 2)) ∷ Ok (assigned (Some (num 1)))
      ∷ Ok (assigned None) ∷ Ok (assigned None) ∷ Ok (assigned (Some (num 7))) ∷ Ok (assigned None) ∷ Ok (assigned None) ∷ []
  -- one of two outlined lists names the other
  pub nested_run : map (λ e. e.answer) (log_of p31 (tables 60 30 9) nested_calls)
      ≡ Ok unit ∷ Ok (named (Witness 0)) ∷ Ok (named (Witness 1)) ∷ Ok (named (symbol 0)) ∷ Ok (named (symbol 1)) ∷ Ok unit ∷ Ok unit ∷ Ok (unsatisfied None)
      ∷ Ok (assigned (Some (num 11))) ∷ Ok (assigned (Some (num 26))) ∷ Ok (written (Some nested_matrices)) ∷ []
  -- over the other field
  pub gf8_run : map (λ e. e.answer) (log_of gf8 (tables 22 12 3) gf8_calls)
      ≡ Ok unit ∷ Ok (named (Instance 1)) ∷ Ok (named (Witness 0)) ∷ Ok (named (symbol 0)) ∷ Ok unit ∷ Ok unit ∷ Ok (assigned (Some (byte 168)))
      ∷ Ok (unsatisfied (Some 1)) ∷ Ok unit ∷ Ok (unsatisfied (Some 1)) ∷ Ok (assigned (Some (byte 168))) ∷ []
  -- no place for an instance, and a value that is an error
  pub no_place : refusal p31 (tables 14 7 3) circuit (new_input_variable (Err Unsatisfiable)) ≡ by_number 11
  pub error_handed : refusal p31 (tables 14 7 3) circuit (new_witness_variable (Err Unsatisfiable)) ≡ by_number 4
