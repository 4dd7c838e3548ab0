-- Writing the matrices of a finished circuit: when it is refused, what it answers, and what the lent tables then hold. Assumes nothing.
use Rattle.std.specs.Prelude.{ℕ, ◌+◌, ◌*◌, false, List, [], ◌∷◌, ◌++◌, map, length, take, drop, Some, None, Option}
use Rattle.std.specs.Option.{option_map}
use Rattle.field.specs.Laws.{Model}
use Rattle.variables.specs.Refusals.{Told}
use Rattle.account.specs.declared.SynthesisMode.{SynthesisMode}
use Rattle.account.specs.declared.SynthesisMode.TheVariants.{Prove}
use Rattle.account.specs.Rows.{Cell, Matrices, matrices}
use Rattle.account.specs.Refusals.{first, writing_refusal}
use Rattle.tables.specs.Held.{State}
use Rattle.tables.specs.Calls.{Outcome, outcome}
use Rattle.finishing.specs.Sound.{rows_of}
use Rattle.finishing.specs.Checks.{unsound_finished}
use Rattle.matrices.specs.declared.Cell.{Cell as TableCell}
use Rattle.matrices.specs.declared.ConstraintMatrices.{ConstraintMatrices}

-- a cell as it lies in a table
abbrev pub placed : {V : Type 0} → Cell V → TableCell V
placed c = record { number = c.number; column = c.column }

abbrev pub cell_in : {V : Type 0} → TableCell V → Cell V
cell_in c = record { number = c.number; column = c.column }

-- ys from the first place of a table on, and then what was there
abbrev pub over : {X : Type 0} → List X → List X → List X
over xs ys = ys ++ drop (length ys) xs

-- the two tables that are lent to a writing
pub record Lent (V : Type 0) : Type 0 where
  pub cells : List (TableCell V)
  pub ends : List ℕ

abbrev pub lent : {V : Type 0} → List (TableCell V) → List ℕ → Lent V
lent cells ends = record { cells = cells; ends = ends }

-- the counts of matrices, which a writing answers
abbrev pub counts_of : {V : Type 0} → Matrices V → ConstraintMatrices
counts_of w = record {
  num_instance_variables = w.instances;
  num_witness_variables = w.witnesses;
  num_constraints = w.row_count;
  num_non_zero = w.cell_counts;
}

-- what lies in lent tables, where these are the counts: the cells, and three ends for each row
abbrev pub written_in : {V : Type 0} → Lent V → ConstraintMatrices → Matrices V
written_in t counts =
    let n = counts.num_non_zero in
    record {
      cells = map cell_in (take (n.0 + n.1 + n.2) t.cells);
      ends = take (3 * counts.num_constraints) t.ends;
      instances = counts.num_instance_variables;
      witnesses = counts.num_witness_variables;
      row_count = counts.num_constraints;
      cell_counts = n;
    }

-- matrices written into lent tables, from the first place on; past them stays what was there, and where there are none all does
abbrev pub with_matrices : {V : Type 0} → Option (Matrices V) → Lent V → Lent V
with_matrices None t = t
with_matrices (Some w) t = record { cells = over t.cells (map placed w.cells); ends = over t.ends w.ends }

module _ {V : Type 0} (m : Model V) (s : State V) where
  -- the matrices of a finished circuit over tables; in bare mode none
  abbrev pub matrices_at : SynthesisMode → Option (Matrices V)
  matrices_at (Prove false) = None
  matrices_at other = Some (matrices m s.counts.instances s.counts.witnesses (rows_of s))

  -- the tests in their order: 17, and then 19 where the cells or the row ends do not suffice
  abbrev pub to_matrices_tests : (cells ends : ℕ) → List (Option Told)
  to_matrices_tests cells ends = unsound_finished s ∷ writing_refusal cells ends (matrices_at s.counts.mode) ∷ []

  -- what is answered, and what the lent tables then hold
  abbrev pub writing : Lent V → Outcome (Lent V) (Option ConstraintMatrices)
  writing t =
      let written = matrices_at s.counts.mode in
      outcome (first (to_matrices_tests (length t.cells) (length t.ends))) (option_map counts_of written) (with_matrices written t) t
