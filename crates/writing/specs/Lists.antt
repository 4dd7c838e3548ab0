-- What the functions of this crate ask and leave. Assumes nothing.
use Rattle.std.specs.Prelude.{◌≡◌, ℕ, ◌+◌, ◌≤◌, true, cond, List, [], ◌++◌, map, length, Some, None, Option, slice_index_or}
use Rattle.std.specs.List.{list_all, AllByRecursion}
use Rattle.field.specs.Laws.{Model}
use Rattle.variables.specs.declared.Term.{Term}
use Rattle.variables.specs.Questions.{column, column_of}
use Rattle.account.specs.Rows.{Cell, starts_from, cells, concatenated, ends_from, Matrices}
use Rattle.account.specs.Refusals.{limit, writing_refusal}
use Rattle.tables.specs.declared.Counts.{Counts}
use Rattle.tables.specs.declared.Entry.{Entry}
use Rattle.tables.specs.Calls.{Outcome, outcome}
use Rattle.finishing.specs.Sound.{finished_in, finished_fits}
use Rattle.matrices.specs.declared.Cell.{Cell as TableCell}
use Rattle.matrices.specs.declared.ConstraintMatrices.{ConstraintMatrices}
use Rattle.matrices.specs.Writing.{Lent, counts_of, with_matrices}
use Rattle.writing.specs.declared.lists.FinishedLists.{FinishedLists}

-- a term's column is a number of 64 bits
abbrev pub HasColumn : {V : Type 0} → ℕ → Term V → Type 0
HasColumn n t = column_of n t.variable ≡ column n t.variable

abbrev pub HaveColumns : {V : Type 0} → ℕ → List (Term V) → Type 0
HaveColumns n ts = AllByRecursion (HasColumn n) ts

-- the finished lists of entries lie in these terms, which are no more than the limit, and their terms have columns
pub record Lie {V : Type 0} (n : ℕ) (terms : List (Term V)) (entries : List Entry) : Type 0 where
  pub spans : list_all (finished_fits (length terms)) entries ≡ true
  pub columns : AllByRecursion (λ e. HaveColumns n (finished_in terms e)) entries
  pub terms_few : length terms ≤ limit
  pub entries_few : length entries ≤ limit

-- the variables of a circuit are no more than the limit
pub record Counted (counts : Counts) : Type 0 where
  pub instances : counts.instances ≤ limit
  pub witnesses : counts.witnesses ≤ limit

module _ {V : Type 0} where
  -- the finished list of each entry
  abbrev pub found : FinishedLists V → List (List (Term V))
  found l = map (finished_in l.terms.now) l.entries.now

  -- the lists of a matrix: those of the entries marked A, or so many places behind them
  abbrev pub matrix_lists : FinishedLists V → ℕ → List (List (Term V))
  matrix_lists l behind = map (λ k. slice_index_or (found l) (k + behind) []) (starts_from 0 (map (λ e. e.mark) l.entries.now))

module _ {V : Type 0} (m : Model V) where
  -- the cell of a term, or none, as it lies in a table
  abbrev pub cell_where : V → Option ℕ → Option (TableCell V)
  cell_where k None = None
  cell_where k (Some j) = cond (m.same k m.zero) None (Some (record { number = k; column = j }))

  abbrev pub cell_for : ℕ → Term V → Option (TableCell V)
  cell_for n t = cell_where t.number (column n t.variable)

  -- the cells of each row of a matrix
  abbrev pub rows_cells : FinishedLists V → ℕ → List (List (Cell V))
  rows_cells l behind = map (cells m l.witness_offset) (matrix_lists l behind)

  -- the matrices of all rows
  abbrev pub matrices_from : FinishedLists V → Counts → Matrices V
  matrices_from l counts =
      let a = rows_cells l 0 in
      let b = rows_cells l 1 in
      let c = rows_cells l 2 in
      record {
        cells = concatenated (a ++ (b ++ c));
        ends = ends_from 0 (a ++ (b ++ c));
        instances = counts.instances;
        witnesses = counts.witnesses;
        row_count = counts.constraints;
        cell_counts = (length (concatenated a), length (concatenated b), length (concatenated c));
      }

-- matrices written where the places suffice, and else 19
abbrev pub fits_in : {V : Type 0} → Matrices V → Lent V → Outcome (Lent V) ConstraintMatrices
fits_in w t = outcome (writing_refusal (length t.cells) (length t.ends) (Some w)) (counts_of w) (with_matrices (Some w) t) t
