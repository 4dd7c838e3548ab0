-- Laws about what is written of a finished circuit. Assumes nothing.
use Rattle.std.specs.Prelude.{◌≡◌, ℕ, ◌+◌, ◌↔◌, List, map, length, Some, None, Option, slice_index_or}
use Rattle.std.specs.Option.{option_map}
use Rattle.field.specs.Laws.{Model}
use Rattle.account.specs.Rows.{each, concatenated, last_of, cells, Matrices, Marlin, Holds, FirstFailing, rows_at, rows_in}
use Rattle.account.specs.Account.{KeepsMatrices}
use Rattle.account.specs.Calls as calls
use Rattle.account.specs.Refusals.{first}
use Rattle.tables.specs.Held.{State}
use Rattle.tables.specs.Follows.{answer_as}
use Rattle.finishing.specs.Sound.{rows_of}
use Rattle.finishing.specs.Follows.{FollowsFinished}
use Rattle.matrices.specs.declared.ConstraintMatrices.{ConstraintMatrices}
use Rattle.matrices.specs.Writing.{Lent, counts_of, written_in, with_matrices, matrices_at, to_matrices_tests, writing}

-- an answer of a writing as the account has it, where these are the lent tables
abbrev pub as_written : {V : Type 0} → Lent V → Option ConstraintMatrices → calls.Answer V
as_written t answer = calls.written (option_map (written_in t) answer)

module _ {V : Type 0} (m : Model V) where
  open m.ring use {Member, zero, one}

  -- Matrices that are those of the rows in the tables:
  pub record OfRows (s : State V) (w : Matrices V) : Type 0 where
    -- each row is read back as its cells, and a row is counted for each in the tables;
    pub rows : rows_in w ≡ map (each (cells m s.counts.instances)) (rows_of s)
    pub rows_counted : w.row_count ≡ length (rows_of s)
    -- the variables are those of the circuit, and the cells of A, of B and of C are counted;
    pub instances : w.instances ≡ s.counts.instances
    pub witnesses : w.witnesses ≡ s.counts.witnesses
    pub cells_counted : let read = rows_in w in
        w.cell_counts ≡ (length (concatenated (map (λ r. r.a) read)), length (concatenated (map (λ r. r.b) read)), length (concatenated (map (λ r. r.c) read)))
    -- the last row ends past the last cell;
    pub last_end : last_of 0 w.ends ≡ length w.cells
    -- and a vector that begins with one meets Marlin's condition where every row holds: an answer names the first row that fails the one
    -- exactly when it names the first that fails the other.
    pub vectors : (z : List Member) → length z ≡ s.counts.instances + s.counts.witnesses → slice_index_or z 0 zero ≡ one → (answer : Option ℕ)
        → FirstFailing (Marlin m z) (rows_in w) answer ↔ FirstFailing (Holds m) (rows_at m s.counts.instances z (rows_of s)) answer

  -- An answer says that the matrices of the rows lie in the lent tables; it is none exactly in bare mode.
  pub record Writes (s : State V) (t : Lent V) (answer : Option ConstraintMatrices) : Type 0 where
    pub bare : (answer ≡ None) ↔ (KeepsMatrices s.counts.mode → ⊥)
    pub written : (counts : ConstraintMatrices) → answer ≡ Some counts → OfRows s (written_in t counts)

  -- What is written where writing is not refused is so.
  abbrev pub WritesRows : Type 0
  WritesRows = (s : State V) (t : Lent V) → first (to_matrices_tests m s (length t.cells) (length t.ends)) ≡ None
      → let o = matrices_at m s s.counts.mode in Writes s (with_matrices o t) (option_map counts_of o)

  -- Writing answers and refuses as is due by the account that the tables show, where the matrices are read in the lent tables.
  abbrev pub WritingFollows : Type 0
  WritingFollows = (s : State V) (t : Lent V)
      → let o = writing m s t in FollowsFinished m (calls.to_matrices (length t.cells) (length t.ends)) (answer_as (as_written o.state) o.answer) s
