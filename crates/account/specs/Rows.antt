-- Rows, when they hold, and the matrices that are written of them. Assumes nothing.
use Rattle.std.specs.Prelude.{◌≡◌, ℕ, suc, ◌+◌, cond, List, [], ◌∷◌, ◌++◌, map, length, fold, Some, None, Option, ◌==◌, slice_index_or, slice_range}
use Rattle.std.specs.List.{flat_map, range_with_len, AllByRecursion}
use Rattle.field.specs.Laws.{Model}
use Rattle.variables.specs.declared.Variable.TheVariants.{One, Witness}
use Rattle.variables.specs.declared.Term.{Term}
use Rattle.variables.specs.Questions.{column}
use Rattle.variables.specs.Worth.{value, worth}
use Rattle.account.specs.declared.Mark.{Mark}
use Rattle.account.specs.declared.Mark.TheVariants.{A, B, C}
use Rattle.account.specs.Given.{Given, marks, lists}
use Rattle.account.specs.Worths.{worths}
use Rattle.account.specs.Finish.{Outlined, Finishing, single}

pub record Row (X : Type 0) : Type 0 where
  pub a : X
  pub b : X
  pub c : X

abbrev pub each : {X Y : Type 0} → (X → Y) → Row X → Row Y
each f r = record { a = f r.a; b = f r.b; c = f r.c }

-- the entries marked A, of those from k on
abbrev pub starts_from : ℕ → List Mark → List ℕ
starts_from k [] = []
starts_from k (A ∷ ms) = k ∷ starts_from (suc k) ms
starts_from k (other ∷ ms) = starts_from (suc k) ms

-- what stands at k and the two places after it
abbrev pub row_at : {X : Type 0} → X → List X → ℕ → Row X
row_at d xs k = record { a = slice_index_or xs k d; b = slice_index_or xs (k + 1) d; c = slice_index_or xs (k + 2) d }

-- row j is the j-th entry marked A with the two after it
abbrev pub rows : {X : Type 0} → X → List Mark → List X → List (Row X)
rows d marks xs = map (row_at d xs) (starts_from 0 marks)

-- the constraints as they were written
abbrev pub constraints : {V : Type 0} → List (Given V) → List (Row (List (Term V)))
constraints given = rows [] (marks given) (lists given)

-- the marks of some added rows, and their lists, three for each row
abbrev pub row_marks : {X : Type 0} → List X → List Mark
row_marks [] = []
row_marks (x ∷ xs) = A ∷ B ∷ C ∷ row_marks xs

abbrev pub row_lists : {X : Type 0} → List (Row X) → List X
row_lists [] = []
row_lists (r ∷ rs) = r.a ∷ r.b ∷ r.c ∷ row_lists rs

-- the rows of a finished circuit: `finished` has the finished lists of the given entries, and then three lists for each of `added`
abbrev pub finished_rows : {V X : Type 0} → List (Given V) → List (List (Term V)) → List X → List (Row (List (Term V)))
finished_rows given finished added = rows [] (marks given ++ row_marks added) finished

-- row j is the first that fails
abbrev pub FailsFirst : {X : Type 0} → (X → Type 0) → List X → ℕ → Type 0
FailsFirst Holds [] j = ⊥
FailsFirst Holds (r ∷ rs) ℕ.zero = Holds r → ⊥
FailsFirst Holds (r ∷ rs) (suc j) = Holds r × FailsFirst Holds rs j

-- what a check answers: the first row that fails, and none where all hold
abbrev pub FirstFailing : {X : Type 0} → (X → Type 0) → List X → Option ℕ → Type 0
FirstFailing Holds rs None = AllByRecursion Holds rs
FirstFailing Holds rs (Some j) = FailsFirst Holds rs j

-- what a matrix keeps of a term
pub record Cell (V : Type 0) : Type 0 where
  pub number : V
  pub column : ℕ

-- What writing answers: the cells of A, then of B, then of C; for each row of A, then of B, then of C the place past its last cell; how
-- many instances, witnesses and rows there are; and how many cells A, B and C have.
pub record Matrices (V : Type 0) : Type 0 where
  pub cells : List (Cell V)
  pub ends : List ℕ
  pub instances : ℕ
  pub witnesses : ℕ
  pub row_count : ℕ
  pub cell_counts : ℕ × ℕ × ℕ

-- the place past each of some lists that lie one after the other from place k on
abbrev pub ends_from : {X : Type 0} → ℕ → List (List X) → List ℕ
ends_from k [] = []
ends_from k (l ∷ ls) = (k + length l) ∷ ends_from (k + length l) ls

-- the last of some, or what was there before them
abbrev pub last_of : {X : Type 0} → X → List X → X
last_of before xs = fold (λ old new. new) before xs

abbrev pub concatenated : {X : Type 0} → List (List X) → List X
concatenated ls = flat_map (λ l. l) ls

-- the lists that lie one after the other from place k on, by the place past each
abbrev pub parts_from : {X : Type 0} → ℕ → List ℕ → List X → List (List X)
parts_from k [] xs = []
parts_from k (end ∷ ends) xs = slice_range xs k end ∷ parts_from end ends xs

-- the rows as they are read back from what was written: row j of A, of B and of C
abbrev pub rows_in : {V : Type 0} → Matrices V → List (Row (List (Cell V)))
rows_in w =
    let parts = parts_from 0 w.ends w.cells in
    map (λ j. record { a = slice_index_or parts j []; b = slice_index_or parts (w.row_count + j) []; c = slice_index_or parts (w.row_count + w.row_count + j) [] }) (range_with_len 0 w.row_count)

module _ {V : Type 0} (m : Model V) where
  open m.ring use {Member, zero, ◌⊕◌, ◌⊗◌}

  infixl 50 ◌⊕◌
  infixl 60 ◌⊗◌
  -- worth a times worth b is worth c
  abbrev pub Holds : Row Member → Type 0
  Holds r = r.a ⊗ r.b ≡ r.c

  -- what the three lists of each constraint are worth under a vector of n instances and then the witnesses, symbol k being list k
  abbrev pub constraints_at : ℕ → List Member → List (List (Term V)) → List (Row (List (Term V))) → List (Row Member)
  constraints_at n z lists cs = map (each (worth m (value m n z (worths m n z lists)))) cs

  -- what the lists of each row are worth, which name no symbol
  abbrev pub rows_at : ℕ → List Member → List (Row (List (Term V))) → List (Row Member)
  rows_at n z rs = map (each (worth m (value m n z []))) rs

  -- an added witness is to equal its merged list
  abbrev pub added_row : Outlined V → Row (List (Term V))
  added_row o = record { a = o.merged; b = single m One; c = single m (Witness o.witness) }

  -- the finished list of each entry, and then the three of each added row
  abbrev pub finished_lists : Finishing V → List (List (Term V))
  finished_lists f = f.finished ++ row_lists (map added_row f.outlined)

  -- The cell of a term: the witnesses come after the n instances. A number that stands for zero and the variable Zero, which has no
  -- column, give no cell, nor would a symbol, of which a finished row has none.
  abbrev pub cell_at : V → Option ℕ → List (Cell V)
  cell_at k None = []
  cell_at k (Some j) = cond (m.same k m.zero) [] (record { number = k; column = j } ∷ [])

  abbrev pub cells : ℕ → List (Term V) → List (Cell V)
  cells n ts = flat_map (λ t. cell_at t.number (column n t.variable)) ts

  -- the matrix entry of a row at column j: the cells of one column add up
  abbrev pub entry_at : List (Cell V) → ℕ → Member
  entry_at [] j = zero
  entry_at (c ∷ cs) j = cond (c.column == j) (m.stands c.number ⊕ entry_at cs j) (entry_at cs j)

  -- the sum over the columns of matrix entry times vector entry, where the vector begins at column j
  abbrev pub product_from : ℕ → List (Cell V) → List Member → Member
  product_from j cs [] = zero
  product_from j cs (x ∷ z) = entry_at cs j ⊗ x ⊕ product_from (suc j) cs z

  -- Marlin's condition at a row: (Az)(Bz) = Cz
  abbrev pub Marlin : List Member → Row (List (Cell V)) → Type 0
  Marlin z r = Holds (each (λ cs. product_from 0 cs z) r)

  -- what is written of finished rows, over n instances and w witnesses, the added ones among them
  abbrev pub matrices : ℕ → ℕ → List (Row (List (Term V))) → Matrices V
  matrices n w finished =
      let a = map (λ r. cells n r.a) finished in
      let b = map (λ r. cells n r.b) finished in
      let c = map (λ r. cells n r.c) finished in
      record {
        cells = concatenated (a ++ (b ++ c));
        ends = ends_from 0 (a ++ (b ++ c));
        instances = n;
        witnesses = w;
        row_count = length finished;
        cell_counts = (length (concatenated a), length (concatenated b), length (concatenated c));
      }
