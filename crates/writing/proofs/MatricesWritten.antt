-- Three matrices written one after the other, where their places suffice. Assumes nothing.
use Rattle.std.proofs.Common.{◌≡◌, ℕ, ◌+◌, ◌*◌, ◌<◌, ◌≤◌, Bool, true, false, List, [], ◌∷◌, ◌++◌, map, length, get_or, drop, Some, Ok, Err, sym, refl, ap, ap₂, ◌∙◌, append_assoc, arith, length-append}
use mathlib.Core.List.{map-append}
use lib.ListN.{length-map}
use Rattle.std.proofs.lemmas.Bool.{lt-ltb, le-ltb}
use Rattle.std.proofs.lemmas.List.Concat.{flat_map-append}
use Rattle.field.specs.Laws.{Model}
use Rattle.variables.specs.Refusals.{number_alone}
use Rattle.account.specs.Rows.{Cell, Matrices, cells, starts_from, concatenated, ends_from}
use Rattle.account.specs.Finish.{lacks}
use Rattle.account.specs.Refusals.{limit, when, first}
use Rattle.tables.specs.declared.Counts.{Counts}
use Rattle.tables.specs.Held.{put}
use Rattle.tables.specs.Calls.{Outcome, outcome}
use Rattle.matrices.specs.declared.Cell.{Cell as TableCell}
use Rattle.matrices.specs.declared.ConstraintMatrices.{ConstraintMatrices}
use Rattle.matrices.specs.Writing.{Lent, placed, over, counts_of, with_matrices}
use Rattle.writing.specs.declared.lists.FinishedLists.{FinishedLists}
use Rattle.writing.specs.Lists.{Lie, found, matrix_lists, rows_cells, matrices_from, fits_in}
use Rattle.writing.proofs.Places.{put_behind, cells_long, ends_long, ends_append}
use Rattle.writing.proofs.RowsWritten.{starts_few}

-- three lists written in turn, from the first place on
three_put : {X : Type 0} (xs : List X) (p q : ℕ) (front middle back : List X) → length front + length middle + length back ≤ length xs
    → p ≡ length front → q ≡ length front + length middle
    → put (put (put xs 0 front) p middle) q back ≡ over xs (front ++ (middle ++ back))
three_put xs p q front middle back fits is_p is_q =
    let two : length (front ++ middle) ≡ length front + length middle = length-append front middle in
    ap (λ l. put l q back) (put_behind xs 0 p front middle (omega arith) (omega arith))
    ∙ put_behind xs 0 q (front ++ middle) back (omega (arith, two)) (omega (arith, two))
    ∙ ap (put xs 0) (append_assoc front middle back) ∙ ap (λ n. front ++ (middle ++ back) ++ drop n xs) (omega arith)

module _ {V : Type 0} (m : Model V) (l : FinishedLists V) (counts : Counts) (rows : length (matrix_lists l 0) ≡ counts.constraints) where
  abbrev a : List (List (Cell V))
  a = rows_cells m l 0

  abbrev b : List (List (Cell V))
  b = rows_cells m l 1

  abbrev c : List (List (Cell V))
  c = rows_cells m l 2

  -- their cells
  abbrev in_a : List (Cell V)
  in_a = concatenated a

  abbrev in_b : List (Cell V)
  in_b = concatenated b

  abbrev in_c : List (Cell V)
  in_c = concatenated c

  abbrev w : Matrices V
  w = matrices_from m l counts

  -- a matrix has a row for each constraint
  pub rows_long : (behind : ℕ) → length (rows_cells m l behind) ≡ counts.constraints
  rows_long behind =
      let starts = starts_from 0 (map (λ e. e.mark) l.entries.now) in
      let many = length-map starts (λ k. get_or (found l) (k + 0) []) in
      omega (
        arith,
        many,
        length-map (matrix_lists l behind) (cells m l.witness_offset),
        length-map starts (λ k. get_or (found l) (k + behind) []),
        rows,
      )

  -- constraints are no more than the limit
  pub rows_few : Lie l.witness_offset l.terms.now l.entries.now → counts.constraints ≤ limit
  rows_few lie =
      let marks = map (λ e. e.mark) l.entries.now in
      omega (
        arith,
        rows,
        length-map (starts_from 0 marks) (λ k. get_or (found l) (k + 0) []),
        starts_few marks 0,
        length-map l.entries.now (λ e. e.mark),
        lie.entries_few,
      )

  all_cells : concatenated (a ++ (b ++ c)) ≡ in_a ++ (in_b ++ in_c)
  all_cells = flat_map-append (λ l. l) a (b ++ c) ∙ ap (λ l. in_a ++ l) (flat_map-append (λ l. l) b c)

  all_ends : w.ends ≡ ends_from 0 a ++ (ends_from (0 + length in_a) b ++ ends_from (0 + length in_a + length in_b) c)
  all_ends = ends_append a (b ++ c) 0 ∙ ap (λ l. ends_from 0 a ++ l) (ends_append b c (0 + length in_a))

  cells_due : length w.cells ≡ length in_a + length in_b + length in_c
  cells_due = omega (arith, cells_long a (b ++ c), cells_long b c)

  ends_due : length w.ends ≡ 3 * counts.constraints
  ends_due =
      omega (
        arith,
        ends_long (a ++ (b ++ c)) 0,
        length-append a (b ++ c),
        length-append b c,
        rows_long 0,
        rows_long 1,
        rows_long 2,
      )

  module _ (t : Lent V) where
    abbrev asked : (short_of_cells short_of_ends : Bool) → Outcome (Lent V) ConstraintMatrices
    asked p q = outcome (first (when p 19 ∷ when q 19 ∷ [])) (counts_of w) (with_matrices (Some w) t) t

    abbrev refusing : Outcome (Lent V) ConstraintMatrices
    refusing = record { answer = Err (number_alone 19); state = t }

    second : (p : Bool) → asked p true ≡ refusing
    second true = refl
    second false = refl

    -- 19, where the cells or the ends do not suffice
    pub short_of_cells : length t.cells < length in_a + length in_b + length in_c → fits_in w t ≡ refusing
    short_of_cells lt = ap (λ p. asked p (lacks (length w.ends) (length t.ends))) (lt-ltb _ _ (omega (arith, cells_due, lt)))

    pub short_of_ends : length t.ends < 3 * counts.constraints → fits_in w t ≡ refusing
    short_of_ends lt =
        ap (asked (lacks (length w.cells) (length t.cells))) (lt-ltb _ _ (omega (arith, ends_due, lt)))
        ∙ second (lacks (length w.cells) (length t.cells))

    -- else all three are written
    module _ (cells_fit : length in_a + length in_b + length in_c ≤ length t.cells) (ends_fit : 3 * counts.constraints ≤ length t.ends) where
      fitting : fits_in w t ≡ record { answer = Ok (counts_of w); state = with_matrices (Some w) t }
      fitting =
          ap₂ asked (le-ltb (length t.cells) (length w.cells) (omega (arith, cells_due, cells_fit)))
          (le-ltb (length t.ends) (length w.ends) (omega (arith, ends_due, ends_fit)))

      cells_written : (p q : ℕ) → p ≡ 0 + length in_a → q ≡ p + length in_b
          → put (put (put t.cells 0 (map placed in_a)) p (map placed in_b)) q (map placed in_c) ≡ over t.cells (map placed w.cells)
      cells_written p q is_p is_q =
          let long : (ls : List (List (Cell V))) → length (map (placed {V = V}) (concatenated ls)) ≡ length (concatenated ls)
          = λ ls. length-map (concatenated ls) (placed {V = V}) in
          let both = map-append placed in_b in_c in
          three_put t.cells p q (map placed in_a) (map placed in_b) (map placed in_c)
          (omega (arith, long a, long b, long c, cells_fit)) (omega (arith, long a, is_p)) (omega (arith, long a, long b, is_p, is_q))
          ∙ ap (over t.cells)
          (sym (ap (map placed) all_cells ∙ map-append placed in_a (in_b ++ in_c) ∙ ap (λ r. map placed in_a ++ r) both))

      ends_written : (p q : ℕ) → p ≡ 0 + length in_a → q ≡ p + length in_b
          → put (put (put t.ends 0 (ends_from 0 a)) counts.constraints (ends_from p b)) (2 * counts.constraints) (ends_from q c) ≡ over t.ends w.ends
      ends_written p q is_p is_q =
          three_put t.ends counts.constraints (2 * counts.constraints) (ends_from 0 a) (ends_from p b) (ends_from q c)
          (omega (arith, ends_long a 0, ends_long b p, ends_long c q, rows_long 0, rows_long 1, rows_long 2, ends_fit))
          (omega (arith, ends_long a 0, rows_long 0)) (omega (arith, ends_long a 0, ends_long b p, rows_long 0, rows_long 1))
          ∙ ap (over t.ends)
          (ap₂ (λ i j. ends_from 0 a ++ (ends_from i b ++ ends_from j c)) is_p (is_q ∙ ap (λ i. i + length in_b) is_p) ∙ sym all_ends)

      pub all_written : {p q i j k : ℕ} {cells_a cells_b cells_c : List (TableCell V)} {ends_a ends_b ends_c : List ℕ}
          → i ≡ length in_a → j ≡ length in_b → k ≡ length in_c → p ≡ 0 + length in_a → q ≡ p + length in_b
          → cells_a ≡ put t.cells 0 (map placed in_a) → cells_b ≡ put cells_a p (map placed in_b) → cells_c ≡ put cells_b q (map placed in_c)
          → ends_a ≡ put t.ends 0 (ends_from 0 a) → ends_b ≡ put ends_a counts.constraints (ends_from p b)
          → ends_c ≡ put ends_b (2 * counts.constraints) (ends_from q c)
          → fits_in w t ≡ record {
            answer = Ok (record {
              num_instance_variables = counts.instances;
              num_witness_variables = counts.witnesses;
              num_constraints = counts.constraints;
              num_non_zero = (i, j, k);
            });
            state = record { cells = cells_c; ends = ends_c };
          }
      all_written {p = p} {q = q} is_i is_j is_k is_p is_q ca cb cc ea eb ec =
          let cells_same = cc ∙ ap (λ l. put l q (map placed in_c)) (cb ∙ ap (λ l. put l p (map placed in_b)) ca) ∙ cells_written p q is_p is_q in
          let ends_same = ec
          ∙ ap (λ l. put l (2 * counts.constraints) (ends_from q c)) (eb ∙ ap (λ l. put l counts.constraints (ends_from p b)) ea)
          ∙ ends_written p q is_p is_q in
          fitting ∙ (λ x. record {
            answer = Ok (record {
              num_instance_variables = counts.instances;
              num_witness_variables = counts.witnesses;
              num_constraints = counts.constraints;
              num_non_zero = (sym is_i x, sym is_j x, sym is_k x);
            });
            state = record { cells = sym cells_same x; ends = sym ends_same x };
          })
