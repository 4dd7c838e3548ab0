-- Matrices that were written into lent tables are read there again. Assumes nothing.
use Rattle.std.proofs.Common.{◌≡◌, ℕ, ◌+◌, ◌*◌, List, [], ◌∷◌, map, length, take, drop, true, false, Some, refl, ap, ◌∙◌, ap₂, arith}
use lib.ListN.{length-map}
use Rattle.std.proofs.lemmas.List.{take-append-le, take_all}
use Rattle.std.specs.Option.{option_map}
use Rattle.field.specs.Laws.{Model}
use Rattle.variables.specs.declared.Term.{Term}
use Rattle.account.specs.declared.SynthesisMode.{SynthesisMode}
use Rattle.account.specs.declared.SynthesisMode.TheVariants.{Setup, Prove}
use Rattle.account.specs.Rows.{Row, Cell, matrices}
use Rattle.account.proofs.ReadsBack.{read_back}
use Rattle.tables.specs.Held.{State}
use Rattle.finishing.specs.Sound.{rows_of}
use Rattle.matrices.specs.Writing.{placed, cell_in, over, Lent, counts_of, written_in, with_matrices, matrices_at}

-- what lies in a table from the first place on
over_back : {X : Type 0} (xs ys : List X) (k : ℕ) → length ys ≡ k → take k (over xs ys) ≡ ys
over_back xs ys k e = take-append-le k ys (drop (length ys) xs) (omega arith) ∙ take_all k ys (omega arith)

-- cells are the same in a table
cells_back : {V : Type 0} (cs : List (Cell V)) → map cell_in (map placed cs) ≡ cs
cells_back [] = refl
cells_back (c ∷ cs) = ap (λ l. c ∷ l) (cells_back cs)

module _ {V : Type 0} (m : Model V) where
  -- the matrices of some rows are read again by their counts, whatever else the lent tables hold
  pub written_back : (n w : ℕ) (rs : List (Row (List (Term V)))) (t : Lent V)
      → written_in (with_matrices (Some (matrices m n w rs)) t) (counts_of (matrices m n w rs)) ≡ matrices m n w rs
  written_back n w rs t =
      let given = matrices m n w rs in
      let counts = given.cell_counts in
      let back = read_back m n w rs in
      let long : length (map placed given.cells) ≡ counts.0 + counts.1 + counts.2 = length-map given.cells placed ∙ back.cells_counted in
      ap₂ (λ cells ends. record given { cells = cells; ends = ends })
      (ap (map cell_in) (over_back t.cells (map placed given.cells) _ long) ∙ cells_back given.cells)
      (over_back t.ends given.ends (3 * length rs) back.ends_counted)

  -- and so are those of a finished circuit, where it has any
  pub option_back : (s : State V) (t : Lent V) (mode : SynthesisMode)
      → option_map (written_in (with_matrices (matrices_at m s mode) t)) (option_map counts_of (matrices_at m s mode)) ≡ matrices_at m s mode
  option_back s t Setup = ap Some (written_back s.counts.instances s.counts.witnesses (rows_of s) t)
  option_back s t (Prove true) = ap Some (written_back s.counts.instances s.counts.witnesses (rows_of s) t)
  option_back s t (Prove false) = refl
