-- What outlining leaves of the lent tables. Assumes nothing.
use Rattle.std.proofs.Common.{◌≡◌, ℕ, ◌+◌, ◌≤◌, List, [], ◌∷◌, ◌++◌, length, take, drop, None, sym, ap, ap₂, ◌∙◌, append_assoc, arith, length-drop}
use Rattle.std.specs.Prelude.{slice_set}
use Rattle.std.proofs.lemmas.List.{length-set, length-take-le, take-take, drop-take, take-append-drop, take_more_set}
use Rattle.field.specs.Laws.{Model}
use Rattle.variables.specs.declared.Variable.TheVariants.{One, Witness}
use Rattle.variables.specs.declared.Term.{Term}
use Rattle.variables.specs.Terms.{once}
use Rattle.variables.specs.Evaluate.{read, evaluated}
use Rattle.account.specs.Refusals.{first, value_places}
use Rattle.account.proofs.Refuses.{enough, first_none}
use Rattle.tables.specs.declared.Counts.{Counts}
use Rattle.tables.specs.declared.Entry.{Entry}
use Rattle.tables.specs.Held.{State, put}
use Rattle.finishing.specs.Layout.{with_finished, row_entries}
use Rattle.finishing.specs.Steps.{trimmed, entry_at, with_added, outlined_at}
use Rattle.finalising.specs.Lent.{lent, row_tests}

-- what is there where an added row finds its places
pub row_room : (c : Counts) (end terms entries witnesses : ℕ) → first (row_tests c end terms entries witnesses) ≡ None
    → (end + 2 ≤ terms) × (c.witnesses + 1 ≤ value_places c.mode witnesses) × (c.entries + 3 ≤ entries)
row_room c end terms entries witnesses e =
    let tests = first_none (row_tests c end terms entries witnesses) e in (enough _ _ 14 tests.0, enough _ _ 12 tests.1.0, enough _ _ 13 tests.1.1.0)

module _ {X : Type 0} (xs : List X) (k n : ℕ) where
  -- the places below k, and n more
  pub take_split : take (k + n) xs ≡ take k xs ++ take n (drop k xs)
  take_split =
      sym (take-append-drop k (take (k + n) xs))
      ∙ ap₂ (λ (a b : List X). a ++ b) (take-take k (k + n) xs (omega arith)) (drop-take k n xs)

  part_long : k + n ≤ length xs → length (take n (drop k xs)) ≡ n
  part_long h = length-take-le n (drop k xs) (omega (arith, length-drop k xs))

  -- two written behind them
  take_two_more : (y z : X) → k + n + 2 ≤ length xs
      → take (k + n + 2) (slice_set (slice_set xs (k + n) y) (k + n + 1) z) ≡ take k xs ++ take n (drop k xs) ++ y ∷ z ∷ []
  take_two_more y z h =
      let two : k + n + 2 ≡ k + n + 1 + 1 = omega arith in
      ap (λ i. take i (slice_set (slice_set xs (k + n) y) (k + n + 1) z)) two
      ∙ take_more_set (slice_set xs (k + n) y) (k + n + 1) z (omega (arith, length-set xs (k + n) y))
      ∙ ap (λ l. l ++ z ∷ []) (take_more_set xs (k + n) y (omega arith) ∙ ap (λ l. l ++ y ∷ []) take_split)
      ∙ append_assoc (take k xs ++ take n (drop k xs)) (y ∷ []) (z ∷ [])

-- outlining the merged list of entry `at`: the `len` terms behind those in use
module _ {V : Type 0} (m : Model V) (b : State V) (at len : ℕ) where
  abbrev merged : List (Term V)
  merged = take len (drop b.counts.terms b.tables.terms)

  abbrev written : List (Term V)
  written = take b.counts.terms b.tables.terms ++ merged ++ once m One ∷ once m (Witness b.counts.witnesses) ∷ []

  abbrev counts_after : ℕ → Counts
  counts_after n =
      let c = b.counts in record c { witnesses = c.witnesses + 1; constraints = c.constraints + 1; entries = c.entries + 3; terms = c.terms + n + 2 }

  abbrev noted : ℕ → List Entry
  noted n = slice_set b.tables.index at (with_finished (b.counts.terms + n + 1) 1 (entry_at b at))

  abbrev with_row : List Entry → ℕ → List Entry
  with_row es n = put es b.counts.entries (row_entries b.counts.terms n)

  abbrev values_after : List V
  values_after =
      let w = b.counts.witnesses in
      with_added b.counts.mode (evaluated m (read m b.tables.instances (take w b.tables.witnesses) []) merged) w b.tables.witnesses

  pub outline_leaves : b.counts.terms + len + 2 ≤ length b.tables.terms
      → (one new : Term V) → one ≡ once m One → new ≡ once m (Witness b.counts.witnesses)
      → (es fs : List Entry) → es ≡ noted len → fs ≡ with_row es len → (values : List V) → values ≡ values_after
      → let terms = slice_set (slice_set b.tables.terms (b.counts.terms + len) one) (b.counts.terms + len + 1) new in
      trimmed (lent (counts_after len) terms fs b.tables.instances values) ≡ outlined_at m (trimmed b) at merged
  outline_leaves fits one new o w es fs e f values v =
      let long : len ≡ length merged = sym (part_long b.tables.terms b.counts.terms len (omega arith)) in
      let terms =
      take_two_more b.tables.terms b.counts.terms len one new fits ∙ ap₂ (λ x y. take b.counts.terms b.tables.terms ++ merged ++ x ∷ y ∷ []) o w in
      let entries = f ∙ ap (λ (l : List Entry). with_row l len) e in
      (λ i. lent (counts_after len) (terms i) (entries i) b.tables.instances (v i))
      ∙ (λ i. lent (counts_after (long i)) written (with_row (noted (long i)) (long i)) b.tables.instances values_after)
