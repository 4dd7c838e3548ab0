-- A row of a matrix times a vector is what the row's list is worth. Assumes nothing.
use Rattle.std.proofs.Common.{◌≡◌, ℕ, suc, ◌+◌, ◌<◌, Bool, true, false, cond, eqb, ◌↔◌, List, [], ◌∷◌, ◌++◌, map, length, get_or, Some, None, Option, sym, refl, ap, ◌∙◌, subst, ap₂, arith}
use Rattle.std.specs.List.{AllByRecursion}
use Rattle.std.proofs.lemmas.Bool.{cond_both, cond-true, cond-false, eq-eqb, ne_eqb}
use Rattle.field.specs.Laws.{Model, Keeps}
use Rattle.variables.specs.declared.Variable.{Variable}
use Rattle.variables.specs.declared.Variable.TheVariants.{Zero, One, Instance, Witness, SymbolicLc}
use Rattle.variables.specs.declared.Term.{Term}
use Rattle.variables.specs.Questions.{column}
use Rattle.variables.specs.Worth.{value, worth}
use Rattle.variables.specs.Evaluate.{SymbolFree}
use Rattle.account.specs.Rows.{Row, each, FailsFirst, FirstFailing, Holds, Cell, cell_at, cells, entry_at, product_from, Marlin}
use Rattle.field.proofs.Rings.{zero_plus, times_zero, zero_times, plus_times, plus_four}
use Rattle.account.proofs.Counts.{Only}

module _ {V : Type 0} {m : Model V} (keeps : Keeps m) where
  open m.ring use {Member, zero, one, ◌⊕◌ as add, ◌⊗◌ as mul}

  entry_more : (c : Cell V) (cs : List (Cell V)) (j : ℕ) → entry_at m (c ∷ cs) j ≡ add (entry_at m (c ∷ []) j) (entry_at m cs j)
  entry_more c cs j = by (eqb c.column j)
    where
      k : Member
      k = m.stands c.number

      by : (b : Bool) → cond b (add k (entry_at m cs j)) (entry_at m cs j) ≡ add (cond b (add k zero) zero) (entry_at m cs j)
      by true = ap (λ x. add x (entry_at m cs j)) (sym (keeps.laws.plus_zero k))
      by false = sym (zero_plus keeps.laws _)

  product_more : (c : Cell V) (cs : List (Cell V)) (z : List Member) (j : ℕ) → product_from m j (c ∷ cs) z ≡ add (product_from m j (c ∷ []) z) (product_from m j cs z)
  product_more c cs [] j = sym (keeps.laws.plus_zero zero)
  product_more c cs (x ∷ z) j =
      ap₂ add (ap (λ e. mul e x) (entry_more c cs j) ∙ plus_times keeps.laws _ _ x) (product_more c cs z (suc j)) ∙ plus_four keeps.laws _ _ _ _

  product_none : (z : List Member) (j : ℕ) → product_from m j [] z ≡ zero
  product_none [] j = refl
  product_none (x ∷ z) j = ap₂ add (zero_times keeps.laws x) (product_none z (suc j)) ∙ keeps.laws.plus_zero zero

  product_append : (cs ds : List (Cell V)) (z : List Member) → product_from m 0 (cs ++ ds) z ≡ add (product_from m 0 cs z) (product_from m 0 ds z)
  product_append [] ds z = sym (zero_plus keeps.laws _) ∙ ap (λ x. add x (product_from m 0 ds z)) (sym (product_none z 0))
  product_append (c ∷ cs) ds z =
      product_more c (cs ++ ds) z 0 ∙ ap (add _) (product_append cs ds z) ∙ sym (keeps.laws.plus_assoc _ _ _) ∙ ap (λ x. add x (product_from m 0 ds z)) (sym (product_more c cs z 0))

  -- a cell's column adds nothing where it is not met
  entry_missed : (c : Cell V) (j : ℕ) → (c.column ≡ j → ⊥) → entry_at m (c ∷ []) j ≡ zero
  entry_missed c j h = cond-false (eqb c.column j) _ _ (ne_eqb c.column j h)

  product_past : (c : Cell V) (z : List Member) (j : ℕ) → c.column < j → product_from m j (c ∷ []) z ≡ zero
  product_past c [] j h = refl
  product_past c (x ∷ z) j h =
      ap₂ add (ap (λ e. mul e x) (entry_missed c j (λ e. omega arith)) ∙ zero_times keeps.laws x) (product_past c z (suc j) (omega arith)) ∙ keeps.laws.plus_zero zero

  product_one : (c : Cell V) (z : List Member) (j i : ℕ) → c.column ≡ j + i → i < length z → product_from m j (c ∷ []) z ≡ mul (m.stands c.number) (get_or z i zero)
  product_one c [] j i e h = absurd (omega arith)
  product_one c (x ∷ z) j ℕ.zero e h =
      let met : entry_at m (c ∷ []) j ≡ m.stands c.number = cond-true (eqb c.column j) _ _ (eq-eqb c.column j (omega arith)) ∙ keeps.laws.plus_zero _ in
      ap₂ add (ap (λ y. mul y x) met) (product_past c z (suc j) (omega arith)) ∙ keeps.laws.plus_zero _
  product_one c (x ∷ z) j (suc i) e h =
      ap₂ add (ap (λ y. mul y x) (entry_missed c j (λ q. omega arith)) ∙ zero_times keeps.laws x) (product_one c z (suc j) i (omega arith) (omega arith)) ∙ zero_plus keeps.laws _

  module _ (n w : ℕ) (z : List Member) (long : length z ≡ n + w) (first : get_or z 0 zero ≡ one) where
    some : 0 < length z
    some = go z first
      where
        go : (z : List Member) → get_or z 0 zero ≡ one → 0 < length z
        go [] e = absurd (keeps.laws.one_not_zero (sym e))
        go (x ∷ z) e = omega arith

    nonzero_worth : (k : V) (j : ℕ) → j < length z → product_from m 0 (cell_at m k (Some j)) z ≡ mul (m.stands k) (get_or z j zero)
    nonzero_worth k j h =
        cond_both (m.same k m.zero) _ _ (λ cs. product_from m 0 cs z ≡ mul (m.stands k) (get_or z j zero))
        (λ e. product_none z 0 ∙ sym (zero_times keeps.laws _) ∙ ap (λ x. mul x (get_or z j zero)) (sym (keeps.same_means k m.zero e ∙ keeps.zero_stands)))
        (λ e. product_one (record { number = k; column = j }) z 0 j (omega arith) h)

    cell_worth : (k : V) (v : Variable) → SymbolFree n w v → product_from m 0 (cell_at m k (column n v)) z ≡ mul (m.stands k) (value m n z [] v)
    cell_worth k Zero s = product_none z 0 ∙ sym (times_zero keeps.laws _)
    cell_worth k One s = nonzero_worth k 0 some ∙ ap (mul (m.stands k)) first
    cell_worth k (Instance i) s = nonzero_worth k i (omega arith)
    cell_worth k (Witness i) s = nonzero_worth k (n + i) (omega arith)
    cell_worth k (SymbolicLc j) s = absurd s

    pub cells_worth : (ts : List (Term V)) → Only (SymbolFree n w) ts → product_from m 0 (cells m n ts) z ≡ worth m (value m n z []) ts
    cells_worth [] s = product_none z 0
    cells_worth (t ∷ ts) s =
        product_append (cell_at m t.number (column n t.variable)) (cells m n ts) z ∙ ap₂ add (cell_worth t.number t.variable s.0) (cells_worth ts s.1)

    abbrev FreeRow : Row (List (Term V)) → Type 0
    FreeRow r = Only (SymbolFree n w) r.a × Only (SymbolFree n w) r.b × Only (SymbolFree n w) r.c

    row_worth : (r : Row (List (Term V))) → FreeRow r → each (λ cs. product_from m 0 cs z) (each (cells m n) r) ≡ each (worth m (value m n z [])) r
    row_worth r s = λ i. record { a = cells_worth r.a s.0 i; b = cells_worth r.b s.1 i; c = cells_worth r.c s.2 i }

    -- Marlin's condition over all rows is that each row holds
    pub marlin_holds : (rs : List (Row (List (Term V)))) → AllByRecursion FreeRow rs → AllByRecursion (Marlin m z) (map (each (cells m n)) rs) ↔ AllByRecursion (Holds m) (map (each (worth m (value m n z []))) rs)
    marlin_holds [] s = (λ _. tt, λ _. tt)
    marlin_holds (r ∷ rs) s =
        let rest = marlin_holds rs s.1 in
        let e = row_worth r s.0 in
        (λ h. (subst (Holds m) e h.0, rest.0 h.1), λ h. (subst (Holds m) (sym e) h.0, rest.1 h.1))

    fails_same : (rs : List (Row (List (Term V)))) → AllByRecursion FreeRow rs → (j : ℕ) → FailsFirst (Marlin m z) (map (each (cells m n)) rs) j ↔ FailsFirst (Holds m) (map (each (worth m (value m n z []))) rs) j
    fails_same [] s j = (λ f. f, λ f. f)
    fails_same (r ∷ rs) s ℕ.zero = let e = row_worth r s.0 in (λ f h. f (subst (Holds m) (sym e) h), λ f h. f (subst (Holds m) e h))
    fails_same (r ∷ rs) s (suc j) =
        let rest = fails_same rs s.1 j in
        let e = row_worth r s.0 in
        (λ f. (subst (Holds m) e f.0, rest.0 f.1), λ f. (subst (Holds m) (sym e) f.0, rest.1 f.1))

    -- the first row that fails by Marlin's condition is the first that fails by worth
    pub marlin_first : (rs : List (Row (List (Term V)))) → AllByRecursion FreeRow rs → (answer : Option ℕ)
        → FirstFailing (Marlin m z) (map (each (cells m n)) rs) answer ↔ FirstFailing (Holds m) (map (each (worth m (value m n z []))) rs) answer
    marlin_first rs s None = marlin_holds rs s
    marlin_first rs s (Some j) = fails_same rs s j
