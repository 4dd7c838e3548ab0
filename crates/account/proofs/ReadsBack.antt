-- What is written is read back. Assumes nothing.
use Rattle.std.proofs.Common.{◌≡◌, ℕ, suc, ◌+◌, ◌-◌, ◌<◌, ◌≤◌, List, [], ◌∷◌, ◌++◌, map, length, get_or, take, drop, sym, refl, ap, ◌∙◌, ap₂, append_assoc, zero-add, arith, length-append}
use mathlib.Core.List.{map-map}
use lib.ListN.{length-map, get_or-map}
use Rattle.std.proofs.lemmas.List.{drop_at, take-append-le, take_all, get_or_append_left, get_or-append-add}
use Rattle.std.proofs.lemmas.List.FromFn.{fill_by_all}
use Rattle.field.specs.Laws.{Model}
use Rattle.variables.specs.declared.Term.{Term}
use Rattle.account.specs.Rows.{Row, each, Cell, cells, ends_from, concatenated, last_of, parts_from, rows_in, matrices}
use Rattle.account.specs.Laws.{ReadBack}

-- lists that lie one after the other, past those of p, lie between the ends
parts_back : {X : Type 0} (ls : List (List X)) (p : List X) (k : ℕ) → k ≡ length p → parts_from k (ends_from k ls) (p ++ concatenated ls) ≡ ls
parts_back [] p k e = refl
parts_back (l ∷ ls) p k e =
    let rest = concatenated ls in
    let here : take (k + length l - k) (drop k (p ++ (l ++ rest))) ≡ l
    = ap₂ take (omega arith) (drop_at p (l ++ rest) k (sym e)) ∙ take-append-le (length l) l rest (omega arith) ∙ take_all (length l) l (omega arith) in
    let after : k + length l ≡ length (p ++ l) = omega (arith, length-append p l) in
    ap₂ (λ x xs. x ∷ xs) here (ap (parts_from (k + length l) (ends_from (k + length l) ls)) (sym (append_assoc p l rest)) ∙ parts_back ls (p ++ l) (k + length l) after)

module _ {V : Type 0} (m : Model V) (n : ℕ) (rs : List (Row (List (Term V)))) where
  abbrev r : ℕ
  r = length rs

  abbrev none : Row (List (Term V))
  none = record { a = []; b = []; c = [] }

  -- one of the three lists of each row
  column : (Row (List (Term V)) → List (Term V)) → List (List (Cell V))
  column f = map (λ x. cells m n (f x)) rs

  column_long : (f : Row (List (Term V)) → List (Term V)) → length (column f) ≡ r
  unfolding column
  column_long f = length-map rs (λ x. cells m n (f x))

  column_at : (f : Row (List (Term V)) → List (Term V)) → f none ≡ [] → (j : ℕ) → get_or (column f) j [] ≡ cells m n (f (get_or rs j none))
  unfolding column
  column_at f e j = ap (λ d. get_or (column f) j (cells m n d)) (sym e) ∙ get_or-map (λ x. cells m n (f x)) rs j none

  three : (left middle right : List (List (Cell V))) → length left ≡ r → length middle ≡ r → length right ≡ r → (j : ℕ) → j < r
      → (get_or (left ++ (middle ++ right)) j [] ≡ get_or left j []) × (get_or (left ++ (middle ++ right)) (r + j) [] ≡ get_or middle j []) × (get_or (left ++ (middle ++ right)) (r + r + j) [] ≡ get_or right j [])
  three left middle right la lb lc j lt = (
    get_or_append_left left (middle ++ right) [] j (omega arith),
    ap (λ i. get_or (left ++ (middle ++ right)) (i + j) []) (sym la) ∙ get_or-append-add left (middle ++ right) j [] ∙ get_or_append_left middle right [] j (omega arith),
    ap (λ i. get_or (left ++ (middle ++ right)) i []) (omega arith) ∙ get_or-append-add left (middle ++ right) (length middle + j) [] ∙ get_or-append-add middle right j [],
  )

rows_back : {V : Type 0} (m : Model V) (n w : ℕ) (rs : List (Row (List (Term V)))) → rows_in (matrices m n w rs) ≡ map (each (cells m n)) rs
unfolding column
rows_back {V} m n w rs =
    let left = column m n rs (λ x. x.a) in
    let middle = column m n rs (λ x. x.b) in
    let right = column m n rs (λ x. x.c) in
    let parts = parts_from 0 (matrices m n w rs).ends (matrices m n w rs).cells in
    let back : parts ≡ left ++ (middle ++ right) = parts_back (left ++ (middle ++ right)) [] 0 refl in
    let row : ℕ → Row (List (Cell V)) = λ j. record { a = get_or parts j []; b = get_or parts (length rs + j) []; c = get_or parts (length rs + length rs + j) [] } in
    sym (fill_by_all row (map (each (cells m n)) rs) (length rs) (each (cells m n) (none m n rs)) (length-map rs (each (cells m n))) (λ j lt.
    let at = three m n rs left middle right (column_long m n rs (λ x. x.a)) (column_long m n rs (λ x. x.b)) (column_long m n rs (λ x. x.c)) j lt in
    let a = ap (λ ps. get_or ps j []) back ∙ at.0 ∙ column_at m n rs (λ x. x.a) refl j in
    let b = ap (λ ps. get_or ps (length rs + j) []) back ∙ at.1 ∙ column_at m n rs (λ x. x.b) refl j in
    let c = ap (λ ps. get_or ps (length rs + length rs + j) []) back ∙ at.2 ∙ column_at m n rs (λ x. x.c) refl j in
    get_or-map (each (cells m n)) rs j (none m n rs) ∙ (λ i. record { a = sym a i; b = sym b i; c = sym c i })))

-- the cells and the ends of lists that lie one after the other
cells_long : {X : Type 0} (ls ks : List (List X)) → length (concatenated (ls ++ ks)) ≡ length (concatenated ls) + length (concatenated ks)
cells_long [] ks = omega arith
cells_long (l ∷ ls) ks = omega (arith, length-append l (concatenated (ls ++ ks)), length-append l (concatenated ls), cells_long ls ks)

ends_long : {X : Type 0} (ls : List (List X)) (k : ℕ) → length (ends_from k ls) ≡ length ls
ends_long [] k = refl
ends_long (l ∷ ls) k = ap suc (ends_long ls (k + length l))

end_above : {X : Type 0} (ls : List (List X)) (k j : ℕ) → j < length (ends_from k ls) → k ≤ get_or (ends_from k ls) j 0
end_above [] k j h = absurd (omega arith)
end_above (l ∷ ls) k ℕ.zero h = omega arith
end_above (l ∷ ls) k (suc j) h = omega (arith, end_above ls (k + length l) j (omega arith))

in_order : {X : Type 0} (ls : List (List X)) (k i j : ℕ) → i ≤ j → j < length (ends_from k ls) → get_or (ends_from k ls) i 0 ≤ get_or (ends_from k ls) j 0
in_order [] k i j le h = absurd (omega arith)
in_order (l ∷ ls) k ℕ.zero ℕ.zero le h = omega arith
in_order (l ∷ ls) k ℕ.zero (suc j) le h = end_above ls (k + length l) j (omega arith)
in_order (l ∷ ls) k (suc i) ℕ.zero le h = absurd (omega arith)
in_order (l ∷ ls) k (suc i) (suc j) le h = in_order ls (k + length l) i j (omega arith) (omega arith)

last_is : {X : Type 0} (ls : List (List X)) (k : ℕ) → last_of k (ends_from k ls) ≡ k + length (concatenated ls)
last_is [] k = omega arith
last_is (l ∷ ls) k = omega (arith, last_is ls (k + length l), length-append l (concatenated ls))

pub read_back : {V : Type 0} (m : Model V) → ReadBack m
unfolding column
read_back {V} m n w rs =
    let back = rows_back m n w rs in
    let of : (f : Row (List (Cell V)) → List (Cell V)) → map f (rows_in (matrices m n w rs)) ≡ map (λ r. f (each (cells m n) r)) rs
    = λ f. ap (map f) back ∙ map-map f (each (cells m n)) rs in
    let a = sym (of (λ r. r.a)) in
    let b = sym (of (λ r. r.b)) in
    let c = sym (of (λ r. r.c)) in
    let left = column m n rs (λ x. x.a) in
    let middle = column m n rs (λ x. x.b) in
    let right = column m n rs (λ x. x.c) in
    record {
      rows = back;
      counts = λ i. (length (concatenated (a i)), length (concatenated (b i)), length (concatenated (c i)));
      cells_counted = cells_long left (middle ++ right) ∙ ap (λ k. length (concatenated left) + k) (cells_long middle right) ∙ omega arith;
      ends_counted = ends_long (left ++ (middle ++ right)) 0
          ∙ omega (arith, length-append left (middle ++ right), length-append middle right, column_long m n rs (λ x. x.a), column_long m n rs (λ x. x.b), column_long m n rs (λ x. x.c));
      ends_in_order = in_order (left ++ (middle ++ right)) 0;
      last_end = last_is (left ++ (middle ++ right)) 0 ∙ zero-add _;
    }
