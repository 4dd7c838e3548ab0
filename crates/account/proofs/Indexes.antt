-- The rows of an index, read place by place, are its triples in turn. Assumes nothing.
use Rattle.std.proofs.Common.{◌≡◌, ℕ, suc, ◌+◌, ◌*◌, ◌<◌, List, [], ◌∷◌, ◌++◌, map, length, get_or, sym, refl, ap, ◌∙◌, ap₂, append_assoc, append-nil, arith, length-append}
use Rattle.std.proofs.lemmas.List.{get_or-append-add, get_or_at}
use Rattle.account.specs.declared.Mark.{Mark}
use Rattle.account.specs.Given.{Triples, none, plain, triple}
use Rattle.account.specs.Rows.{Row, row_at, starts_from, rows, row_marks, row_lists}

pub triples_append : {ms ns : List Mark} → Triples ms → Triples ns → Triples (ms ++ ns)
triples_append none t = t
triples_append (plain s) t = plain (triples_append s t)
triples_append (triple s) t = triple (triples_append s t)

pub three_each : {X : Type 0} (rs : List (Row X)) → length (row_lists rs) ≡ 3 * length rs
three_each [] = refl
three_each (r ∷ rs) = omega (arith, three_each rs)

module _ {X : Type 0} (d : X) where
  -- from the places of an index that come after p
  turn : (ms : List Mark) (p xs : List X) → List (Row X)
  turn ms p xs = map (row_at d (p ++ xs)) (starts_from (length p) ms)

  skip : (ms : List Mark) (p q xs : List X) (k : ℕ) → k ≡ length (p ++ q) → map (row_at d (p ++ (q ++ xs))) (starts_from k ms) ≡ turn ms (p ++ q) xs
  unfolding turn
  skip ms p q xs k e = ap₂ (λ l j. map (row_at d l) (starts_from j ms)) (sym (append_assoc p q xs)) e

  three : (p : List X) (a b c : X) (xs : List X) → row_at d (p ++ a ∷ b ∷ c ∷ xs) (length p) ≡ record { a = a; b = b; c = c }
  three p a b c xs =
      let first = get_or_at p a (b ∷ c ∷ xs) d (length p) refl in
      let second = get_or-append-add p (a ∷ b ∷ c ∷ xs) 1 d in
      let third = get_or-append-add p (a ∷ b ∷ c ∷ xs) 2 d in
      λ i. record { a = first i; b = second i; c = third i }

  -- the row j of some rows whose lists come after p
  pub row_there : (rs : List (Row X)) (p : List X) (j : ℕ) (e : Row X) → j < length rs → row_at d (p ++ row_lists rs) (length p + 3 * j) ≡ get_or rs j e
  row_there [] p j e lt = absurd (omega arith)
  row_there (r ∷ rs) p ℕ.zero e lt =
      let here : length p + 3 * 0 ≡ length p = omega arith in
      ap (row_at d (p ++ row_lists (r ∷ rs))) here ∙ three p r.a r.b r.c (row_lists rs)
  row_there (r ∷ rs) p (suc j) e lt =
      let q = r.a ∷ r.b ∷ r.c ∷ [] in
      let further : length p + 3 * suc j ≡ length (p ++ q) + 3 * j = omega (arith, length-append p q) in
      ap₂ (row_at d) (sym (append_assoc p q (row_lists rs))) further ∙ row_there rs (p ++ q) j e (omega arith)

  turn_append : {ms : List Mark} → Triples ms → (ns : List Mark) (p xs ys : List X) → length ms ≡ length xs
      → turn (ms ++ ns) p (xs ++ ys) ≡ turn ms p xs ++ turn ns (p ++ xs) ys
  unfolding turn
  turn_append none ns p [] ys e = ap (λ q. turn ns q ys) (sym (append-nil p))
  turn_append none ns p (x ∷ xs) ys e = absurd (omega arith)
  turn_append (plain t) ns p [] ys e = absurd (omega arith)
  turn_append (plain {ms} t) ns p (x ∷ xs) ys e =
      let q = x ∷ [] in
      let k : suc (length p) ≡ length (p ++ q) = omega (arith, length-append p q) in
      skip (ms ++ ns) p q (xs ++ ys) (suc (length p)) k ∙ turn_append t ns (p ++ q) xs ys (omega arith)
      ∙ ap₂ ◌++◌ (sym (skip ms p q xs (suc (length p)) k)) (ap (λ l. turn ns l ys) (append_assoc p q xs))
  turn_append (triple t) ns p [] ys e = absurd (omega arith)
  turn_append (triple t) ns p (a ∷ []) ys e = absurd (omega arith)
  turn_append (triple t) ns p (a ∷ b ∷ []) ys e = absurd (omega arith)
  turn_append (triple {ms} t) ns p (a ∷ b ∷ c ∷ xs) ys e =
      let q = a ∷ b ∷ c ∷ [] in
      let k : suc (suc (suc (length p))) ≡ length (p ++ q) = omega (arith, length-append p q) in
      ap₂ (λ r rs. r ∷ rs) (three p a b c (xs ++ ys) ∙ sym (three p a b c xs))
      (skip (ms ++ ns) p q (xs ++ ys) _ k ∙ turn_append t ns (p ++ q) xs ys (omega arith)
      ∙ ap₂ ◌++◌ (sym (skip ms p q xs _ k)) (ap (λ l. turn ns l ys) (append_assoc p q xs)))

  turn_rows : (rs : List (Row X)) (p : List X) → turn (row_marks rs) p (row_lists rs) ≡ rs
  unfolding turn
  turn_rows [] p = refl
  turn_rows (r ∷ rs) p =
      let q = r.a ∷ r.b ∷ r.c ∷ [] in
      ap₂ (λ y ys. y ∷ ys) (three p r.a r.b r.c (row_lists rs)) (skip (row_marks rs) p q (row_lists rs) _ (omega (arith, length-append p q)) ∙ turn_rows rs (p ++ q))

  -- the rows of an index, and then those of the entries after it
  pub rows_append : {ms : List Mark} → Triples ms → (ns : List Mark) (xs ys : List X) → length ms ≡ length xs
      → rows d (ms ++ ns) (xs ++ ys) ≡ rows d ms xs ++ map (row_at d (xs ++ ys)) (starts_from (length xs) ns)
  unfolding turn
  rows_append t ns xs ys e = turn_append t ns [] xs ys e

  -- rows put after the entries of an index are its last rows
  pub index_rows : {ms : List Mark} → Triples ms → (xs : List X) (rs : List (Row X)) → length ms ≡ length xs → rows d (ms ++ row_marks rs) (xs ++ row_lists rs) ≡ rows d ms xs ++ rs
  unfolding turn
  index_rows {ms} t xs rs e = rows_append t (row_marks rs) xs (row_lists rs) e ∙ ap (λ l. rows d ms xs ++ l) (turn_rows rs xs)
