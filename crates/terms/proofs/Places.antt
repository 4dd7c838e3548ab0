-- Terms placed in turn in the first places of a list, and what the other places hold. Assumes nothing.
use Rattle.std.proofs.Common.{◌≡◌, ℕ, ◌+◌, ◌-◌, ◌<◌, ◌≤◌, List, [], ◌∷◌, ◌++◌, length, get_or, take, drop, sym, refl, ap, ◌∙◌, append-nil, arith, length-append}
use Rattle.std.specs.List.{insert}
use Rattle.std.proofs.lemmas.List.{drop_more, drop-drop, drop_all, take_at, take_more, length-take-le}
use Rattle.std.proofs.lemmas.Grind.{drop_more_same}
use Rattle.std.proofs.lemmas.List.Edits.{insert-append_left, length-insert}
use borrow.Rule.Slice.PartMut.{put_mid}
use Rattle.field.specs.Laws.{Model}
use Rattle.variables.specs.declared.Term.{Term}
use Rattle.variables.specs.Compact.{placed, all_placed, compactify}

-- what agrees from place n on agrees from each later one on
pub drop_on : {X : Type 0} (n k : ℕ) (xs ys : List X) → drop n xs ≡ drop n ys → n ≤ k → drop k xs ≡ drop k ys
drop_on n k xs ys e le =
    let is : n + (k - n) ≡ k = omega arith in
    ap (λ j. drop j xs) (sym is) ∙ sym (drop-drop (k - n) n xs) ∙ ap (drop (k - n)) e ∙ drop-drop (k - n) n ys ∙ ap (λ j. drop j ys) is

-- what is inserted among n places, where there is one place more for the last
pub inserted_among : {X : Type 0} (xs : List X) (n i : ℕ) (x : X) → n < length xs → i ≤ n → take (length (take (n + 1) xs)) (insert (take (n + 1) xs) i x) ≡ insert (take n xs) i x
inserted_among xs n i x lt le =
    let front = take n xs in
    let last = get_or xs n x ∷ [] in
    let long : length front ≡ n = length-take-le n xs (omega arith) in
    ap (λ l. take (length l) (insert l i x)) (take_more xs n x lt)
    ∙ ap (take (length (front ++ last))) (insert-append_left front last i x (omega arith))
    ∙ take_at (insert front i x) last (length (front ++ last)) (omega (arith, length-insert front i x (omega arith), length-append front last))

module _ {V : Type 0} (m : Model V) where
  pub all_placed_push : (us ts : List (Term V)) (t : Term V) → all_placed m us (ts ++ t ∷ []) ≡ placed m t (all_placed m us ts)
  all_placed_push us [] t = refl
  all_placed_push us (u ∷ ts) t = all_placed_push (placed m u us) ts t

  -- the first i terms are placed, and take up `len` places
  pub record Placed (start : List (Term V)) (i len : ℕ) (now : List (Term V)) : Type 0 where
    pub few : len ≤ i
    pub front : take len now ≡ compactify m (take i start)
    pub rest : drop i now ≡ drop i start

  -- one term more is placed
  pub placed_more : {start now : List (Term V)} {i len : ℕ} → Placed start i len now → length now ≡ length start → i < length start → (t : Term V) → t ≡ get_or now i t
      → (r : ℕ) (last : List (Term V)) → r ≤ len + 1 → take r last ≡ placed m t (take len now) → drop (len + 1) last ≡ drop (len + 1) now → Placed start (i + 1) r last
  placed_more {start} {now} {i} {len} p long lt t is r last few front rest =
      let before = p.few in
      let h : t ∷ drop (i + 1) now ≡ get_or start i t ∷ drop (i + 1) start = ap (λ x. x ∷ drop (i + 1) now) is ∙ sym (drop_more now i t (omega arith)) ∙ p.rest ∙ drop_more start i t lt in
      let stood : get_or start i t ≡ t = cc in
      record {
        few = omega arith;
        front = front ∙ ap (placed m t) p.front ∙ sym (all_placed_push [] (take i start) t) ∙ ap (compactify m) (ap (λ x. take i start ++ x ∷ []) (sym stood) ∙ sym (take_more start i t lt));
        rest = drop_on (len + 1) (i + 1) last now rest (omega arith) ∙ drop_more_same now start i p.rest;
      }

-- a list whose front is `out` and whose rest is written anew
pub put_after : {X : Type 0} (xs ys : List X) (r : ℕ) (out rest : List X) → r ≤ length xs → take r xs ≡ out → ys ≡ rest → put_mid r (length xs - r) xs ys ≡ out ++ rest
put_after xs ys r out rest le e f =
    ap (λ l. take r xs ++ (ys ++ l)) (drop-drop (length xs - r) r xs ∙ drop_all (r + (length xs - r)) xs (omega arith))
    ∙ ap (λ l. take r xs ++ l) (append-nil ys)
    ∙ (λ j. e j ++ f j)
