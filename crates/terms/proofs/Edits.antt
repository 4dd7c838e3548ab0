-- Lists cleared, gained and inserted into, a place at a time. Assumes nothing.
use Rattle.std.proofs.Common.{◌≡◌, ℕ, zero, suc, ◌+◌, ◌-◌, ◌<◌, List, [], ◌∷◌, ◌++◌, map, length, get_or, take, drop, set, replicate, sym, refl, ap, ◌∙◌, arith}
use Rattle.std.specs.List.{insert, FoldsTo}
use Rattle.std.proofs.Math.Seq.{take-append-add}
use Rattle.std.proofs.lemmas.List.Edits.{map_over_more}
use Rattle.std.proofs.lemmas.List.{drop_more, drop_all, take_all, set_at, append-nil, length-drop, length-take-le}
use borrow.Rule.Slice.PartMut.{put_mid, mid_of, post_of}
use Rattle.field.specs.Laws.{Model}
use Rattle.variables.specs.declared.Term.{Term}
use Rattle.variables.specs.Terms.{term}
use Rattle.variables.specs.Locate.{gained}

-- items that calls gave, where each call gives y
pub filled : {P X : Type 0} (R : P → X → P → Type 0) (y : X) → ((p : P) (x : X) (q : P) → R p x q → x ≡ y) → (p q : P) (xs : List X) → FoldsTo R p xs q → xs ≡ replicate (length xs) y
filled R y each p q [] h = refl
filled R y each p q (x ∷ xs) h = λ j. each p x h.0 h.1 j ∷ filled R y each h.0 q xs h.2 j

-- one place more is mapped, where what is written is f of what stood there
pub mapped_more : {X : Type 0} (f : X → X) (xs ys : List X) (i : ℕ) (x y : X) → i < length xs → ys ≡ map f (take i xs) ++ drop i xs → x ≡ get_or ys i x → y ≡ f (get_or ys i x) → set ys i y ≡ map f (take (i + 1) xs) ++ drop (i + 1) xs
mapped_more f xs ys i x y lt e is wrote = ap (set ys i) (wrote ∙ ap f (sym is)) ∙ map_over_more f xs ys i x lt e is

-- what stands at i with k added to its number
pub gained_set : {V : Type 0} (m : Model V) (k : V) (i : ℕ) (ts : List (Term V)) (d : Term V) → i < length ts → set ts i (term (m.plus (get_or ts i d).number k) (get_or ts i d).variable) ≡ gained m k i ts
gained_set m k zero [] d lt = absurd (omega arith)
gained_set m k (suc i) [] d lt = absurd (omega arith)
gained_set m k zero (t ∷ ts) d lt = refl
gained_set m k (suc i) (t ∷ ts) d lt = ap (λ l. t ∷ l) (gained_set m k i ts d (omega arith))

-- the places from `at` on are rotated by one, so that the last comes to `at`, where x is written
pub inserted : {X : Type 0} (xs ys : List X) (at : ℕ) (x : X) → at < length xs
    → (let mid = mid_of at (length xs - at) xs in ys ≡ drop (length mid - 1) mid ++ take (length mid - 1) mid)
    → set (put_mid at (length xs - at) xs ys) at x ≡ take (length xs) (insert xs at x)
inserted xs ys at x lt e =
    let n = length xs - at - 1 in
    let front = take at xs in
    let rest = drop at xs in
    let mid = mid_of at (length xs - at) xs in
    let whole : mid ≡ rest = take_all (length xs - at) rest (simp length-drop (omega arith)) in
    let many : length mid - 1 ≡ n = ap (λ l. length l - 1) whole ∙ ap (λ k. k - 1) (length-drop at xs) in
    let long : length front ≡ at = length-take-le at xs (omega arith) in
    let all : length front + suc n ≡ length xs = omega arith in
    let last = get_or rest n x in
    let one : drop n rest ≡ last ∷ [] = drop_more rest n x (simp length-drop (omega arith)) ∙ ap (λ l. last ∷ l) (drop_all (n + 1) rest (simp length-drop (omega arith))) in
    let none : post_of at (length xs - at) xs ≡ [] = drop_all (length xs - at) rest (simp length-drop (omega arith)) in
    ap (λ l. set (front ++ (l ++ post_of at (length xs - at) xs)) at x) (e ∙ (λ j. drop (many j) (whole j) ++ take (many j) (whole j)) ∙ ap (λ l. l ++ take n rest) one)
    ∙ set_at front last (take n rest ++ post_of at (length xs - at) xs) x at long
    ∙ ap (λ l. front ++ x ∷ l) (ap (λ l. take n rest ++ l) none ∙ append-nil (take n rest))
    ∙ sym (ap (λ k. take k (insert xs at x)) (sym all) ∙ take-append-add front (x ∷ rest) (suc n))
