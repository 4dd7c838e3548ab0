-- Lists and elements written into a table at a place. Assumes nothing.
use Rattle.std.proofs.Common.{◌≡◌, ℕ, ◌+◌, ◌-◌, ◌≤◌, List, [], ◌∷◌, ◌++◌, length, take, drop, sym, refl, ap, ◌∙◌, append_assoc, arith, length-append}
use Rattle.std.specs.Prelude.{slice_set}
use Rattle.std.proofs.lemmas.List.{length-drop, length-take-le, take-take, take_at, take-append-le, drop_at, drop-drop, drop-take, take_more_set}
use Rattle.account.specs.Refusals.{limit}
use Rattle.tables.specs.Held.{counted, room, put}

module _ {X : Type 0} where
  -- where a list lies from k on
  module _ (xs : List X) (k : ℕ) (ys : List X) (fits : k + length ys ≤ length xs) where
    front_long : length (take k xs ++ ys) ≡ k + length ys
    front_long = omega (arith, length-append (take k xs) ys, length-take-le k xs (omega arith))

    pub put_long : length (put xs k ys) ≡ length xs
    put_long = omega (arith, length-append (take k xs ++ ys) (drop (k + length ys) xs), front_long, length-drop (k + length ys) xs)

    -- what is before it stays
    put_before : (n : ℕ) → n ≤ k → take n (put xs k ys) ≡ take n xs
    put_before n h =
        take-append-le n (take k xs ++ ys) (drop (k + length ys) xs) (omega (arith, front_long))
        ∙ take-append-le n (take k xs) ys (omega (arith, length-take-le k xs (omega arith))) ∙ take-take n k xs h

    -- so does what is after it
    pub put_after : (n : ℕ) → k + length ys ≤ n → drop n (put xs k ys) ≡ drop n xs
    put_after n h =
        let front = take k xs ++ ys in
        let past : k + length ys + (n - (k + length ys)) ≡ n = omega arith in
        ap (λ i. drop i (put xs k ys)) (sym past) ∙ sym (drop-drop (n - (k + length ys)) (k + length ys) (put xs k ys))
        ∙ ap (drop (n - (k + length ys))) (drop_at front (drop (k + length ys) xs) (k + length ys) front_long)
        ∙ drop-drop (n - (k + length ys)) (k + length ys) xs ∙ ap (λ i. drop i xs) past

    -- it lies there
    pub put_there : take (length ys) (drop k (put xs k ys)) ≡ ys
    put_there =
        let rest = drop (k + length ys) xs in
        ap (λ l. take (length ys) (drop k l)) (append_assoc (take k xs) ys rest)
        ∙ ap (take (length ys)) (drop_at (take k xs) (ys ++ rest) k (length-take-le k xs (omega arith))) ∙ take_at ys rest (length ys) refl

    -- a part before it stays
    pub part_before : (start len : ℕ) → start + len ≤ k → take len (drop start (put xs k ys)) ≡ take len (drop start xs)
    part_before start len h = sym (drop-take start len (put xs k ys)) ∙ ap (drop start) (put_before (start + len) h) ∙ drop-take start len xs

  -- an element more, in the next of the places that count
  pub counted_more : (xs : List X) (n : ℕ) (y : X) → n + 1 ≤ room xs → take (n + 1) (counted (slice_set xs n y)) ≡ take n (counted xs) ++ y ∷ []
  counted_more xs n y h =
      take-take (n + 1) limit (slice_set xs n y) (omega arith) ∙ take_more_set xs n y (omega arith) ∙ ap (λ l. l ++ y ∷ []) (sym (take-take n limit xs (omega arith)))

  -- the front of the places that count is as long as it says
  pub counted_long : (xs : List X) (n : ℕ) → n ≤ room xs → length (take n (counted xs)) ≡ n
  counted_long xs n h = ap length (take-take n limit xs (omega arith)) ∙ length-take-le n xs (omega arith)
