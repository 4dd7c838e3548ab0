-- Places in use. Assumes nothing.
use Rattle.std.proofs.Common.{◌≡◌, ℕ, ◌≤◌, List, length, take, min, sym, ap, ◌∙◌, arith}
use Rattle.std.proofs.lemmas.List.{take_min, take-take, length-take}

-- the first n of the first `limit` items, by how many there are
pub taken_in_use : {X : Type 0} (n limit k : ℕ) (xs : List X) → k ≡ min n (min (length xs) limit) → take k xs ≡ take n (take limit xs)
taken_in_use n limit k xs e =
    let counts : min n (length (take limit xs)) ≡ k = omega (arith, length-take limit xs) in
    let below : k ≤ limit = omega arith in
    sym (take-take k limit xs below) ∙ ap (λ i. take i (take limit xs)) (sym counts) ∙ take_min n (take limit xs)
