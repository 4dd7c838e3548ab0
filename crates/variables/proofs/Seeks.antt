-- Where a variable is sought. Assumes nothing.
use Rattle.std.proofs.Common.{◌≡◌, ◌<◌, Bool, true, false, List, [], ◌∷◌, length, get_or, take, ⊎_elim, one-add, arith}
use Rattle.std.specs.List.{prefix_len, AllByRecursion}
use Rattle.std.proofs.lemmas.List.Sums.{prefix_len-le-length}
use Rattle.std.proofs.lemmas.Bool.{cases_Bool}
use Rattle.variables.specs.declared.Term.{Term}
use Rattle.variables.specs.Order.{below}
use Rattle.variables.specs.Laws.{Seeks}

module _ {X : Type 0} (p : X → Bool) where
  prefix_len_passes : (xs : List X) → AllByRecursion (λ x. p x ≡ true) (take (prefix_len p xs) xs)
  prefix_len_passes [] = tt
  prefix_len_passes (x ∷ xs) =
      ⊎_elim
      (λ (e : p x ≡ true). rw (e, one-add) (e, prefix_len_passes xs))
      (λ (e : p x ≡ false). rw e tt)
      (cases_Bool (p x))

  prefix_len_stops : (xs : List X) (d : X) → prefix_len p xs < length xs → p (get_or xs (prefix_len p xs) d) ≡ false
  prefix_len_stops [] d h = absurd (omega arith)
  prefix_len_stops (x ∷ xs) d h =
      ⊎_elim
      (λ (e : p x ≡ true). let lt : prefix_len p (x ∷ xs) < length (x ∷ xs) = h in rw (e, one-add) (prefix_len_stops xs d (let g = rw e at lt in omega arith)))
      (λ (e : p x ≡ false). rw e e)
      (cases_Bool (p x))

pub seeks : {V : Type 0} → Seeks V
seeks {V} v ts =
    let p : Term V → Bool = λ t. below t.variable v in
    record { within = prefix_len-le-length p ts; before = prefix_len_passes p ts; there = prefix_len_stops p ts }
