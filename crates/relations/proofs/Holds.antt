-- What the places hold after a term was added. Assumes nothing.
use Rattle.std.proofs.Common.{◌≡◌, ℕ, zero, suc, ◌+◌, ◌<◌, ◌≤◌, List, [], ◌∷◌, ◌++◌, length, take, drop, Ok, Err, refl, sym, ap, ◌∙◌, arith}
use Rattle.std.specs.List.{insert}
use Rattle.std.proofs.lemmas.List.{take_at, drop_at, take_more, length-take-le}
use Rattle.std.proofs.lemmas.List.Edits.{length-insert, insert-append_left}
use Rattle.std.proofs.lemmas.List.Sums.{prefix_len-le-length}
use Rattle.std.proofs.lemmas.Grind.{common_steps}
use Rattle.field.specs.Laws.{Model}
use Rattle.variables.specs.declared.Variable.{Variable}
use Rattle.variables.specs.declared.Term.{Term}
use Rattle.variables.specs.Order.{below}
use Rattle.variables.specs.Locate.{location, gained, added_at, added}
use Rattle.relations.specs.declared.impl_lc.LinearCombination.{LinearCombination}
use Rattle.relations.specs.Held.{listed, spared, held, put, Changes, Becomes}

module _ {V : Type 0} where
  pub length_gained : (m : Model V) (k : V) (i : ℕ) (ts : List (Term V)) → length (gained m k i ts) ≡ length ts
  length_gained m k i [] = refl
  length_gained m k zero (t ∷ ts) = refl
  length_gained m k (suc i) (t ∷ ts) = ap suc (length_gained m k i ts)

  -- a number gained by a term of the list finds its place
  pub becomes_gained : (m : Model V) (t : Term V) (before after : LinearCombination V) (i : ℕ) → Changes (gained m t.number i (listed before)) before after → location t.variable (listed before) ≡ Ok i
      → Becomes (added m t (listed before)) before after (Ok tt)
  becomes_gained m t before after i c e =
      let n = length_gained m t.number i (listed before) in
      let d = drop_at (listed before) (spared before) (length (gained m t.number i (listed before))) (sym n) in
      record { place = c.place; does = ap (λ r. put (added_at m r t (listed before)) (held before)) e ∙ rw c.holds (grind arith) }

  -- a free place is at most past the end
  pub free_within : (v : Variable) (ts : List (Term V)) (i : ℕ) → location v ts ≡ Err i → i ≤ length ts
  free_within v ts i =
      let le = prefix_len-le-length (λ t. below t.variable v) ts in grind arith

  -- a term inserted into a part that has one place more than the list
  pub put_inserted : (n at : ℕ) (t : Term V) (xs ys : List (Term V)) → n < length xs → at ≤ length (take n xs) → ys ≡ take (length (take (n + 1) xs)) (insert (take (n + 1) xs) at t)
      → put (insert (take n xs) at t) (record { list = take n xs; spare = drop n xs }) ≡ record { answer = Ok tt; held = record { list = take (n + 1) (ys ++ drop (n + 1) xs); spare = drop (n + 1) (ys ++ drop (n + 1) xs) } }
  put_inserted n at t xs ys lt le e =
      let short : length (take n xs) ≡ n = length-take-le n xs (omega arith) in
      let long : length (insert (take n xs) at t) ≡ n + 1 = omega (arith, length-insert (take n xs) at t) in
      let cut : take (length (take (n + 1) xs)) (insert (take (n + 1) xs) at t) ≡ insert (take n xs) at t =
      rw (length-take-le (n + 1) xs (omega arith), take_more xs n t lt, insert-append_left (take n xs) _ at t (omega arith)) (take_at (insert (take n xs) at t) _ (n + 1) long) in
      let is = e ∙ cut in
      grind (arith, common_steps)
