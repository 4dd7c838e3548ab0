-- From six terms on a term is added as `compactify` places it. Assumes nothing.
use Rattle.std.proofs.Common.{◌≡◌, ℕ, suc, ◌≤◌, Bool, true, false, cond, ltb, List, [], ◌∷◌, length, drop, Ok, Err, sym, refl, ap, ◌∙◌, subst, ⊎_elim, one-add}
use Rattle.std.specs.List.{insert}
use Rattle.std.proofs.lemmas.Bool.{cases_Bool, cond-false, le-ltb}
use Rattle.field.specs.Laws.{Model}
use Rattle.variables.specs.declared.Term.{Term}
use Rattle.variables.specs.Order.{equal, below, Rises}
use Rattle.variables.specs.Compact.{placed}
use Rattle.variables.specs.Locate.{seek, first_is, gained, added_at, added}
use Rattle.variables.specs.Laws.{Adds}
use Rattle.variables.proofs.Orders.{equal_swap, below_apart, above, below_back}
use Rattle.variables.proofs.Compacts.{placed_rises}

module _ {V : Type 0} (m : Model V) (t : Term V) where
  -- a term at its place: an equal one there gains its number, and else it is inserted
  at_place : Bool → ℕ → List (Term V) → List (Term V)
  at_place there i ts = cond there (gained m t.number i ts) (insert ts i t)

  after_first : (b : Bool) (u : Term V) (i : ℕ) (us : List (Term V)) → at_place b (suc i) (u ∷ us) ≡ u ∷ at_place b i us
  unfolding at_place
  after_first true u i us = refl
  after_first false u i us = refl

  placed_there : (ts : List (Term V)) → at_place (first_is t.variable (drop (seek t.variable ts) ts)) (seek t.variable ts) ts ≡ placed m t ts
  unfolding at_place
  placed_there [] = refl
  placed_there (u ∷ us) =
      let v = t.variable in
      let w = u.variable in
      ⊎_elim
      (λ (e : below w v ≡ true).
      let apart : equal v w ≡ false = equal_swap v w ∙ below_apart w v e in
      rw (e, one-add, apart, below_back w v e) (after_first (first_is v (drop (seek v us) us)) u (seek v us) us ∙ ap (λ l. u ∷ l) (placed_there us)))
      (λ (e : below w v ≡ false).
      ⊎_elim
      (λ (q : equal v w ≡ true). let p : equal w v ≡ true = equal_swap w v ∙ q in rw (e, p, q))
      (λ (q : equal v w ≡ false). let p : equal w v ≡ false = equal_swap w v ∙ q in rw (e, p, q, above w v p e))
      (cases_Bool (equal v w)))
      (cases_Bool (below w v))

  -- where the variable stands at the place sought, the term there gains the number ..
  pub placed_by_gain : (ts : List (Term V)) (i : ℕ) → i ≡ seek t.variable ts → true ≡ first_is t.variable (drop i ts) → gained m t.number i ts ≡ placed m t ts
  unfolding at_place
  placed_by_gain ts i s e = ap (λ b. at_place b i ts) e ∙ ap (λ k. at_place (first_is t.variable (drop k ts)) k ts) s ∙ placed_there ts

  -- .. and else the term is inserted there
  pub placed_by_insert : (ts : List (Term V)) (i : ℕ) → i ≡ seek t.variable ts → false ≡ first_is t.variable (drop i ts) → insert ts i t ≡ placed m t ts
  unfolding at_place
  placed_by_insert ts i s e = ap (λ b. at_place b i ts) e ∙ ap (λ k. at_place (first_is t.variable (drop k ts)) k ts) s ∙ placed_there ts

  located : (b : Bool) (i : ℕ) (ts : List (Term V)) → added_at m (cond b (Ok i) (Err i)) t ts ≡ at_place b i ts
  unfolding at_place
  located true i ts = refl
  located false i ts = refl

  added_placed : (ts : List (Term V)) → 6 ≤ length ts → added m t ts ≡ placed m t ts
  added_placed ts le =
      let v = t.variable in
      let s = seek v ts in
      let there = first_is v (drop s ts) in
      ap (λ r. added_at m r t ts) (cond-false (ltb (length ts) 6) (Err s) (cond there (Ok s) (Err s)) (le-ltb (length ts) 6 le))
      ∙ located there s ts ∙ placed_there ts

pub adds : {V : Type 0} (m : Model V) → Adds m
adds m t ts = record { as_placed = added_placed m t ts; rises = λ le r. subst Rises (sym (added_placed m t ts le)) (placed_rises m t ts r) }
