-- Rising lists merge to a rising list. Assumes nothing.
use Rattle.std.proofs.Common.{◌≡◌, List, [], ◌∷◌, map, sym, subst}
use Rattle.std.proofs.lemmas.Bool.{cond_both}
use Rattle.variables.specs.declared.Variable.{Variable}
use Rattle.variables.specs.declared.Term.{Term}
use Rattle.variables.specs.Order.{below, Rises}
use Rattle.variables.specs.Merge.{pushed, combined, before, merged}
use Rattle.variables.specs.Laws.{MergesRise}
use Rattle.variables.proofs.Orders.{neither, Above, parts, joins}

module _ {V : Type 0} (push : V → V) (combine : V → V → V) where
  pushed_above : (v : Variable) (ys : List (Term V)) → Above v ys → Above v (map (pushed push combine) ys)
  pushed_above v [] a = tt
  pushed_above v (y ∷ ys) a = a

  pushed_rises : (ys : List (Term V)) → Rises ys → Rises (map (pushed push combine) ys)
  pushed_rises [] r = tt
  pushed_rises (y ∷ ys) r =
      let p = parts y ys r in
      joins (pushed push combine y) (map (pushed push combine) ys) (pushed_above y.variable ys p.0) (pushed_rises ys p.1)

  merged_above : (v : Variable) (xs ys : List (Term V)) → Above v xs → Above v ys → Above v (merged push combine xs ys)
  merged_above v [] ys a b = pushed_above v ys b
  merged_above v (x ∷ xs) [] a b = a
  merged_above v (x ∷ xs) (y ∷ ys) a b =
      cond_both (below x.variable y.variable) _ _ (Above v) (λ _. a) (λ _. cond_both (below y.variable x.variable) _ _ (Above v) (λ _. b) (λ _. a))

  before_rises : (x : Term V) (xs : List (Term V)) → Rises (x ∷ xs) → ((ys : List (Term V)) → Rises ys → Rises (merged push combine xs ys))
      → (ys : List (Term V)) → Rises ys → Rises (before push combine x (merged push combine xs) ys)
  before_rises x xs r h [] s = joins x (merged push combine xs []) (merged_above x.variable xs [] (parts x xs r).0 tt) (h [] tt)
  before_rises x xs r h (y ∷ ys) s =
      let p = parts x xs r in
      let q = parts y ys s in
      cond_both (below x.variable y.variable) _ _ Rises
      (λ b. joins x (merged push combine xs (y ∷ ys)) (merged_above x.variable xs (y ∷ ys) p.0 b) (h (y ∷ ys) s))
      (λ a. cond_both (below y.variable x.variable) _ _ Rises
      (λ b. joins (pushed push combine y) (before push combine x (merged push combine xs) ys) (merged_above y.variable (x ∷ xs) ys b q.0) (before_rises x xs r h ys q.1))
      (λ b.
      let same : y.variable ≡ x.variable = sym (neither x.variable y.variable a b) in
      joins (combined push combine x y) (merged push combine xs ys) (merged_above x.variable xs ys p.0 (subst (λ v. Above v ys) same q.0)) (h ys q.1)))

  pub merged_rises : (xs ys : List (Term V)) → Rises xs → Rises ys → Rises (merged push combine xs ys)
  merged_rises [] ys r s = pushed_rises ys s
  merged_rises (x ∷ xs) ys r s = before_rises x xs r (λ zs. merged_rises xs zs (parts x xs r).1) ys s

pub merges_rise_lem : {V : Type 0} → MergesRise V
merges_rise_lem push combine xs ys r s = merged_rises push combine xs ys r s
