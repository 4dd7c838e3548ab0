-- How many terms a merge has, and that it makes progress. Assumes nothing.
use Rattle.std.proofs.Common.{◌≡◌, ℕ, suc, ◌+◌, ◌≤◌, List, [], ◌∷◌, length, Some, sym, ap, ◌∙◌, arith}
use lib.ListN.{length-map}
use Rattle.std.specs.Iterator.{MakesProgress, item_count}
use Rattle.std.proofs.lemmas.Bool.{cond_both, cond-true, cond-false}
use Rattle.variables.specs.declared.Term.{Term}
use Rattle.variables.specs.Order.{below}
use Rattle.variables.specs.Merge.{pushed, before, merged}

-- an iterator that gives the first of what is left makes progress
pub progress : {S A : Type 0} (rest : S → List A) {s : S} {x : A} {t : S} → rest s ≡ x ∷ rest t → MakesProgress (λ _. Unit {0}) (item_count rest) s (Some x) t
progress rest e = record { on = λ _. (tt, tt, omega (arith, ap length e)); keeps = tt; rests = λ _. tt }

module _ {V : Type 0} (push : V → V) (combine : V → V → V) where
  before_fits : (x : Term V) (f : List (Term V) → List (Term V)) (n : ℕ) → ((ys : List (Term V)) → length (f ys) ≤ n + length ys) → (ys : List (Term V)) → length (before push combine x f ys) ≤ n + 1 + length ys
  before_fits x f n h [] = omega (arith, h [])
  before_fits x f n h (y ∷ ys) =
      let P : List (Term V) → Type 0 = λ l. length l ≤ n + 1 + length (y ∷ ys) in
      cond_both (below x.variable y.variable) _ _ P (λ _. omega (arith, h (y ∷ ys)))
      (λ _. cond_both (below y.variable x.variable) _ _ P (λ _. omega (arith, before_fits x f n h ys)) (λ _. omega (arith, h ys)))

  -- a merge has no more terms than both lists
  pub merged_fits : (xs ys : List (Term V)) → length (merged push combine xs ys) ≤ length xs + length ys
  merged_fits [] ys = omega (arith, length-map ys (pushed push combine))
  merged_fits (x ∷ xs) ys = omega (arith, before_fits x (merged push combine xs) (length xs) (merged_fits xs) ys)

module _ {V : Type 0} (p q : V → V) (c d : V → V → V) where
  before_length : (x : Term V) (f g : List (Term V) → List (Term V)) → ((ys : List (Term V)) → length (f ys) ≡ length (g ys)) → (ys : List (Term V)) → length (before p c x f ys) ≡ length (before q d x g ys)
  before_length x f g h [] = ap suc (h [])
  before_length x f g h (y ∷ ys) =
      let P : List (Term V) → Type 0 = λ l. length l ≡ length (before q d x g (y ∷ ys)) in
      cond_both (below x.variable y.variable) _ _ P (λ e. ap suc (h (y ∷ ys)) ∙ ap length (sym (cond-true _ _ _ e)))
      (λ e. cond_both (below y.variable x.variable) _ _ P
      (λ b. ap suc (before_length x f g h ys) ∙ ap length (sym (cond-false _ _ _ e ∙ cond-true _ _ _ b)))
      (λ b. ap suc (h ys) ∙ ap length (sym (cond-false _ _ _ e ∙ cond-false _ _ _ b))))

  -- how many terms a merge has does not hang on how the numbers combine
  pub merged_length : (xs ys : List (Term V)) → length (merged p c xs ys) ≡ length (merged q d xs ys)
  merged_length [] ys = length-map ys (pushed p c) ∙ sym (length-map ys (pushed q d))
  merged_length (x ∷ xs) ys = before_length x (merged p c xs) (merged q d xs) (merged_length xs) ys
