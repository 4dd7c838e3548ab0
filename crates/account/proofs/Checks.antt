-- What a check answers: it has one answer, and rows that hold, put after others, do not change it. Assumes nothing.
use Rattle.std.proofs.Common.{◌≡◌, ℕ, suc, ◌+◌, ◌↔◌, List, [], ◌∷◌, ◌++◌, map, Some, None, Option, sym, refl, ap, ap₂}
use lib.ListN.{get_or-map}
use Rattle.std.specs.List.{AllByRecursion}
use Rattle.std.proofs.ByRecursion.{All-append}
use Rattle.account.specs.Rows.{each, row_at, FailsFirst, FirstFailing}
use Rattle.account.proofs.Lists.{all_split}

module _ {X : Type 0} (H : X → Type 0) where
  none_fails : (xs : List X) (j : ℕ) → AllByRecursion H xs → FailsFirst H xs j → ⊥
  none_fails [] j h f = f
  none_fails (x ∷ xs) ℕ.zero h f = f h.0
  none_fails (x ∷ xs) (suc j) h f = none_fails xs j h.1 f.1

  fails_append : (xs ys : List X) (j : ℕ) → AllByRecursion H ys → FailsFirst H (xs ++ ys) j ↔ FailsFirst H xs j
  fails_append [] ys j h = (none_fails ys j h, λ f. absurd f)
  fails_append (x ∷ xs) ys ℕ.zero h = (λ f. f, λ f. f)
  fails_append (x ∷ xs) ys (suc j) h = let r = fails_append xs ys j h in (λ f. (f.0, r.0 f.1), λ f. (f.0, r.1 f.1))

  first_fails : (xs : List X) (i j : ℕ) → FailsFirst H xs i → FailsFirst H xs j → i ≡ j
  first_fails [] i j f g = absurd f
  first_fails (x ∷ xs) ℕ.zero ℕ.zero f g = refl
  first_fails (x ∷ xs) ℕ.zero (suc j) f g = absurd (f g.0)
  first_fails (x ∷ xs) (suc i) ℕ.zero f g = absurd (g f.0)
  first_fails (x ∷ xs) (suc i) (suc j) f g = ap suc (first_fails xs i j f.1 g.1)

  pub one_answer : (xs : List X) (r s : Option ℕ) → FirstFailing H xs r → FirstFailing H xs s → r ≡ s
  one_answer xs None None f g = refl
  one_answer xs None (Some j) f g = absurd (none_fails xs j f g)
  one_answer xs (Some i) None f g = absurd (none_fails xs i g f)
  one_answer xs (Some i) (Some j) f g = ap Some (first_fails xs i j f g)

  pub first_append : (xs ys : List X) (answer : Option ℕ) → AllByRecursion H ys → FirstFailing H (xs ++ ys) answer ↔ FirstFailing H xs answer
  first_append xs ys None h = (λ f. (all_split H xs ys f).0, λ f. All-append H xs ys f h)
  first_append xs ys (Some j) h = fails_append xs ys j h

-- rows of lists, valued, are the rows of the lists' values
module _ {X Y : Type 0} (f : X → Y) (d : X) (xs : List X) where
  row_each : (k : ℕ) → each f (row_at d xs k) ≡ row_at (f d) (map f xs) k
  row_each k =
      let at = λ (j : ℕ). sym (get_or-map f xs j d) in
      λ i. record { a = at k i; b = at (k + 1) i; c = at (k + 2) i }

  pub rows_each : (ks : List ℕ) → map (each f) (map (row_at d xs) ks) ≡ map (row_at (f d) (map f xs)) ks
  rows_each [] = refl
  rows_each (k ∷ ks) = ap₂ (λ y ys. y ∷ ys) (row_each k) (rows_each ks)
