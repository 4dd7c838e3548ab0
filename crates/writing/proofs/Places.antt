-- What is written into a table in turn, and where lists end that lie one after the other. Assumes nothing.
use Rattle.std.proofs.Common.{◌≡◌, ℕ, ◌+◌, ◌<◌, ◌≤◌, List, [], ◌∷◌, ◌++◌, length, take, drop, sym, refl, ap, ap₂, ◌∙◌, append_assoc, append-nil, arith, length-append, take-append-drop, take_at}
use Rattle.std.specs.Prelude.{slice_set}
use Rattle.std.proofs.lemmas.List.{take-set, drop-set, length-take-le}
use Rattle.std.proofs.lemmas.List.Concat.{flat_map-append}
use Rattle.account.specs.Rows.{ends_from, concatenated}
use Rattle.tables.specs.Held.{put}
use Rattle.tables.proofs.Puts.{put_after}

module _ {X : Type 0} where
  -- nothing written leaves a table as it is
  pub put_none : (xs : List X) (k : ℕ) → put xs k [] ≡ xs
  put_none xs k = ap₂ (λ l n. l ++ drop n xs) (append-nil (take k xs)) (omega arith) ∙ take-append-drop k xs

  -- what is written behind a list that was written is written with it
  pub put_behind : (xs : List X) (k at : ℕ) (ys zs : List X) → k + length ys ≤ length xs → at ≡ k + length ys
      → put (put xs k ys) at zs ≡ put xs k (ys ++ zs)
  put_behind xs k at ys zs fits e =
      let front = take k xs ++ ys in
      let long : length front ≡ at = omega (arith, length-append (take k xs) ys, length-take-le k xs (omega arith)) in
      let after : at + length zs ≡ k + length (ys ++ zs) = omega (arith, length-append ys zs) in
      ap₂ (λ l r. l ++ zs ++ r) (take_at front (drop (k + length ys) xs) at long)
      (put_after xs k ys fits (at + length zs) (omega arith) ∙ ap (λ n. drop n xs) after)
      ∙ ap (λ l. l ++ drop (k + length (ys ++ zs)) xs) (append_assoc (take k xs) ys zs)

  -- one element is a list of one
  put_one : (xs : List X) (n : ℕ) (y : X) → n < length xs → slice_set xs n y ≡ put xs n (y ∷ [])
  put_one xs n y lt =
      sym (take-append-drop n (slice_set xs n y)) ∙ ap₂ (λ l r. l ++ r) (take-set xs n y) (drop-set xs n y lt)
      ∙ sym (append_assoc (take n xs) (y ∷ []) (drop (n + 1) xs))

  pub put_push : (xs : List X) (k at : ℕ) (ys : List X) (y : X) (now : List X) → now ≡ put xs k ys → at < length now
      → k + length ys ≤ length xs → at ≡ k + length ys
      → slice_set now at y ≡ put xs k (ys ++ y ∷ [])
  put_push xs k at ys y now is lt fits e = put_one now at y lt ∙ ap (λ l. put l at (y ∷ [])) is ∙ put_behind xs k at ys (y ∷ []) fits e

  -- lists that lie one after the other, and behind them others
  pub cells_long : (ls ks : List (List X)) → length (concatenated (ls ++ ks)) ≡ length (concatenated ls) + length (concatenated ks)
  cells_long ls ks = ap length (flat_map-append (λ l. l) ls ks) ∙ length-append (concatenated ls) (concatenated ks)

  pub ends_long : (ls : List (List X)) (k : ℕ) → length (ends_from k ls) ≡ length ls
  ends_long [] k = refl
  ends_long (l ∷ ls) k = omega (arith, ends_long ls (k + length l))

  pub ends_append : (ls ks : List (List X)) (k : ℕ) → ends_from k (ls ++ ks) ≡ ends_from k ls ++ ends_from (k + length (concatenated ls)) ks
  ends_append [] ks k = ap (λ n. ends_from n ks) (omega arith)
  ends_append (l ∷ ls) ks k =
      let past : k + length l + length (concatenated ls) ≡ k + length (l ++ concatenated ls) = omega (arith, length-append l (concatenated ls)) in
      ap (λ es. (k + length l) ∷ es) (ends_append ls ks (k + length l) ∙ ap (λ n. ends_from (k + length l) ls ++ ends_from n ks) past)
