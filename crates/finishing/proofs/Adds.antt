-- The values of added witnesses, as the steps of finalising write them. Assumes nothing.
use Rattle.std.proofs.Common.{◌≡◌, ℕ, ◌+◌, ◌≤◌, List, [], ◌∷◌, ◌++◌, length, take, set, Some, sym, refl, ap, ◌∙◌, subst, append_assoc, arith, length-append}
use Rattle.std.specs.Option.{option_to_list}
use Rattle.std.proofs.lemmas.List.{length-set, length-take-le, take_more_set, length_push}
use Rattle.field.specs.Laws.{Model, Keeps}
use Rattle.variables.specs.Evaluate.{SymbolFree, read, evaluated}
use Rattle.account.specs.declared.SynthesisMode.{SynthesisMode}
use Rattle.account.specs.declared.SynthesisMode.TheVariants.{Setup, Prove}
use Rattle.account.specs.Account.{KeepsValues}
use Rattle.account.specs.Finish.{Outlined}
use Rattle.account.specs.Evaluate.{added_after}
use Rattle.account.proofs.Counts.{Only}
use Rattle.account.proofs.Evaluates.{merged_means}
use Rattle.tables.specs.Sound.{kept_instances, kept_witnesses}
use Rattle.finishing.specs.Steps.{with_added}

module _ {V : Type 0} {m : Model V} (keeps : Keeps m) where
  -- one added witness more
  added_push : (instances witnesses added : List V) (os : List (Outlined V)) (o : Outlined V)
      → added_after m instances witnesses added (os ++ o ∷ [])
      ≡ added_after m instances witnesses added os
      ++ option_to_list (evaluated m (read m instances (witnesses ++ added_after m instances witnesses added os) []) o.merged)
  added_push instances witnesses added [] o = refl
  added_push instances witnesses added (p ∷ os) o =
      added_push instances witnesses (added ++ option_to_list (evaluated m (read m instances (witnesses ++ added) []) p.merged)) os o

  module _ (n w : ℕ) (instances witnesses : List V) where
    -- The table of witnesses holds the kept values and, behind them, those of the witnesses added so far; in Setup it is as it was.
    pub record Values (mode : SynthesisMode) (os : List (Outlined V)) (now : List V) : Type 0 where
      pub long : length now ≡ length witnesses
      pub fit : KeepsValues mode → w + length os ≤ length now
      pub there : KeepsValues mode → take (w + length os) now
          ≡ kept_witnesses mode w witnesses ++ added_after m (kept_instances mode n instances) (kept_witnesses mode w witnesses) [] os
      pub setup : (KeepsValues mode → ⊥) → now ≡ witnesses

    -- so it does after the value of one more was written
    pub values_more : (mode : SynthesisMode) (os : List (Outlined V)) (o : Outlined V) (now : List V) → (KeepsValues mode → n ≤ length instances)
        → (KeepsValues mode → w + length os + 1 ≤ length now) → Only (SymbolFree n (w + length os)) o.merged → Values mode os now
        → Values mode (os ++ o ∷ [])
        (with_added mode (evaluated m (read m (take n instances) (take (w + length os) now) []) o.merged) (w + length os) now)
    values_more Setup os o now enough free only h = record { long = h.long; fit = λ k. absurd k; there = λ k. absurd k; setup = h.setup }
    values_more (Prove matrices) os o now enough free only h =
        let k = w + length os in
        let is = take n instances in
        let ws = take w witnesses in
        let added = added_after m is ws [] os in
        let there : take k now ≡ ws ++ added = h.there tt in
        let fit : k ≤ length now = h.fit tt in
        let many : length is ≡ n = length-take-le n instances (enough tt) in
        let kept : length ws ≡ w = length-take-le w witnesses (omega (arith, h.long, fit)) in
        let size : length ws + length added ≡ k = sym (length-append ws added) ∙ ap length (sym there) ∙ length-take-le k now fit in
        let got = merged_means keeps is ws added o.merged (subst (λ i. Only (SymbolFree i (length ws + length added)) o.merged) (sym many)
        (subst (λ j. Only (SymbolFree n j) o.merged) (sym size) only)) in
        let v = got.0 in
        let worked : evaluated m (read m is (take k now) []) o.merged ≡ Some v = ap (λ z. evaluated m (read m is z []) o.merged) there ∙ got.1 in
        let count : w + length (os ++ o ∷ []) ≡ k + 1 = omega (arith, length_push os o) in
        let more : added_after m is ws [] (os ++ o ∷ []) ≡ added ++ v ∷ []
        = added_push is ws [] os o ∙ ap (λ z. added ++ option_to_list z) got.1 in
        subst (λ z. Values (Prove matrices) (os ++ o ∷ []) (with_added (Prove matrices) z k now)) (sym worked)
        (record {
          long = length-set now k v ∙ h.long;
          fit = λ _. omega (arith, count, free tt, length-set now k v);
          there = λ _.
              ap (λ i. take i (set now k v)) count ∙ take_more_set now k v (omega (arith, free tt)) ∙ ap (λ l. l ++ v ∷ []) there
              ∙ append_assoc ws added (v ∷ []) ∙ ap (λ l. ws ++ l) (sym more);
          setup = λ empty. absurd (empty tt);
        })
