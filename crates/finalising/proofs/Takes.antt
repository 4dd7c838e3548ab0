-- What a step answers and leaves in each of its cases. Assumes nothing.
use Rattle.std.proofs.Common.{◌≡◌, ℕ, ◌+◌, ◌≤◌, Bool, true, false, cond, List, [], ◌∷◌, ◌++◌, length, take, drop, Ok, Err, Option, Result, sym, refl, ap, ap₂, ◌∙◌, subst}
use Rattle.std.specs.Prelude.{OnOk, slice_set}
use Rattle.std.specs.Option.{option_map}
use Rattle.std.specs.Result.{result_err}
use Rattle.std.proofs.lemmas.List.{length-take-le, drop_at, drop-take}
use Rattle.field.specs.Laws.{Model}
use Rattle.variables.specs.declared.Term.{Term}
use Rattle.variables.specs.declared.Refusal.{Refusal}
use Rattle.variables.specs.declared.Refusal.TheVariants.{TermsFull}
use Rattle.variables.specs.Refusals.{Told, told}
use Rattle.account.specs.Finish.{lacks, unless}
use Rattle.account.specs.Refusals.{when, first, value_places}
use Rattle.tables.specs.declared.Entry.{Entry}
use Rattle.tables.specs.Held.{State}
use Rattle.finishing.specs.Layout.{with_finished}
use Rattle.finishing.specs.Checks.{unless_refused}
use Rattle.finishing.specs.Steps.{Picks, trimmed, entry_at, kept_at, outlined_at, expanded_at, merged_at, settle_at, next_entry}
use Rattle.finalising.specs.Lent.{lent, gives, row_tests}

-- tests that are made one after another refuse as the first of them that does
three_tests : {X : Type 0} (a b c : Bool) (x : X)
    → unless a 14 (unless b 12 (unless c 13 (Ok x))) ≡ unless_refused (first (when a 14 ∷ when b 12 ∷ when c 13 ∷ [])) x
three_tests true b c x = refl
three_tests false true c x = refl
three_tests false false true x = refl
three_tests false false false x = refl

-- an answer whose refusal is told
answer_told : {X S : Type 0} (r : Result X Refusal) (s t : S) → OnOk r (t ≡ s) → unless_refused (option_map told (result_err r)) s ≡ gives (λ _. t) r
answer_told (Ok x) s t e = ap (λ z. Ok z) (sym e)
answer_told (Err e) s t h = refl

-- merging refuses where there are fewer places than are due, and else says how long the merged list is
abbrev merging : Bool → ℕ → Result ℕ Refusal
merging fails n = cond fails (Err TermsFull) (Ok n)

merge_refused : {X : Type 0} (fails : Bool) (n : ℕ) (e : Refusal) (next : Result X Told) → Err e ≡ merging fails n → unless fails 14 next ≡ Err (told e)
merge_refused true n e next h = let same : TermsFull ≡ e = cc in ap (λ r. Err (told r)) same
merge_refused false n e next h = absurd (cc)

merge_answered : (fails : Bool) (n k : ℕ) → Ok k ≡ merging fails n → (fails ≡ false) × (k ≡ n)
merge_answered true n k h = absurd (cc)
merge_answered false n k h = (refl, cc)

-- the step at entry `at` of a circuit over its places
module _ {V : Type 0} (m : Model V) (picks : Picks V) (b : State V) (at : ℕ) where
  abbrev before : State V
  before = trimmed b

  abbrev merged : List (Term V)
  merged = merged_at m before at

  abbrev step : Result (State V) Told
  step = next_entry m picks (length b.tables.terms) at before

  -- whether there are too few places to write the list out
  abbrev full : Bool
  full = lacks (b.counts.terms + length (expanded_at m before at)) (length b.tables.terms)

  abbrev uses : ℕ
  uses = (entry_at before at).finished_len

  -- what outlining answers, and leaves
  abbrev row_refusal : (end terms : ℕ) → Option Told
  row_refusal end terms = first (row_tests b.counts end terms (length b.tables.index) (length b.tables.witnesses))

  abbrev outlining : Result (State V) Told
  outlining = unless_refused (row_refusal (b.counts.terms + length merged) (length b.tables.terms)) (outlined_at m before at merged)

  pub step_refused : (e : Refusal) → Err e ≡ merging full (length merged) → step ≡ Err (told e)
  unfolding next_entry
  step_refused e h = merge_refused full (length merged) e (settle_at m picks (length b.tables.terms) before at merged) h

  -- what merging answers and leaves in the term places, where it is accepted
  module _ (now : List (Term V)) (n : ℕ) (there : b.counts.terms ≤ length b.tables.terms)
      (answer : Ok n ≡ merging full (length merged)) (written : take (b.counts.terms + n) now ≡ take b.counts.terms b.tables.terms ++ merged) where
    long : n ≡ length merged
    long = (merge_answered full (length merged) n answer).1

    -- the merged list
    part : take n (drop b.counts.terms now) ≡ merged
    part =
        sym (drop-take b.counts.terms n now) ∙ ap (drop b.counts.terms) written
        ∙ drop_at (take b.counts.terms b.tables.terms) merged b.counts.terms (length-take-le b.counts.terms b.tables.terms there)

    -- a step that finds places to write the list out, by whether the merged list is picked
    settles : (picked : Bool) → picked ≡ picks uses (take n (drop b.counts.terms now)) → step ≡ cond picked outlining (Ok (kept_at before at merged))
    unfolding next_entry
    settles picked p =
        let terms = lacks (b.counts.terms + length merged + 2) (length b.tables.terms) in
        let witnesses = lacks (b.counts.witnesses + 1) (value_places b.counts.mode (length b.tables.witnesses)) in
        let entries = lacks (b.counts.entries + 3) (length b.tables.index) in
        ap (λ fails. unless fails 14 (settle_at m picks (length b.tables.terms) before at merged)) (merge_answered full (length merged) n answer).0
        ∙ ap₂ (λ (z : Bool) (r : Result (State V) Told). cond z r (Ok (kept_at before at merged))) (ap (picks uses) (sym part) ∙ sym p)
        (three_tests terms witnesses entries (outlined_at m before at merged))

    -- where it is not picked, it is the finished list
    pub step_kept : (picked : Bool) → picked ≡ picks uses (take n (drop b.counts.terms now)) → picked ≡ false
        → (es : List Entry) → es ≡ slice_set b.tables.index at (with_finished b.counts.terms n (entry_at b at))
        → step ≡ Ok (trimmed (lent (record b.counts { terms = b.counts.terms + n }) now es b.tables.instances b.tables.witnesses))
    step_kept picked p left es e =
        let noted = e ∙ ap (λ k. slice_set b.tables.index at (with_finished b.counts.terms k (entry_at b at))) long in
        settles picked p ∙ ap (λ z. cond z outlining (Ok (kept_at before at merged))) left
        ∙ sym (λ i. Ok (lent (record b.counts { terms = b.counts.terms + long i }) (written i) (noted i) b.tables.instances b.tables.witnesses))

    -- where it is, the places of the added row are looked for
    pub step_outlined : (picked : Bool) → picked ≡ picks uses (take n (drop b.counts.terms now)) → picked ≡ true
        → take b.counts.terms now ≡ take b.counts.terms b.tables.terms → length now ≡ length b.tables.terms
        → {X : Type 0} (r : Result X Refusal) (t : State V) → row_refusal (b.counts.terms + n) (length now) ≡ option_map told (result_err r)
        → OnOk r (t ≡ outlined_at m (trimmed (lent b.counts now b.tables.index b.tables.instances b.tables.witnesses)) at (take n (drop b.counts.terms now)))
        → step ≡ gives (λ _. t) r
    step_outlined picked p chosen same same_long r t refuses outlined =
        let state : outlined_at m (trimmed (lent b.counts now b.tables.index b.tables.instances b.tables.witnesses)) at (take n (drop b.counts.terms now))
        ≡ outlined_at m before at merged
        = λ i. outlined_at m (lent b.counts (same i) b.tables.index b.tables.instances b.tables.witnesses) at (part i) in
        settles picked p ∙ ap (λ z. cond z outlining (Ok (kept_at before at merged))) chosen
        ∙ ap (λ o. unless_refused o (outlined_at m before at merged))
        (ap₂ (λ k places. row_refusal (b.counts.terms + k) places) (sym long) (sym same_long) ∙ refuses)
        ∙ answer_told r (outlined_at m before at merged) t (subst (λ s. OnOk r (t ≡ s)) state outlined)
