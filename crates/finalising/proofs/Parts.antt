-- Tables of which the places that count were lent and given back. Assumes nothing.
use Rattle.std.proofs.Common.{◌≡◌, ℕ, ◌≤◌, ◌<◌, List, ◌++◌, length, take, drop, Result, sym, ap, ◌∙◌, subst₂, ⊎_elim, append-nil, arith, length-append}
use Rattle.std.proofs.lemmas.Bool.{cases_lt}
use Rattle.std.proofs.lemmas.List.{length-take-le, length-drop, take_at, take_all, drop_at, drop_all}
use Rattle.field.specs.Laws.{Model}
use Rattle.variables.specs.declared.Term.{Term}
use Rattle.variables.specs.declared.Refusal.{Refusal}
use Rattle.account.specs.Refusals.{limit, capacity}
use Rattle.tables.specs.declared.Counts.{Counts}
use Rattle.tables.specs.declared.Entry.{Entry}
use Rattle.tables.specs.Held.{counted, room, StaysBeyond}
use Rattle.finishing.specs.Steps.{Picks, started, trimmed, next_entries}
use Rattle.finalising.specs.Lent.{lent, gives, KeepsUsed}
use Rattle.finalising.specs.Finishing.{Finishable, FinishedBy}

module _ {X : Type 0} (n : ℕ) (xs : List X) (e : n ≡ capacity (length xs)) where
  within_table : n ≤ length xs
  within_table = omega (arith, e)

  -- what is lent are the places that count
  lent_counted : take n xs ≡ counted xs
  lent_counted = ⊎_elim few many (cases_lt (length xs) limit)
    where
      few : length xs < limit → take n xs ≡ counted xs
      few h = take_all n xs (omega (arith, e, h)) ∙ sym (take_all limit xs (omega (arith, h)))

      many : limit ≤ length xs → take n xs ≡ counted xs
      many h = let same : n ≡ limit = omega (arith, e, h) in ap (λ k. take k xs) same

  module _ (ys : List X) (long : length ys ≡ length (take n xs)) where
    ys_long : length ys ≡ n
    ys_long = long ∙ length-take-le n xs within_table

    back_counted : counted (ys ++ drop n xs) ≡ ys
    back_counted = ⊎_elim few many (cases_lt (length xs) limit)
      where
        few : length xs < limit → counted (ys ++ drop n xs) ≡ ys
        few h = ap (λ l. counted (ys ++ l)) (drop_all n xs (omega (arith, e, h)))
            ∙ ap counted (append-nil ys) ∙ take_all limit ys (omega (arith, ys_long, e))

        many : limit ≤ length xs → counted (ys ++ drop n xs) ≡ ys
        many h = take_at ys (drop n xs) limit (omega (arith, ys_long, e, h))

    -- and the others stay
    back_stays : StaysBeyond xs (ys ++ drop n xs)
    back_stays = record { length = long_back; beyond = ⊎_elim few many (cases_lt (length xs) limit) }
      where
        long_back : length (ys ++ drop n xs) ≡ length xs
        long_back = omega (arith, length-append ys (drop n xs), ys_long, length-drop n xs, within_table)

        few : length xs < limit → drop limit (ys ++ drop n xs) ≡ drop limit xs
        few h = drop_all limit (ys ++ drop n xs) (omega (arith, long_back, h)) ∙ sym (drop_all limit xs (omega (arith, h)))

        many : limit ≤ length xs → drop limit (ys ++ drop n xs) ≡ drop limit xs
        many h = let same : n ≡ limit = omega (arith, e, h) in drop_at ys (drop n xs) limit (ys_long ∙ same) ∙ ap (λ k. drop k xs) same

module _ {V : Type 0} (c : Counts) (ts : List (Term V)) (index : List Entry) (i w : List V) (p q r : ℕ)
    (few_terms : p ≡ capacity (length ts)) (few_entries : q ≡ capacity (length index)) (few_values : r ≡ capacity (length w)) where
  pub finishable_part : (kept : List V) → Finishable (lent c (counted ts) (counted index) kept (take r w))
      → Finishable (lent c (take p ts) (take q index) kept (take r w))
  finishable_part kept h =
      let one = sym (lent_counted p ts few_terms) in
      let two = sym (lent_counted q index few_entries) in
      subst₂ (λ a b. Finishable (lent c a b kept (take r w))) one two h

  -- what the steps over the places that count leave of the whole tables
  pub finished_by : (m : Model V) (picks : Picks V) (kept : List V) → kept ≡ take c.instances (counted i)
      → (tn : List (Term V)) (en : List Entry) (wn : List V) (answer : Result Counts Refusal)
      → next_entries m picks (length (take p ts)) 0 c.entries (started (lent c (take p ts) (take q index) kept (take r w)))
      ≡ gives (λ k. trimmed (lent k tn en kept wn)) answer
      → KeepsUsed (lent c (take p ts) (take q index) kept (take r w)) (lent c tn en kept wn)
      → FinishedBy m picks (lent c ts index i w) answer (tn ++ drop p ts) (en ++ drop q index) (wn ++ drop r w)
  finished_by m picks kept same tn en wn answer does stays =
      let one = lent_counted p ts few_terms in
      let two = lent_counted q index few_entries in
      let three = lent_counted r w few_values in
      let terms = back_counted p ts few_terms tn stays.long_terms in
      let entries = back_counted q index few_entries en stays.long_index in
      let values = back_counted r w few_values wn stays.long_witnesses in
      let places : length (take p ts) ≡ room ts = length-take-le p ts (within_table p ts few_terms) ∙ few_terms in
      let before : lent c (take p ts) (take q index) kept (take r w) ≡ lent c (counted ts) (counted index) (take c.instances (counted i)) (counted w)
      = λ j. lent c (one j) (two j) (same j) (three j) in
      let after : (k : Counts) → lent k tn en kept wn
      ≡ lent k (counted (tn ++ drop p ts)) (counted (en ++ drop q index)) (take c.instances (counted i)) (counted (wn ++ drop r w))
      = λ k j. lent k (sym terms j) (sym entries j) (same j) (sym values j) in
      record {
        steps = sym (λ j. next_entries m picks (places j) 0 c.entries (started (before j))) ∙ does ∙ (λ j. gives (λ k. trimmed (after k j)) answer);
        kept = subst₂ KeepsUsed before (after c) stays;
        beyond_terms = back_stays p ts few_terms tn stays.long_terms;
        beyond_index = back_stays q index few_entries en stays.long_index;
        beyond_witnesses = back_stays r w few_values wn stays.long_witnesses;
      }
