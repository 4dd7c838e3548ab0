-- What a rule picks is outlined in one way only. Assumes nothing.
use Rattle.std.proofs.Common.{◌≡◌, ℕ, suc, ◌+◌, ◌-◌, ◌*◌, ◌/◌, ◌%◌, ◌<◌, ◌≤◌, true, false, ◌⊎◌, List, [], map, length, take, get_or, sym, refl, ap, ◌∙◌, subst, add-zero, inl, inr, ⊎_elim, arith, length-append}
use lib.ListN.{length-map}
use Rattle.std.specs.List.{AllByRecursion, Contains}
use Rattle.std.proofs.lemmas.Bool.{cases_lt}
use Rattle.std.proofs.lemmas.List.{ext_get_or, get_or_default, get_or-take, take_all, take-take, take_more_same}
use Rattle.std.proofs.lemmas.List.Elements.{All-from_recursion}
use Rattle.std.proofs.Math.Nat.{eq-or-lt_of_le}
use Rattle.std.proofs.ByRecursion.{All-weaker, All-map}
use Rattle.field.specs.Laws.{Model}
use Rattle.variables.specs.declared.Variable.TheVariants.{One, Witness}
use Rattle.variables.specs.declared.Term.{Term}
use Rattle.account.specs.Given.{Given, lists}
use Rattle.account.specs.Finish.{Rule, Outlined, Finishing, inlined, single, finish}
use Rattle.account.specs.Rows.{row_at, row_lists, added_row, finished_lists}
use Rattle.account.specs.Laws.{merged_at, OutlinedBy, OutlinedOnce}
use Rattle.account.proofs.Indexes.{three_each}
use Rattle.account.proofs.Counts.{finish_long, finish_taken}
use Rattle.account.proofs.Picks.{outlines}

-- the first j of some numbers are below k, and no other
record Passed (ks : List ℕ) (j k : ℕ) : Type 0 where
  fits : j ≤ length ks
  before : (i : ℕ) → i < j → get_or ks i 0 < k
  after : (i : ℕ) → j ≤ i → i < length ks → k ≤ get_or ks i 0

-- so where all are below k, these are all of them
all_passed : (ks : List ℕ) (j : ℕ) {k : ℕ} → AllByRecursion (λ e. e < k) ks → Passed ks j k → length ks ≤ j
all_passed ks j {k} below p =
    let no_more : j < length ks → length ks ≤ j
    = λ lt. absurd (omega (arith, p.after j (omega arith) lt, All-from_recursion (λ e. e < k) ks below j 0 lt)) in
    ⊎_elim no_more (λ (le : length ks ≤ j). le) (cases_lt j (length ks))

-- one step on, where the numbers rise
module _ (ks : List ℕ) (rising : (i j : ℕ) → i < j → j < length ks → get_or ks i 0 < get_or ks j 0) (j k : ℕ) (p : Passed ks j k) where
  passed_at : j < length ks → get_or ks j 0 ≡ k → Passed ks (j + 1) (k + 1)
  passed_at lt is = record {
    fits = omega arith;
    before = λ i b.
        let last : i ≡ j → get_or ks i 0 ≡ k = λ e. ap (λ x. get_or ks x 0) e ∙ is in
        ⊎_elim (λ (e : i ≡ j). omega (arith, last e)) (λ (less : i < j). omega (arith, p.before i less)) (eq-or-lt_of_le (omega arith));
    after = λ i a b. omega (arith, rising j i (omega arith) b);
  }

  -- where number j is more than k, or there is none
  module _ (more : j < length ks → k < get_or ks j 0) where
    all_more : (i : ℕ) → j ≤ i → i < length ks → k < get_or ks i 0
    all_more i a b =
        let here : k < get_or ks j 0 = more (omega arith) in
        ⊎_elim (λ (e : j ≡ i). subst (λ x. k < get_or ks x 0) e here) (λ (further : j < i). omega (arith, rising j i further b)) (eq-or-lt_of_le a)

    passed_none : Passed ks j (k + 1)
    passed_none = record { fits = p.fits; before = λ i b. omega (arith, p.before i b); after = λ i a b. omega (arith, all_more i a b) }

    not_in : Contains ks k → ⊥
    not_in c =
        let is : get_or ks c.0 0 ≡ k = get_or_default ks c.0 0 k c.1 ∙ c.2 in
        ⊎_elim (λ (less : c.0 < j). omega (arith, p.before c.0 less)) (λ (le : j ≤ c.0). omega (arith, all_more c.0 le c.1)) (cases_lt c.0 j)

-- rows that are the same have the same lists
in_row : {X : Type 0} (d : X) (xs ys : List X) (p r : ℕ) → r < 3 → row_at d xs p ≡ row_at d ys p → get_or xs (p + r) d ≡ get_or ys (p + r) d
in_row d xs ys p ℕ.zero lt e = rw add-zero (ap (λ row. row.a) e)
in_row d xs ys p (suc ℕ.zero) lt e = ap (λ row. row.b) e
in_row d xs ys p (suc (suc ℕ.zero)) lt e = ap (λ row. row.c) e
in_row d xs ys p (suc (suc (suc r))) lt e = absurd (omega arith)

module _ {V : Type 0} (m : Model V) (rule : Rule V) (w : ℕ) (given : List (Given V)) where
  -- one way to outline what the rule picks
  record Way (fs : List (List (Term V))) (ks : List ℕ) : Type 0 where
    long : length fs ≡ length given + 3 * length ks
    below : AllByRecursion (λ k. k < length given) ks
    outlined : OutlinedBy m rule w given fs ks

  -- entry k where the rule picks it: it is combination j
  record Picks (fs : List (List (Term V))) (ks : List ℕ) (j k : ℕ) : Type 0 where
    there : j < length ks
    is : get_or ks j 0 ≡ k
    picks : rule k (merged_at m given fs k) ≡ true
    list : get_or fs k [] ≡ single m (Witness (w + j))
    next : Passed ks (j + 1) (k + 1)

  -- entry k where the rule does not: the first j combinations stay those below it
  record Leaves (fs : List (List (Term V))) (ks : List ℕ) (j k : ℕ) : Type 0 where
    leaves : rule k (merged_at m given fs k) ≡ false
    list : get_or fs k [] ≡ merged_at m given fs k
    next : Passed ks j (k + 1)

  module _ (fs : List (List (Term V))) (ks : List ℕ) (h : Way fs ks) (j k : ℕ) (lt : k < length given) (p : Passed ks j k) where
    picks_here : j < length ks → get_or ks j 0 ≡ k → Picks fs ks j k
    picks_here there is =
        let here = h.outlined.picked j there in
        record {
          there = there;
          is = is;
          picks = ap (λ e. rule e (merged_at m given fs e)) (sym is) ∙ here.0;
          list = ap (λ e. get_or fs e []) (sym is) ∙ here.1;
          next = passed_at ks h.outlined.rising j k p there is;
        }

    leaves_here : (j < length ks → k < get_or ks j 0) → Leaves fs ks j k
    leaves_here more =
        let here = h.outlined.not_picked k lt (not_in ks h.outlined.rising j k p more) in
        record { leaves = here.0; list = here.1; next = passed_none ks h.outlined.rising j k p more }

    either : Picks fs ks j k ⊎ Leaves fs ks j k
    either =
        let at_next : j < length ks → Picks fs ks j k ⊎ Leaves fs ks j k
        = λ there.
        ⊎_elim (λ (is : k ≡ get_or ks j 0). inl (picks_here there (sym is))) (λ (more : k < get_or ks j 0). inr (leaves_here (λ _. more)))
        (eq-or-lt_of_le (p.after j (omega arith) there)) in
        ⊎_elim at_next (λ (le : length ks ≤ j). inr (leaves_here (λ there. absurd (omega arith)))) (cases_lt j (length ks))

  -- two ways to outline what the rule picks
  module _ (fs gs : List (List (Term V))) (ks ls : List ℕ) (f : Way fs ks) (g : Way gs ls) where
    -- they are alike in the first k entries
    record Alike (k : ℕ) : Type 0 where
      many : ℕ
      first_passed : Passed ks many k
      second_passed : Passed ls many k
      lists_same : take k fs ≡ take k gs
      combinations_same : take many ks ≡ take many ls

    -- what entry k is merged to is made of the entries before it
    merged_same : (k : ℕ) → take k fs ≡ take k gs → merged_at m given fs k ≡ merged_at m given gs k
    merged_same k e = ap (λ l. inlined m l (get_or (lists given) k [])) e

    -- one entry more
    module _ (k : ℕ) (lt : k < length given) (a : Alike k) where
      abbrev picked_same : rule k (merged_at m given fs k) ≡ rule k (merged_at m given gs k)
      picked_same = ap (rule k) (merged_same k a.lists_same)

      more_same : get_or fs k [] ≡ get_or gs k [] → take (k + 1) fs ≡ take (k + 1) gs
      more_same e = take_more_same fs gs k [] (omega (arith, f.long)) (omega (arith, g.long)) a.lists_same e

      both_pick : Picks fs ks a.many k → Picks gs ls a.many k → Alike (k + 1)
      both_pick p q = record {
        many = a.many + 1;
        first_passed = p.next;
        second_passed = q.next;
        lists_same = more_same (p.list ∙ sym q.list);
        combinations_same = take_more_same ks ls a.many 0 p.there q.there a.combinations_same (p.is ∙ sym q.is);
      }

      both_leave : Leaves fs ks a.many k → Leaves gs ls a.many k → Alike (k + 1)
      both_leave p q = record {
        many = a.many;
        first_passed = p.next;
        second_passed = q.next;
        lists_same = more_same (p.list ∙ merged_same k a.lists_same ∙ sym q.list);
        combinations_same = a.combinations_same;
      }

      pick_leave : Picks fs ks a.many k → Leaves gs ls a.many k → Alike (k + 1)
      pick_leave p q = let e : true ≡ false = sym p.picks ∙ picked_same ∙ q.leaves in absurd (cc)

      leave_pick : Leaves fs ks a.many k → Picks gs ls a.many k → Alike (k + 1)
      leave_pick p q = let e : true ≡ false = sym q.picks ∙ sym picked_same ∙ p.leaves in absurd (cc)

      alike_more : Alike (k + 1)
      alike_more =
          let second = either gs ls g a.many k lt a.second_passed in
          ⊎_elim
          (λ (p : Picks fs ks a.many k). ⊎_elim (both_pick p) (pick_leave p) second)
          (λ (p : Leaves fs ks a.many k). ⊎_elim (leave_pick p) (both_leave p) second)
          (either fs ks f a.many k lt a.first_passed)

    alike : (k : ℕ) → k ≤ length given → Alike k
    alike ℕ.zero le =
        let nothing : (ms : List ℕ) → Passed ms 0 0
        = λ ms. record { fits = omega arith; before = λ i b. absurd (omega arith); after = λ i a b. omega arith } in
        record { many = 0; first_passed = nothing ks; second_passed = nothing ls; lists_same = refl; combinations_same = refl }
    alike (suc k) le = subst Alike (omega arith) (alike_more k (omega arith) (alike k (omega arith)))

    abbrev all : Alike (length given)
    all = alike (length given) (omega arith)

    combinations_once : ks ≡ ls
    combinations_once =
        let first : take all.many ks ≡ ks = take_all all.many ks (all_passed ks all.many f.below all.first_passed) in
        let second : take all.many ls ≡ ls = take_all all.many ls (all_passed ls all.many g.below all.second_passed) in
        sym first ∙ all.combinations_same ∙ second

    rows_once : (j : ℕ) → j < length ks → row_at [] fs (length given + 3 * j) ≡ row_at [] gs (length given + 3 * j)
    rows_once j lt =
        let k = get_or ks j 0 in
        let inside : k ≤ length given = omega (arith, All-from_recursion (λ e. e < length given) ks f.below j 0 lt) in
        let before : take k fs ≡ take k gs = sym (take-take k (length given) fs inside) ∙ ap (take k) all.lists_same ∙ take-take k (length given) gs inside in
        let merged : merged_at m given fs k ≡ merged_at m given gs (get_or ls j 0)
        = merged_same k before ∙ ap (λ es. merged_at m given gs (get_or es j 0)) combinations_once in
        let here = f.outlined.picked j lt in
        let there = g.outlined.picked j (omega (arith, ap length combinations_once)) in
        here.2 ∙ ap (λ a. record { a = a; b = single m One; c = single m (Witness (w + j)) }) merged ∙ sym there.2

    lists_once : fs ≡ gs
    lists_once =
        let n = length given in
        let given_once : (i : ℕ) → i < n → get_or fs i [] ≡ get_or gs i []
        = λ i lt. sym (get_or-take n fs i [] lt) ∙ ap (λ l. get_or l i []) all.lists_same ∙ get_or-take n gs i [] lt in
        let added_once : (i : ℕ) → n ≤ i → i < length fs → get_or fs i [] ≡ get_or gs i []
        = λ i le lt.
        let j = (i - n) / 3 in
        let r = (i - n) % 3 in
        let place : n + 3 * j + r ≡ i = omega arith in
        subst (λ p. get_or fs p [] ≡ get_or gs p []) place (in_row [] fs gs (n + 3 * j) r (omega arith) (rows_once j (omega (arith, f.long)))) in
        ext_get_or [] fs gs (omega (arith, f.long, g.long, ap length combinations_once))
        (λ i lt. ⊎_elim (λ (less : i < n). given_once i less) (λ (le : n ≤ i). added_once i le lt) (cases_lt i n))

  -- what finalising makes is one way
  abbrev done : Finishing V
  done = finish m rule w (lists given)

  finish_way : Way (finished_lists m done) (map (λ o. o.entry) done.outlined)
  finish_way =
      let rs = map (added_row m) done.outlined in
      let many : length (map (λ (o : Outlined V). o.entry) done.outlined) ≡ length rs
      = length-map done.outlined (λ (o : Outlined V). o.entry) ∙ sym (length-map done.outlined (added_row m)) in
      let same : length (lists given) ≡ length given = length-map given (λ (x : Given V). x.terms) in
      record {
        long = omega (arith, length-append done.finished (row_lists rs), three_each rs, many, finish_long m rule w (lists given), same);
        below = All-map (λ k. k < length given) (λ o. o.entry) done.outlined
            (All-weaker _ _ (λ o b. omega (arith, same)) done.outlined (finish_taken m rule w (lists given)));
        outlined = outlines m rule w given;
      }

  once : (fs : List (List (Term V))) (ks : List ℕ) → Way fs ks → (fs ≡ finished_lists m done) × (ks ≡ map (λ o. o.entry) done.outlined)
  once fs ks h =
      let made = finished_lists m done in
      let entries : List ℕ = map (λ o. o.entry) done.outlined in
      (lists_once fs made ks entries h finish_way, combinations_once fs made ks entries h finish_way)

pub outlined_once : {V : Type 0} (m : Model V) → OutlinedOnce m
outlined_once m rule w given finished combinations long below outlined =
    once m rule w given finished combinations (record { long = long; below = below; outlined = outlined })
