-- What lists put together, scaled, merged and added to are worth. Assumes nothing.
use Rattle.std.proofs.Common.{◌≡◌, ℕ, zero, suc, true, ltb, List, [], ◌∷◌, ◌++◌, map, length, take, drop, Result, sym, ap, ◌∙◌, ap₂, take-append-drop}
use Rattle.std.proofs.lemmas.Bool.{cond_both, false≢true}
use Rattle.field.specs.Laws.{Model, Keeps}
use Rattle.field.proofs.Rings.{plus_swap, plus_times, times_zero, one_times, neg_times, neg_one, plus_four}
use Rattle.variables.specs.declared.Variable.{Variable}
use Rattle.variables.specs.declared.Term.{Term}
use Rattle.variables.specs.Order.{below}
use Rattle.variables.specs.Worth.{worth}
use Rattle.variables.specs.Terms.{term}
use Rattle.variables.specs.Locate.{seek, first_is, gained, added_at, added}
use Rattle.variables.specs.Merge.{combined, before, merged, merged_sum_scaled}
use Rattle.variables.specs.Laws.{ListsWorth}
use Rattle.variables.proofs.Orders.{equal_means, neither}

module _ {V : Type 0} {m : Model V} (keeps : Keeps m) where
  open m.ring use {Member, zero as none, one, ◌⊕◌ as add, ◌⊗◌ as mul, neg}

  module _ (at : Variable → Member) where
    -- what one term is worth
    abbrev pub each : Term V → Member
    each t = mul (m.stands t.number) (at t.variable)

    pub append_worth : (xs ys : List (Term V)) → worth m at (xs ++ ys) ≡ add (worth m at xs) (worth m at ys)
    append_worth [] ys = sym (keeps.laws.plus_comm none _ ∙ keeps.laws.plus_zero _)
    append_worth (x ∷ xs) ys = ap (add _) (append_worth xs ys) ∙ sym (keeps.laws.plus_assoc _ _ _)

    -- where f stands for k times, for every number
    module _ (f : V → V) (k : Member) (h : (x : V) → m.stands (f x) ≡ mul k (m.stands x)) where
      each_by : (t : Term V) → each (term (f t.number) t.variable) ≡ mul k (each t)
      each_by t = ap (λ x. mul x (at t.variable)) (h t.number) ∙ keeps.laws.times_assoc k (m.stands t.number) (at t.variable)

      pub worth_by : (ts : List (Term V)) → worth m at (map (λ t. term (f t.number) t.variable) ts) ≡ mul k (worth m at ts)
      worth_by [] = sym (times_zero keeps.laws k)
      worth_by (t ∷ ts) = ap₂ add (each_by t) (worth_by ts) ∙ sym (keeps.laws.times_plus k (each t) (worth m at ts))

      -- a merge in which such an f is pushed, and two numbers combine as the first plus k times the second
      module _ (combine : V → V → V) (c : (x y : V) → m.stands (combine x y) ≡ add (m.stands x) (mul k (m.stands y))) where
        before_worth : (x : Term V) (rest : List (Term V) → List (Term V)) (w : Member) → ((ys : List (Term V)) → worth m at (rest ys) ≡ add w (mul k (worth m at ys)))
            → (ys : List (Term V)) → worth m at (before f combine x rest ys) ≡ add (add (each x) w) (mul k (worth m at ys))
        before_worth x rest w r [] = ap (add (each x)) (r []) ∙ sym (keeps.laws.plus_assoc _ _ _)
        before_worth x rest w r (y ∷ ys) =
            let Y = mul k (each y) in
            let W = mul k (worth m at ys) in
            let all = add (add (each x) w) (mul k (add (each y) (worth m at ys))) in
            let spread : add (add (each x) w) (add Y W) ≡ all = ap (add (add (each x) w)) (sym (keeps.laws.times_plus k (each y) (worth m at ys))) in
            let goal : List (Term V) → Type 0 = λ l. worth m at l ≡ all in
            cond_both (below x.variable y.variable) _ _ goal (λ _. ap (add (each x)) (r (y ∷ ys)) ∙ sym (keeps.laws.plus_assoc _ _ _))
            (λ a. cond_both (below y.variable x.variable) _ _ goal
            (λ _. ap₂ add (each_by y) (before_worth x rest w r ys) ∙ plus_swap keeps.laws Y (add (each x) w) W ∙ spread)
            (λ b.
            let v : x.variable ≡ y.variable = neither x.variable y.variable a b in
            let both : each (combined f combine x y) ≡ add (each x) Y =
            ap (λ n. mul n (at x.variable)) (c x.number y.number) ∙ plus_times keeps.laws (m.stands x.number) (mul k (m.stands y.number)) (at x.variable)
            ∙ ap (add (each x)) (keeps.laws.times_assoc k (m.stands y.number) (at x.variable) ∙ ap (λ u. mul k (mul (m.stands y.number) (at u))) v) in
            ap₂ add both (r ys) ∙ plus_four keeps.laws (each x) Y w W ∙ spread))

        pub merged_worth : (xs ys : List (Term V)) → worth m at (merged f combine xs ys) ≡ add (worth m at xs) (mul k (worth m at ys))
        merged_worth [] ys = worth_by ys ∙ sym (keeps.laws.plus_comm none _ ∙ keeps.laws.plus_zero _)
        merged_worth (x ∷ xs) ys = before_worth x (merged f combine xs) (worth m at xs) (merged_worth xs) ys

    -- a term inserted anywhere
    insert_worth : (t : Term V) (i : ℕ) (ts : List (Term V)) → worth m at (take i ts ++ t ∷ drop i ts) ≡ add (each t) (worth m at ts)
    insert_worth t i ts =
        append_worth (take i ts) (t ∷ drop i ts)
        ∙ plus_swap keeps.laws (worth m at (take i ts)) (each t) (worth m at (drop i ts))
        ∙ ap (add (each t)) (sym (append_worth (take i ts) (drop i ts)) ∙ ap (worth m at) (take-append-drop i ts))

    -- a number gained where the variable stands
    gained_worth : (k : V) (v : Variable) (i : ℕ) (ts : List (Term V)) → first_is v (drop i ts) ≡ true → worth m at (gained m k i ts) ≡ add (mul (m.stands k) (at v)) (worth m at ts)
    gained_worth k v zero [] e = absurd (false≢true e)
    gained_worth k v (suc i) [] e = absurd (false≢true e)
    gained_worth k v zero (t ∷ ts) e =
        let same : t.variable ≡ v = equal_means t.variable v e in
        let K = mul (m.stands k) (at v) in
        ap (λ x. add x (worth m at ts))
        (ap (λ x. mul x (at t.variable)) (keeps.plus_stands t.number k) ∙ plus_times keeps.laws (m.stands t.number) (m.stands k) (at t.variable)
        ∙ ap (λ u. add (each t) (mul (m.stands k) (at u))) same)
        ∙ keeps.laws.plus_assoc (each t) K (worth m at ts) ∙ plus_swap keeps.laws (each t) K (worth m at ts)
    gained_worth k v (suc i) (t ∷ ts) e = ap (add (each t)) (gained_worth k v i ts e) ∙ plus_swap keeps.laws (each t) (mul (m.stands k) (at v)) (worth m at ts)

    pub added_worth : (t : Term V) (ts : List (Term V)) → worth m at (added m t ts) ≡ add (each t) (worth m at ts)
    added_worth t ts =
        let i = seek t.variable ts in
        let goal : Result ℕ ℕ → Type 0 = λ r. worth m at (added_at m r t ts) ≡ add (each t) (worth m at ts) in
        cond_both (ltb (length ts) 6) _ _ goal (λ _. insert_worth t i ts)
        (λ _. cond_both (first_is t.variable (drop i ts)) _ _ goal (gained_worth t.number t.variable i ts) (λ _. insert_worth t i ts))

  -- the opposite is minus one times
  minus_by : (x : V) → m.stands (m.minus x) ≡ mul (neg one) (m.stands x)
  minus_by x = keeps.minus_stands x ∙ sym (neg_one keeps.laws (m.stands x))

  same_by : (x : V) → m.stands x ≡ mul one (m.stands x)
  same_by x = sym (one_times keeps.laws (m.stands x))

  times_by : (k x : V) → m.stands (m.times x k) ≡ mul (m.stands k) (m.stands x)
  times_by k x = keeps.times_stands x k ∙ keeps.laws.times_comm _ _

  pub lists_worth : ListsWorth m
  lists_worth = record {
    of_negated = λ at ts. worth_by at m.minus (neg one) minus_by ts ∙ neg_one keeps.laws (worth m at ts);
    of_scaled = λ at k ts. worth_by at (λ x. m.times x k) (m.stands k) (times_by k) ts;
    of_added = added_worth;
    of_sum = λ at xs ys.
        merged_worth at (λ b. b) one same_by m.plus (λ x y. keeps.plus_stands x y ∙ ap (add (m.stands x)) (same_by y)) xs ys
        ∙ ap (add (worth m at xs)) (one_times keeps.laws (worth m at ys));
    of_difference = λ at xs ys.
        merged_worth at m.minus (neg one) minus_by (λ a b. m.plus a (m.minus b)) (λ x y. keeps.plus_stands x (m.minus y) ∙ ap (add (m.stands x)) (minus_by y)) xs ys
        ∙ ap (add (worth m at xs)) (neg_one keeps.laws (worth m at ys));
    of_sum_scaled = scaled_in;
    of_difference_scaled = λ at k xs ys.
        scaled_in at (m.minus k) xs ys
        ∙ ap (add (worth m at xs)) (ap (λ x. mul x (worth m at ys)) (keeps.minus_stands k) ∙ neg_times keeps.laws (m.stands k) (worth m at ys));
  }
    where
      scaled_in : (at : Variable → Member) (k : V) (xs ys : List (Term V)) → worth m at (merged_sum_scaled m k xs ys) ≡ add (worth m at xs) (mul (m.stands k) (worth m at ys))
      scaled_in at k xs ys =
          merged_worth at (m.times k) (m.stands k) (keeps.times_stands k) (λ a b. m.plus a (m.times k b)) (λ x y. keeps.plus_stands x (m.times k y) ∙ ap (add (m.stands x)) (keeps.times_stands k y)) xs ys
