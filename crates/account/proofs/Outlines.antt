-- What is outlined has a use, and so is a list that a call named. Assumes nothing.
use Rattle.std.proofs.Common.{◌≡◌, ℕ, suc, ◌+◌, ◌*◌, ◌<◌, true, false, eqb, ◌⊎◌, List, [], ◌∷◌, ◌++◌, length, get_or, Some, sym, ap, ◌∙◌, subst, inl, inr, ⊎_elim, append_assoc, arith, length-append, refl}
use Rattle.std.specs.List.{AllByRecursion, slice_get}
use Rattle.std.proofs.lemmas.List.{get_or_append_left}
use Rattle.std.proofs.lemmas.Option.{slice_get-get_or}
use Rattle.std.proofs.ByRecursion.{All-push, All-weaker}
use Rattle.std.proofs.lemmas.Bool.{cases_Bool, cond_both, cond-false, eqb-true, ltb-true, true≢false}
use Rattle.field.specs.Laws.{Model}
use Rattle.variables.specs.declared.Variable.{Variable}
use Rattle.variables.specs.declared.Variable.TheVariants.{Zero, One, Instance, Witness, SymbolicLc}
use Rattle.variables.specs.declared.Term.{Term}
use Rattle.account.specs.declared.Mark.{Mark}
use Rattle.account.specs.declared.Mark.TheVariants.{Plain, A}
use Rattle.account.specs.declared.OptimizationGoal.{OptimizationGoal}
use Rattle.account.specs.declared.OptimizationGoal.TheVariants.{None as NoGoal, Constraints, Weight}
use Rattle.account.specs.Given.{Given, marks, lists, KnownVariable, KnownTerms, KnownAfter, Known}
use Rattle.account.specs.Finish.{Rule, outline_none, Outlined, Finishing, names, uses_in, uses, weighs_more, inlined, taken, finish_after, finish}
use Rattle.account.specs.Account.{rule_of}

-- entry k is there and plain
abbrev NamedBefore : List Mark → ℕ → Type 0
NamedBefore before k = (k < length before) × (get_or before k A ≡ Plain)

module _ (n w k : ℕ) where
  named_in : (before : List Mark) (v : Variable) (rest : ℕ) → KnownVariable n w before v → 0 < names k v + rest → (0 < rest → NamedBefore before k) → NamedBefore before k
  named_in before Zero rest h lt next = next (omega arith)
  named_in before One rest h lt next = next (omega arith)
  named_in before (Instance i) rest h lt next = next (omega arith)
  named_in before (Witness i) rest h lt next = next (omega arith)
  named_in before (SymbolicLc j) rest h lt next =
      ⊎_elim
      (λ (e : eqb j.0 k ≡ true). subst (NamedBefore before) (eqb-true j.0 k e) h)
      (λ (e : eqb j.0 k ≡ false). let none : names k (SymbolicLc j) ≡ 0 = cond-false (eqb j.0 k) 1 0 e in next (omega (arith, none)))
      (cases_Bool (eqb j.0 k))

  used_in : {V : Type 0} (before : List Mark) (ts : List (Term V)) → KnownTerms n w before ts → 0 < uses_in k ts → NamedBefore before k
  used_in before [] h lt = absurd (omega arith)
  used_in before (t ∷ ts) h lt = named_in before t.variable (uses_in k ts) h.0 lt (used_in before ts h.1)

  more_before : (before more : List Mark) → NamedBefore before k → NamedBefore (before ++ more) k
  more_before before more h = (omega (arith, length-append before more, h.0), get_or_append_left before more A k h.0 ∙ h.1)

  used_by : {V : Type 0} (before : List Mark) (given : List (Given V)) → KnownAfter n w before given → 0 < uses (lists given) k → NamedBefore (before ++ marks given) k
  used_by before [] h lt = absurd (omega arith)
  used_by before (g ∷ gs) h lt =
      ⊎_elim
      (λ (here : 0 < uses_in k g.terms). more_before before (g.mark ∷ marks gs) (used_in before g.terms h.0 here))
      (λ (later : 0 < uses (lists gs) k). subst (λ ms. NamedBefore ms k) (append_assoc before (g.mark ∷ []) (marks gs)) (used_by (before ++ g.mark ∷ []) gs h.1 later))
      (either (uses_in k g.terms) (uses (lists gs) k) lt)
    where
      either : (a b : ℕ) → 0 < a + b → (0 < a) ⊎ (0 < b)
      either ℕ.zero b lt = inr (omega arith)
      either (suc a) b lt = inl (omega arith)

  pub used_plain : {V : Type 0} (given : List (Given V)) → Known n w given → 0 < uses (lists given) k → slice_get (marks given) k ≡ Some Plain
  used_plain given known lt = let h = used_by [] given known.terms lt in slice_get-get_or (marks given) k A h.0 ∙ ap Some h.1

-- what weighs more has a use
weighs_used : (u n : ℕ) → weighs_more u n ≡ true → 0 < u
weighs_used ℕ.zero n e = absurd (let lt = ltb-true (0 + 1 + 2 + n) ((0 + 1) * n) e in omega arith)
weighs_used (suc u) n e = omega arith

module _ {V : Type 0} (m : Model V) (rule : Rule V) (w : ℕ) where
  -- the rule picked each that was outlined
  Picked : Finishing V → Type 0
  Picked s = AllByRecursion (λ o. rule o.entry o.merged ≡ true) s.outlined

  taken_picked : (s : Finishing V) (merged : List (Term V)) → Picked s → Picked (taken m rule w s merged)
  unfolding Picked
  taken_picked s merged h =
      cond_both (rule (length s.finished) merged) _ _ (λ (s' : Finishing V). AllByRecursion (λ o. rule o.entry o.merged ≡ true) s'.outlined)
      (λ is. All-push (λ o. rule o.entry o.merged ≡ true) s.outlined _ h is) (λ _. h)

  picked_after : (ls : List (List (Term V))) (s : Finishing V) → Picked s → Picked (finish_after m rule w s ls)
  picked_after [] s h = h
  picked_after (l ∷ ls) s h = picked_after ls (taken m rule w s (inlined m s.finished l)) (taken_picked s _ h)

  pub finish_picked : (ls : List (List (Term V))) → AllByRecursion (λ o. rule o.entry o.merged ≡ true) (finish m rule w ls).outlined
  unfolding Picked
  finish_picked ls = picked_after ls _ tt

pub outlined_plain : {V : Type 0} (m : Model V) (n w : ℕ) (given : List (Given V)) → Known n w given → (goal : OptimizationGoal)
    → AllByRecursion (λ o. slice_get (marks given) o.entry ≡ Some Plain) (finish m (rule_of m goal (lists given)) w (lists given)).outlined
outlined_plain m n w given known goal = All-weaker _ _ (λ o is. by goal o is) _ (finish_picked m (rule_of m goal (lists given)) w (lists given))
  where
    by : (goal : OptimizationGoal) (o : Outlined _) → rule_of m goal (lists given) o.entry o.merged ≡ true → slice_get (marks given) o.entry ≡ Some Plain
    by NoGoal o is = absurd (true≢false (sym is))
    by Constraints o is = absurd (true≢false (sym is))
    by Weight o is = used_plain n w o.entry given known (weighs_used (uses (lists given) o.entry) (length o.merged) is)

-- nothing is outlined under another goal
none_picked : {V : Type 0} (os : List (Outlined V)) → AllByRecursion (λ o. false ≡ true) os → os ≡ []
none_picked [] h = refl
none_picked (o ∷ os) h = absurd (true≢false (sym h.0))

pub none_outlined : {V : Type 0} (m : Model V) (w : ℕ) (ls : List (List (Term V))) (goal : OptimizationGoal) → (goal ≡ Weight → ⊥) → (finish m (rule_of m goal ls) w ls).outlined ≡ []
none_outlined m w ls NoGoal h = none_picked _ (finish_picked m outline_none w ls)
none_outlined m w ls Constraints h = none_picked _ (finish_picked m outline_none w ls)
none_outlined m w ls Weight h = absurd (h refl)
