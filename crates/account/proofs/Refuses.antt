-- Tests that refuse nothing, and which variables are refused. Assumes nothing.
use Rattle.std.proofs.Common.{◌≡◌, ℕ, suc, ◌+◌, ◌<◌, ◌≤◌, Bool, true, false, cond, not, ltb, ◌⊎◌, ◌↔◌, List, [], ◌∷◌, length, get_or, take, Some, None, Option, sym, refl, ap, ◌∙◌, inl, inr, arith}
use Rattle.std.specs.List.{AllByRecursion, slice_get}
use Rattle.std.proofs.lemmas.List.{get_or_default}
use Rattle.std.proofs.lemmas.Bool.{cond-true, ltb-true, lt-ltb, ltb-false}
use Rattle.variables.specs.declared.LcIndex.{LcIndex}
use Rattle.variables.specs.declared.Variable.{Variable}
use Rattle.variables.specs.declared.Variable.TheVariants.{Zero, One, Instance, Witness, SymbolicLc}
use Rattle.variables.specs.declared.Term.{Term}
use Rattle.variables.specs.Order.{kind, place}
use Rattle.variables.specs.Refusals.{Told}
use Rattle.account.specs.declared.Mark.{Mark}
use Rattle.account.specs.declared.Mark.TheVariants.{Plain, A, B, C}
use Rattle.account.specs.Given.{KnownTerms}
use Rattle.account.specs.Finish.{lacks}
use Rattle.account.specs.Refusals.{when, first, own_list, variable_refusal, at_term, terms_refusal}
use Rattle.account.specs.Laws.{VariablesRefused, ListsRefused}

pub some_none : {X : Type 0} (x : X) (o : Option X) → o ≡ Some x → o ≡ None → ⊥
some_none x o p q = let z : ◌≡◌ {A = ℕ} 0 1 = cc in omega arith

pub some_is : {X : Type 0} (x y : X) → Some x ≡ Some y → x ≡ y
some_is x y e = cc

-- a test that refuses nothing
pub when_none : (b : Bool) (k : ℕ) → when b k ≡ None → b ≡ false
when_none true k e = absurd (some_none _ _ refl e)
when_none false k e = refl

pub when_not : (b : Bool) (k : ℕ) → when (not b) k ≡ None → b ≡ true
when_not true k e = refl
when_not false k e = absurd (some_none _ _ refl e)

pub enough : (due places k : ℕ) → when (lacks due places) k ≡ None → due ≤ places
enough due places k e = ltb-false places due (when_none (lacks due places) k e)

-- tests of which none refuses
pub first_none : (os : List (Option Told)) → first os ≡ None → AllByRecursion (λ o. o ≡ None) os
first_none [] e = tt
first_none (None ∷ os) e = (refl, first_none os e)
first_none (Some r ∷ os) e = absurd (some_none r _ refl e)

pub first_alone : (o : Option Told) → first (o ∷ []) ≡ o
first_alone None = refl
first_alone (Some r) = refl

-- one of a kind that is counted: refused by 15 where it is not below its count
abbrev unless_below : Bool → Option ℕ
unless_below b = cond b None (Some 15)

below_15 : (b : Bool) (number : ℕ) → unless_below b ≡ Some number → number ≡ 15
below_15 true number e = absurd (some_none number _ e refl)
below_15 false number e = sym (some_is 15 number e)

below_none : (b : Bool) → unless_below b ≡ None → b ≡ true
below_none true e = refl
below_none false e = absurd (some_none 15 _ refl e)

below_known : (i n : ℕ) → (unless_below (ltb i n) ≡ None) ↔ (i < n)
below_known i n = (λ e. ltb-true i n (below_none (ltb i n) e), λ lt. cond-true (ltb i n) None (Some 15) (lt-ltb i n lt))

-- a symbol: refused by 16 where its list comes before and is a constraint's own
own_plain : (mark : Mark) → own_list mark ≡ None → mark ≡ Plain
own_plain Plain e = refl
own_plain A e = absurd (some_none _ _ refl e)
own_plain B e = absurd (some_none _ _ refl e)
own_plain C e = absurd (some_none _ _ refl e)

own_16 : (mark : Mark) (number : ℕ) → own_list mark ≡ Some number → number ≡ 16
own_16 Plain number e = absurd (some_none number _ e refl)
own_16 A number e = sym (some_is 16 number e)
own_16 B number e = sym (some_is 16 number e)
own_16 C number e = sym (some_is 16 number e)

own_marked : (mark : Mark) → (mark ≡ Plain → ⊥) → own_list mark ≡ Some 16
own_marked Plain h = absurd (h refl)
own_marked A h = refl
own_marked B h = refl
own_marked C h = refl

module _ (before : List Mark) (k : ℕ) where
  abbrev there : Bool
  there = ltb k (length before)

  abbrev mark : Mark
  mark = get_or before k A

  symbol_none : (b : Bool) → cond b (own_list mark) (Some 15) ≡ None → (b ≡ true) × (mark ≡ Plain)
  symbol_none true e = (refl, own_plain mark e)
  symbol_none false e = absurd (some_none 15 _ refl e)

  symbol_numbers : (b : Bool) (number : ℕ) → cond b (own_list mark) (Some 15) ≡ Some number → (number ≡ 15) ⊎ (number ≡ 16)
  symbol_numbers true number e = inr (own_16 mark number e)
  symbol_numbers false number e = inl (sym (some_is 15 number e))

  symbol_16 : (b : Bool) → cond b (own_list mark) (Some 15) ≡ Some 16 → (b ≡ true) × (mark ≡ Plain → ⊥)
  symbol_16 true e = (refl, λ p. some_none 16 _ e (ap own_list p))
  symbol_16 false e = absurd (let z : ◌≡◌ {A = ℕ} 15 16 = some_is 15 16 e in omega arith)

pub not_symbol : (v : Variable) (k : LcIndex) → kind v < 4 → v ≡ SymbolicLc k → ⊥
not_symbol v k lt e = let same : kind v ≡ 4 = ap kind e in omega arith

pub variables_refused : VariablesRefused
variables_refused n w before Zero = record {
  known = (λ _. tt, λ _. refl);
  own = (λ e. absurd (some_none 16 _ e refl), λ h. absurd (not_symbol Zero _ (omega arith) h.1));
  numbers = λ number e. absurd (some_none number _ e refl);
}
variables_refused n w before One = record {
  known = (λ _. tt, λ _. refl);
  own = (λ e. absurd (some_none 16 _ e refl), λ h. absurd (not_symbol One _ (omega arith) h.1));
  numbers = λ number e. absurd (some_none number _ e refl);
}
variables_refused n w before (Instance i) = record {
  known = below_known i n;
  own = (λ e. absurd (let z = below_15 (ltb i n) 16 e in omega arith), λ h. absurd (not_symbol (Instance i) _ (omega arith) h.1));
  numbers = λ number e. inl (below_15 (ltb i n) number e);
}
variables_refused n w before (Witness i) = record {
  known = below_known i w;
  own = (λ e. absurd (let z = below_15 (ltb i w) 16 e in omega arith), λ h. absurd (not_symbol (Witness i) _ (omega arith) h.1));
  numbers = λ number e. inl (below_15 (ltb i w) number e);
}
variables_refused n w before (SymbolicLc j) =
    let k = j.0 in
    record {
      known = (
        λ e. let both = symbol_none before k (there before k) e in (ltb-true k (length before) both.0, both.1),
        λ h. cond-true (there before k) (own_list (mark before k)) (Some 15) (lt-ltb k (length before) h.0) ∙ ap own_list h.1,
      );
      own = (
        λ e.
            let both = symbol_16 before k (there before k) e in
            let lt = ltb-true k (length before) both.0 in
            (k, refl, lt, λ p. both.1 (get_or_default before k A Plain lt ∙ p)),
        λ h.
            let same : k ≡ h.0 = ap place h.1 in
            let lt : k < length before = omega (arith, h.2) in
            let marked : mark before k ≡ Plain → ⊥ = λ p. h.3 (sym (ap (λ i. get_or before i Plain) same) ∙ get_or_default before k Plain A lt ∙ p) in
            cond-true (there before k) (own_list (mark before k)) (Some 15) (lt-ltb k (length before) lt) ∙ own_marked (mark before k) marked,
      );
      numbers = λ number e. symbol_numbers before k (there before k) number e;
    }

-- lists of which no term is refused
at_none : (list term : ℕ) (o : Option ℕ) → at_term list term o ≡ None → o ≡ None
at_none list term None e = refl
at_none list term (Some k) e = absurd (some_none _ _ refl e)

module _ {V : Type 0} where
  module _ (n w : ℕ) (before : List Mark) (list : ℕ) where
    pub terms_known : (term : ℕ) (ts : List (Term V)) → terms_refusal n w before list term ts ≡ None → KnownTerms n w before ts
    terms_known term [] e = tt
    terms_known term (t ∷ ts) e =
        let both = first_none (at_term list term (variable_refusal n w before t.variable) ∷ terms_refusal n w before list (suc term) ts ∷ []) e in
        ((variables_refused n w before t.variable).known.0 (at_none list term _ both.0), terms_known (suc term) ts both.1.0)

    none_refused : (term : ℕ) (ts : List (Term V)) → KnownTerms n w before ts → terms_refusal n w before list term ts ≡ None
    none_refused term [] h = refl
    none_refused term (t ∷ ts) h =
        ap (λ o. first (at_term list term o ∷ terms_refusal n w before list (suc term) ts ∷ [])) ((variables_refused n w before t.variable).known.1 h.0)
        ∙ ap (λ o. first (o ∷ [])) (none_refused (suc term) ts h.1)

    -- the first term that is refused, counted from `term`
    record FirstBad (term : ℕ) (ts : List (Term V)) (r : Told) : Type 0 where
      k : ℕ
      t : Term V
      number : ℕ
      here : slice_get ts k ≡ Some t
      known : KnownTerms n w before (take k ts)
      bad : variable_refusal n w before t.variable ≡ Some number
      is : r ≡ record { number = number; values = list ∷ (term + k) ∷ [] }

    -- one term more, where those after it have a first
    one_bad : (term : ℕ) (t : Term V) (ts : List (Term V)) (r : Told) (o : Option ℕ) → variable_refusal n w before t.variable ≡ o
        → (terms_refusal n w before list (suc term) ts ≡ Some r → FirstBad (suc term) ts r)
        → first (at_term list term o ∷ terms_refusal n w before list (suc term) ts ∷ []) ≡ Some r → FirstBad term (t ∷ ts) r
    one_bad term t ts r (Some number) o after e = record {
      k = 0;
      t = t;
      number = number;
      here = refl;
      known = tt;
      bad = o;
      is = sym (some_is _ r e) ∙ ap (λ (i : ℕ). record { number = number; values = list ∷ i ∷ [] }) (omega arith);
    }
    one_bad term t ts r None o after e =
        let rest = after (sym (first_alone (terms_refusal n w before list (suc term) ts)) ∙ e) in
        record {
          k = suc rest.k;
          t = rest.t;
          number = rest.number;
          here = rest.here;
          known = ((variables_refused n w before t.variable).known.0 o, rest.known);
          bad = rest.bad;
          is = rest.is ∙ ap (λ (i : ℕ). record { number = rest.number; values = list ∷ i ∷ [] }) (omega arith);
        }

    first_bad : (term : ℕ) (ts : List (Term V)) (r : Told) → terms_refusal n w before list term ts ≡ Some r → FirstBad term ts r
    first_bad term [] r e = absurd (some_none r _ e refl)
    first_bad term (t ∷ ts) r e = one_bad term t ts r (variable_refusal n w before t.variable) refl (λ f. first_bad (suc term) ts r f) e

pub lists_refused : {V : Type 0} → ListsRefused V
lists_refused n w before list ts = record {
  known = (terms_known n w before list 0 ts, none_refused n w before list 0 ts);
  at_first = λ r e.
      let f = first_bad n w before list 0 ts r e in
      (f.k, f.t, f.number, f.here, f.known, f.bad, f.is ∙ ap (λ (i : ℕ). record { number = f.number; values = list ∷ i ∷ [] }) (omega arith));
}
