-- A window gathered a reading at a time, and what it is worth. Assumes nothing.
use Rattle.std.proofs.Common.{◌≡◌, ℕ, zero, suc, ◌+◌, ◌-◌, ◌<◌, ◌≤◌, false, List, [], ◌∷◌, ◌++◌, map, length, get_or, take, drop, Some, Ok, Err, Result, sym, refl, ap, ◌∙◌, ap₂, zero-add, one-add, arith}
use Rattle.std.specs.List.{AllByRecursion}
use Rattle.std.proofs.lemmas.List.FromFn.{length-map-range_with_len, map-range_with_len_more}
use Rattle.std.proofs.lemmas.List.{take_all, drop_all, drop_at, drop-drop, drop_more, length-drop, get_or-map}
use Rattle.std.proofs.lemmas.Bool.{lt-ltb}
use Rattle.field.specs.Laws.{Model, Keeps}
use Rattle.field.proofs.Rings.{one_times}
use Rattle.variables.specs.declared.Term.{Term}
use Rattle.variables.specs.declared.Variable.TheVariants.{Witness}
use Rattle.variables.specs.Terms.{once}
use Rattle.variables.specs.Worth.{value, worth}
use Rattle.variables.specs.Locate.{seek, first_is, location, added_at, added}
use Rattle.variables.specs.Evaluate.{SymbolFree, read, evaluated}
use Rattle.variables.specs.declared.Refusal.{Refusal}
use Rattle.variables.specs.Refusals.{answered}
use Rattle.variables.proofs.Evaluates.{evaluates}
use Rattle.relations.specs.declared.impl_lc.LinearCombination.{LinearCombination}
use Rattle.relations.specs.Held.{listed, Held, held, Outcome, put, Becomes}
use Rattle.smoothing.specs.Windows.{window, total}

module _ {V : Type 0} (m : Model V) where
  -- every reading of a window comes before the next one
  seek_window : (a n j : ℕ) → a + n ≤ j → seek (Witness j) (window m a n) ≡ n
  seek_window a zero j le = refl
  seek_window a (suc n) j le = rw (lt-ltb a j (omega arith)) (ap (λ k. 1 + k) (seek_window (a + 1) n j (omega arith)) ∙ one-add n)

  location_window : (a n j : ℕ) → a + n ≤ j → location (Witness j) (window m a n) ≡ Err n
  location_window a n j le =
      let w = window m a n in
      let v = Witness j in
      let s = seek_window a n j le in
      let past : first_is v (drop (seek v w) w) ≡ false = ap (first_is v) (ap (λ k. drop k w) s ∙ drop_all n w (omega (arith, length-map-range_with_len (λ k. once m (Witness k)) a n))) in
      grind arith

  added_window : (a n : ℕ) → added m (once m (Witness (a + n))) (window m a n) ≡ window m a (n + 1)
  added_window a n =
      let w = window m a n in
      let t = once m (Witness (a + n)) in
      let long = length-map-range_with_len (λ k. once m (Witness k)) a n in
      ap (λ r. added_at m r t w) (location_window a n (a + n) (omega arith))
      ∙ (λ i. take_all n w (omega arith) i ++ t ∷ drop_all n w (omega arith) i)
      ∙ sym (map-range_with_len_more (λ k. once m (Witness k)) a n (a + n) refl)

  -- one reading more
  put_window : (a n : ℕ) (p : List (Term V)) → n < length p
      → put (added m (once m (Witness (a + n))) (window m a n)) (record { list = window m a n; spare = drop n p }) ≡ record { answer = Ok tt; held = record { list = window m a (n + 1); spare = drop (n + 1) p } }
  put_window a n p lt =
      let w = window m a n in
      let long = length-map-range_with_len (λ k. once m (Witness k)) a n in
      let more = length-map-range_with_len (λ k. once m (Witness k)) a (n + 1) in
      let rest : drop (length (window m a (n + 1))) (w ++ drop n p) ≡ drop (n + 1) p =
      ap (λ k. drop k (w ++ drop n p)) more ∙ sym (drop-drop 1 n (w ++ drop n p)) ∙ ap (drop 1) (drop_at w (drop n p) n long) ∙ drop-drop 1 n p in
      ap (λ l. put l (record { list = w; spare = drop n p })) (added_window a n) ∙ grind (arith, length-drop)

  -- the same, of a term t added to a list, where t is once reading k
  module _ (a k : ℕ) (p : List (Term V)) (before after : LinearCombination V) (t : Term V) (is : t ≡ once m (Witness k)) where
    added_reading : (r : Result (Unit {0}) Refusal) → Becomes (added m t (listed before)) before after r → a ≤ k → k - a < length p → held before ≡ record { list = window m a (k - a); spare = drop (k - a) p }
        → ◌≡◌ {A = Outcome V} (record { answer = answered r; held = held after }) (record { answer = Ok tt; held = record { list = window m a (k - a + 1); spare = drop (k - a + 1) p } })
    added_reading r b le lt h =
        let same : a + (k - a) ≡ k = omega arith in
        sym b.does
        ∙ ap (λ (o : Held V). put (added m t o.list) o) h
        ∙ ap (λ x. put (added m x (window m a (k - a))) (record { list = window m a (k - a); spare = drop (k - a) p })) (is ∙ ap (λ j. once m (Witness j)) (sym same))
        ∙ put_window a (k - a) p lt

    pub window_more : Becomes (added m t (listed before)) before after (Ok tt) → a ≤ k → k - a < length p → held before ≡ record { list = window m a (k - a); spare = drop (k - a) p }
        → held after ≡ record { list = window m a (k + 1 - a); spare = drop (k + 1 - a) p }
    window_more b le lt h =
        let next : k - a + 1 ≡ k + 1 - a = omega arith in
        ap (λ (o : Outcome V). o.held) (added_reading (Ok tt) b le lt h) ∙ ap (λ n. record { list = window m a n; spare = drop n p }) next

    -- there is room for it
    pub window_fits : (e : Refusal) → Becomes (added m t (listed before)) before after (Err e) → a ≤ k → k - a < length p → held before ≡ record { list = window m a (k - a); spare = drop (k - a) p } → ⊥
    window_fits e b le lt h = cc (ap (λ (o : Outcome V). o.answer) (added_reading (Err e) b le lt h))

module _ {V : Type 0} {m : Model V} (keeps : Keeps m) where
  open m.ring use {Member, zero as none, one, ◌⊕◌ as add, ◌⊗◌ as mul}

  window_free : (rs : List V) (a n : ℕ) → a + n ≤ length rs → AllByRecursion (λ t. SymbolFree 0 (length rs) t.variable) (window m a n)
  window_free rs a zero le = tt
  window_free rs a (suc n) le = (omega arith, window_free rs (a + 1) n (omega arith))

  first_worth : (rs : List V) (a n : ℕ) (xs : List V) → drop a rs ≡ xs → a < length rs → worth m (value m 0 (map m.stands rs) []) (window m (a + 1) n) ≡ total m (take n (drop (a + 1) rs))
      → worth m (value m 0 (map m.stands rs) []) (window m a (suc n)) ≡ total m (take (suc n) xs)
  first_worth rs a n [] e lt h = absurd (omega (arith, length-drop a rs, ap length e))
  first_worth rs a n (x ∷ xs) e lt h =
      let both : x ∷ xs ≡ get_or rs a x ∷ drop (a + 1) rs = sym e ∙ drop_more rs a x lt in
      let is : x ≡ get_or rs a x = cc in
      let tail : xs ≡ drop (a + 1) rs = cc in
      let here : get_or (map m.stands rs) (0 + a) none ≡ m.stands x = ap (λ k. get_or (map m.stands rs) k none) (zero-add a) ∙ get_or-map m.stands rs a x none lt ∙ ap m.stands (sym is) in
      ap₂ add (ap₂ mul keeps.one_stands here ∙ one_times keeps.laws (m.stands x)) (h ∙ ap (λ l. total m (take n l)) (sym tail))

  window_worth : (rs : List V) (a n : ℕ) → a + n ≤ length rs → worth m (value m 0 (map m.stands rs) []) (window m a n) ≡ total m (take n (drop a rs))
  window_worth rs a zero le = refl
  window_worth rs a (suc n) le = first_worth rs a n (drop a rs) refl (omega arith) (window_worth rs (a + 1) n (omega arith))

  -- the value of a window stands for the sum of its readings
  pub window_sums : (rs : List V) (a n : ℕ) → a + n ≤ length rs → (v : V) → evaluated m (read m [] rs []) (window m a n) ≡ Some v → m.stands v ≡ total m (take n (drop a rs))
  window_sums rs a n le v e =
      let k = (evaluates keeps).kept [] rs (window m a n) (window_free rs a n le) in
      let f = k.1 in
      let same : v ≡ k.0 = cc in
      ap m.stands same ∙ k.2 ∙ window_worth rs a n le
