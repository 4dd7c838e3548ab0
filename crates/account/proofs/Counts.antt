-- What finalising names and numbers, whatever the rule. Assumes nothing.
use Rattle.std.proofs.Common.{◌≡◌, ℕ, suc, ◌+◌, ◌<◌, ◌≤◌, List, [], ◌∷◌, ◌++◌, map, length, get_or, sym, refl, ◌∙◌, subst, ap₂, append_assoc, arith}
use Rattle.std.specs.List.{AllByRecursion}
use Rattle.std.proofs.lemmas.List.{length_push, nil_from_length, get_or_at}
use Rattle.std.proofs.ByRecursion.{All-append, All-push, All-weaker}
use Rattle.std.proofs.lemmas.Bool.{cond_both}
use Rattle.field.specs.Laws.{Model}
use Rattle.variables.specs.declared.Variable.{Variable}
use Rattle.variables.specs.declared.Variable.TheVariants.{Zero, One, Instance, Witness, SymbolicLc}
use Rattle.variables.specs.declared.Term.{Term}
use Rattle.account.specs.declared.Mark.{Mark}
use Rattle.variables.specs.Terms.{scaled}
use Rattle.variables.specs.Evaluate.{SymbolFree}
use Rattle.account.specs.Finish.{Rule, Outlined, Finishing, untaken, replaced, expanded, inlined, single, taken, finish_after, finish}
use Rattle.account.specs.Given.{Given, lists, KnownVariable, KnownAfter}
use Rattle.variables.proofs.Compacts.{compactify_only}
use Rattle.account.proofs.Lists.{all_split, all_both, all_at}

-- an instance or witness is below its count
abbrev pub Counted : ℕ → ℕ → Variable → Type 0
Counted n w Zero = Unit {0}
Counted n w One = Unit {0}
Counted n w (Instance i) = i < n
Counted n w (Witness i) = i < w
Counted n w (SymbolicLc k) = Unit {0}

abbrev pub Only : {V : Type 0} → (Variable → Type 0) → List (Term V) → Type 0
Only P ts = AllByRecursion (λ t. P t.variable) ts

symbol_free_more : (n W W' : ℕ) → W ≤ W' → (v : Variable) → SymbolFree n W v → SymbolFree n W' v
symbol_free_more n W W' le Zero h = tt
symbol_free_more n W W' le One h = tt
symbol_free_more n W W' le (Instance i) h = h
symbol_free_more n W W' le (Witness i) h = omega arith
symbol_free_more n W W' le (SymbolicLc k) h = h

symbol_free_wider : {V : Type 0} (n W W' : ℕ) → W ≤ W' → (ts : List (Term V)) → Only (SymbolFree n W) ts → Only (SymbolFree n W') ts
symbol_free_wider n W W' le ts h = All-weaker _ _ (λ t k. symbol_free_more n W W' le t.variable k) ts h

pub symbol_free_counted : (n w : ℕ) (v : Variable) → SymbolFree n w v → Counted n w v
symbol_free_counted n w Zero h = tt
symbol_free_counted n w One h = tt
symbol_free_counted n w (Instance i) h = h
symbol_free_counted n w (Witness i) h = h
symbol_free_counted n w (SymbolicLc k) h = tt

known_counted : (n w : ℕ) (before : List Mark) (v : Variable) → KnownVariable n w before v → Counted n w v
known_counted n w before Zero h = tt
known_counted n w before One h = tt
known_counted n w before (Instance i) h = h
known_counted n w before (Witness i) h = h
known_counted n w before (SymbolicLc k) h = tt

pub lists_counted : {V : Type 0} (n w : ℕ) (before : List Mark) (given : List (Given V)) → KnownAfter n w before given → AllByRecursion (Only (Counted n w)) (lists given)
lists_counted n w before [] h = tt
lists_counted n w before (g ∷ gs) h =
    (All-weaker _ _ (λ t k. known_counted n w before t.variable k) g.terms h.0, lists_counted n w (before ++ g.mark ∷ []) gs h.1)

-- the added witnesses take the numbers from w on
abbrev pub Numbered : {V : Type 0} → ℕ → List (Outlined V) → Type 0
Numbered w [] = Unit {0}
Numbered w (o ∷ os) = (o.witness ≡ w) × Numbered (suc w) os

numbered_push : {V : Type 0} (w : ℕ) (os : List (Outlined V)) (o : Outlined V) → Numbered w os → o.witness ≡ w + length os → Numbered w (os ++ o ∷ [])
numbered_push w [] o h e = (omega arith, tt)
numbered_push w (x ∷ os) o h e = (h.0, numbered_push (suc w) os o h.1 (omega arith))

pub numbered_below : {V : Type 0} (w : ℕ) (os : List (Outlined V)) → Numbered w os → AllByRecursion (λ o. o.witness < w + length os) os
numbered_below w [] h = tt
numbered_below w (o ∷ os) h =
    (omega arith, All-weaker _ _ (λ x b. omega arith) os (numbered_below (suc w) os h.1))

-- so what holds of each added witness in turn is an equation of lists
module _ {V X : Type 0} (f : Outlined V → X) (d : X) (n : ℕ) where
  pub list_from_each : (os : List (Outlined V)) (w : ℕ) (p added : List X) → length p ≡ n + w → Numbered w os → length added ≡ length os → AllByRecursion (λ o. get_or (p ++ added) (n + o.witness) d ≡ f o) os → added ≡ map f os
  list_from_each [] w p added lp ns la h = nil_from_length added la
  list_from_each (o ∷ os) w p [] lp ns la h = absurd (omega arith)
  list_from_each (o ∷ os) w p (x ∷ added) lp ns la h =
      let head : x ≡ f o = sym (get_or_at p x added d (n + o.witness) (omega (arith, ns.0))) ∙ h.0 in
      let rest = list_from_each os (suc w) (p ++ x ∷ []) added (omega (arith, length_push p x)) ns.1 (omega arith)
      (subst (λ z. AllByRecursion (λ o. get_or z (n + o.witness) d ≡ f o) os) (sym (append_assoc p (x ∷ []) added)) h.1) in
      ap₂ (λ y ys. y ∷ ys) head rest

  pub each_from_list : (os : List (Outlined V)) (w : ℕ) (p : List X) → length p ≡ n + w → Numbered w os → AllByRecursion (λ o. get_or (p ++ map f os) (n + o.witness) d ≡ f o) os
  each_from_list [] w p lp ns = tt
  each_from_list (o ∷ os) w p lp ns = (
    get_or_at p (f o) (map f os) d (n + o.witness) (omega (arith, ns.0)),
    subst (λ z. AllByRecursion (λ o. get_or z (n + o.witness) d ≡ f o) os) (append_assoc p (f o ∷ []) (map f os))
        (each_from_list os (suc w) (p ++ f o ∷ []) (omega (arith, length_push p (f o))) ns.1),
  )

module _ {V : Type 0} (m : Model V) (rule : Rule V) (w : ℕ) where
  -- the witnesses added so far stay the first
  taken_earlier : (P : Outlined V → Type 0) (s : Finishing V) (merged : List (Term V)) → AllByRecursion P (taken m rule w s merged).outlined → AllByRecursion P s.outlined
  taken_earlier P s merged =
      cond_both (rule (length s.finished) merged) _ _ (λ (s' : Finishing V). AllByRecursion P s'.outlined → AllByRecursion P s.outlined) (λ _ h. (all_split P s.outlined _ h).0) (λ _ h. h)

  pub earlier : (P : Outlined V → Type 0) (ls : List (List (Term V))) (s : Finishing V) → AllByRecursion P (finish_after m rule w s ls).outlined → AllByRecursion P s.outlined
  earlier P [] s h = h
  earlier P (l ∷ ls) s h = taken_earlier P s _ (earlier P ls (taken m rule w s (inlined m s.finished l)) h)

  taken_numbered : (s : Finishing V) (merged : List (Term V)) → Numbered w s.outlined → Numbered w (taken m rule w s merged).outlined
  taken_numbered s merged h =
      cond_both (rule (length s.finished) merged) _ _ (λ (s' : Finishing V). Numbered w s'.outlined) (λ _. numbered_push w s.outlined _ h refl) (λ _. h)

  numbered_after : (ls : List (List (Term V))) (s : Finishing V) → Numbered w s.outlined → Numbered w (finish_after m rule w s ls).outlined
  numbered_after [] s h = h
  numbered_after (l ∷ ls) s h = numbered_after ls (taken m rule w s (inlined m s.finished l)) (taken_numbered s _ h)

  pub finish_numbered : (ls : List (List (Term V))) → Numbered w (finish m rule w ls).outlined
  finish_numbered ls = numbered_after ls _ tt

  -- an added witness stands for an entry taken
  Taken : Finishing V → Type 0
  Taken s = AllByRecursion (λ o. o.entry < length s.finished) s.outlined

  taken_taken : (s : Finishing V) (merged : List (Term V)) → Taken s → Taken (taken m rule w s merged) × (length (taken m rule w s merged).finished ≡ length s.finished + 1)
  unfolding Taken
  taken_taken s merged h =
      let more : (l : List (Term V)) → AllByRecursion (λ o. o.entry < length (s.finished ++ l ∷ [])) s.outlined
      = λ l. All-weaker _ _ (λ o b. omega (arith, length_push s.finished l)) s.outlined h in
      cond_both (rule (length s.finished) merged) _ _ (λ (s' : Finishing V). AllByRecursion (λ o. o.entry < length s'.finished) s'.outlined × (length s'.finished ≡ length s.finished + 1))
      (λ _. (All-push _ s.outlined _ (more _) (omega (arith, length_push s.finished (single m (Witness (w + length s.outlined))))), length_push s.finished _))
      (λ _. (more merged, length_push s.finished merged))

  taken_after : (ls : List (List (Term V))) (s : Finishing V) → Taken s → Taken (finish_after m rule w s ls) × (length (finish_after m rule w s ls).finished ≡ length s.finished + length ls)
  taken_after [] s h = (h, omega arith)
  taken_after (l ∷ ls) s h =
      let step = taken_taken s (inlined m s.finished l) h in
      let rest = taken_after ls (taken m rule w s (inlined m s.finished l)) step.0 in
      (rest.0, rest.1 ∙ omega (arith, step.1))

  pub finish_long : (ls : List (List (Term V))) → length (finish m rule w ls).finished ≡ length ls
  unfolding Taken
  finish_long ls = (taken_after ls (untaken) tt).1 ∙ omega arith

  pub finish_taken : (ls : List (List (Term V))) → AllByRecursion (λ o. o.entry < length ls) (finish m rule w ls).outlined
  unfolding Taken
  finish_taken ls =
      let t = taken_after ls (untaken) tt in
      All-weaker _ _ (λ o b. omega (arith, t.1)) _ t.0

  -- what is finished names no symbol, and only what is below n and W
  module _ (n W : ℕ) (fits : w ≤ W) where
    scaled_only : (P : Variable → Type 0) (k : V) (ts : List (Term V)) → Only P ts → Only P (scaled m k ts)
    scaled_only P k [] h = tt
    scaled_only P k (t ∷ ts) h = (h.0, scaled_only P k ts h.1)

    replaced_symbol_free : (fs : List (List (Term V))) (k : V) (v : Variable) → AllByRecursion (Only (SymbolFree n W)) fs → Counted n w v → Only (SymbolFree n W) (replaced m fs k v)
    replaced_symbol_free fs k Zero h c = (tt, tt)
    replaced_symbol_free fs k One h c = (tt, tt)
    replaced_symbol_free fs k (Instance i) h c = (c, tt)
    replaced_symbol_free fs k (Witness i) h c = (omega arith, tt)
    replaced_symbol_free fs k (SymbolicLc j) h c = scaled_only (SymbolFree n W) k (get_or fs j.0 []) (all_at (λ t. SymbolFree n W t.variable) fs j.0 h)

    expanded_symbol_free : (fs : List (List (Term V))) (ts : List (Term V)) → AllByRecursion (Only (SymbolFree n W)) fs → Only (Counted n w) ts → Only (SymbolFree n W) (expanded m fs ts)
    expanded_symbol_free fs [] h c = tt
    expanded_symbol_free fs (t ∷ ts) h c = All-append _ (replaced m fs t.number t.variable) _ (replaced_symbol_free fs t.number t.variable h c.0) (expanded_symbol_free fs ts h c.1)

  -- a merged list names only witnesses that come before its own
  Early : ℕ → Finishing V → Type 0
  Early n s = AllByRecursion (Only (SymbolFree n (w + length s.outlined))) s.finished × AllByRecursion (λ o. Only (SymbolFree n o.witness) o.merged) s.outlined

  taken_early : (n : ℕ) (s : Finishing V) (merged : List (Term V)) → Early n s → Only (SymbolFree n (w + length s.outlined)) merged → Early n (taken m rule w s merged)
  unfolding Early
  taken_early n s merged h g =
      cond_both (rule (length s.finished) merged) _ _ (λ (s' : Finishing V). AllByRecursion (Only (SymbolFree n (w + length s'.outlined))) s'.finished × AllByRecursion (λ o. Only (SymbolFree n o.witness) o.merged) s'.outlined)
      (λ _.
      let o : Outlined V = record { entry = length s.finished; witness = w + length s.outlined; merged = merged } in
      let more = length_push s.outlined o in
      let W = w + length (s.outlined ++ o ∷ []) in
      let wider = All-weaker _ _ (λ ts k. symbol_free_wider n (w + length s.outlined) W (omega arith) ts k) s.finished h.0 in
      (All-push (Only (SymbolFree n W)) s.finished _ wider (omega arith, tt), All-push (λ p. Only (SymbolFree n p.witness) p.merged) s.outlined o h.1 g))
      (λ _. (All-push (Only (SymbolFree n (w + length s.outlined))) s.finished merged h.0 g, h.1))

  early_after : (n : ℕ) (ls : List (List (Term V))) (s : Finishing V) → AllByRecursion (Only (Counted n w)) ls → Early n s → Early n (finish_after m rule w s ls)
  unfolding Early
  early_after n [] s c h = h
  early_after n (l ∷ ls) s c h =
      let W = w + length s.outlined in
      let only = compactify_only m (SymbolFree n W) (expanded m s.finished l) (expanded_symbol_free n W (omega arith) s.finished l h.0 c.0) in
      early_after n ls (taken m rule w s (inlined m s.finished l)) c.1 (taken_early n s _ h only)

  pub finish_early : (n : ℕ) (ls : List (List (Term V))) → AllByRecursion (Only (Counted n w)) ls
      → AllByRecursion (Only (SymbolFree n (w + length (finish m rule w ls).outlined))) (finish m rule w ls).finished
      × AllByRecursion (λ o. Only (SymbolFree n o.witness) o.merged) (finish m rule w ls).outlined
  unfolding Early
  finish_early n ls c = early_after n ls (untaken) c (tt, tt)

  abbrev pub AllSymbolFree : ℕ → ℕ → Finishing V → Type 0
  AllSymbolFree n W s = AllByRecursion (Only (SymbolFree n W)) s.finished × AllByRecursion (λ o. Only (SymbolFree n W) o.merged × (o.witness < W)) s.outlined

  pub finish_symbol_free : (n : ℕ) (ls : List (List (Term V))) → AllByRecursion (Only (Counted n w)) ls → AllSymbolFree n (w + length (finish m rule w ls).outlined) (finish m rule w ls)
  finish_symbol_free n ls c =
      let s = finish m rule w ls in
      let early = finish_early n ls c in
      (early.0, all_both (λ o. Only (SymbolFree n o.witness) o.merged) (λ o. o.witness < w + length s.outlined) _ (λ o h b. (symbol_free_wider n o.witness _ (omega arith) o.merged h, b)) s.outlined early.1 (numbered_below w _ (finish_numbered ls)))
