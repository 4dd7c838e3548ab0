-- What lists are worth in rising order, by following symbols, and written out. Assumes nothing.
use Rattle.std.proofs.Common.{◌≡◌, ℕ, suc, ◌+◌, ◌<◌, ◌≤◌, List, [], ◌∷◌, ◌++◌, map, length, get_or, take, sym, refl, ap, ◌∙◌, subst, ap₂, append_assoc, append-nil, zero-add as nat_zero_add, arith, length-take}
use lib.ListN.{length-map, get_or-map}
use Rattle.std.specs.List.{AllByRecursion}
use Rattle.std.proofs.lemmas.List.{get_or_append_left, get_or_push, length_push, ext_get_or}
use Rattle.std.proofs.ByRecursion.{All-weaker}
use Rattle.field.specs.Laws.{Model, Keeps}
use Rattle.field.proofs.Rings.{one_times}
use Rattle.variables.specs.declared.Variable.{Variable}
use Rattle.variables.specs.declared.Variable.TheVariants.{Zero, One, Instance, Witness, SymbolicLc}
use Rattle.variables.specs.declared.Term.{Term}
use Rattle.variables.specs.Worth.{value, worth}
use Rattle.variables.proofs.Worths.{append_worth, lists_worth}
use Rattle.account.specs.declared.Mark.{Mark}
use Rattle.account.specs.Given.{Given, marks, lists, KnownVariable, KnownTerms, KnownAfter}
use Rattle.account.specs.Worths.{worths, worths_after, followed}
use Rattle.account.specs.Finish.{replaced, expanded, single}
use Rattle.account.specs.Laws.{Solves, Meant, WorthsMeant}

module _ {V : Type 0} where
  -- what a list names is known after the lists before it
  pub known_list : (n w : ℕ) (before : List Mark) (given : List (Given V)) → KnownAfter n w before given → (i : ℕ) → i < length given
      → KnownTerms n w (before ++ take i (marks given)) (get_or (lists given) i [])
  known_list n w before [] h i lt = absurd (omega arith)
  known_list n w before (g ∷ gs) h ℕ.zero lt = subst (λ ms. KnownTerms n w ms g.terms) (sym (append-nil before)) h.0
  known_list n w before (g ∷ gs) h (suc i) lt =
      subst (λ ms. KnownTerms n w ms (get_or (lists gs) i [])) (append_assoc before (g.mark ∷ []) (take i (marks gs))) (known_list n w (before ++ g.mark ∷ []) gs h.1 i (omega arith))

module _ {V : Type 0} {m : Model V} (keeps : Keeps m) where
  open m.ring use {Member, zero, one, ◌⊕◌ as add, ◌⊗◌ as mul}

  pub single_worth : (at : Variable → Member) (v : Variable) → worth m at (single m v) ≡ at v
  single_worth at v = keeps.laws.plus_zero _ ∙ ap (λ x. mul x (at v)) keeps.one_stands ∙ one_times keeps.laws (at v)

  -- finished lists that are worth what is named: a list written out is worth what the list as given is
  module _ (n : ℕ) (z : List Member) (finished : List (List (Term V))) where
    abbrev at : Variable → Member
    at = value m n z []

    abbrev named : List Member
    named = map (worth m at) finished

    replaced_worth : (k : V) (v : Variable) → worth m at (replaced m finished k v) ≡ mul (m.stands k) (value m n z named v)
    replaced_worth k Zero = keeps.laws.plus_zero _
    replaced_worth k One = keeps.laws.plus_zero _
    replaced_worth k (Instance i) = keeps.laws.plus_zero _
    replaced_worth k (Witness i) = keeps.laws.plus_zero _
    replaced_worth k (SymbolicLc j) =
        (lists_worth keeps).of_scaled at k (get_or finished j.0 []) ∙ ap (mul (m.stands k)) (sym (get_or-map (worth m at) finished j.0 []))

    written_out : (ts : List (Term V)) → worth m at (expanded m finished ts) ≡ worth m (value m n z named) ts
    written_out [] = refl
    written_out (t ∷ ts) =
        append_worth keeps at (replaced m finished t.number t.variable) (expanded m finished ts) ∙ ap₂ add (replaced_worth t.number t.variable) (written_out ts)

    pub expanded_worth : (ws : List Member) → named ≡ ws → (ts : List (Term V)) → worth m at (expanded m finished ts) ≡ worth m (value m n z ws) ts
    expanded_worth ws e ts = written_out ts ∙ ap (λ x. worth m (value m n z x) ts) e

  -- what a list is worth hangs on the variables that it names
  pub same_worth : (at also : Variable → Member) (ts : List (Term V)) → AllByRecursion (λ t. at t.variable ≡ also t.variable) ts → worth m at ts ≡ worth m also ts
  same_worth at also [] h = refl
  same_worth at also (t ∷ ts) h = ap₂ add (ap (mul (m.stands t.number)) h.0) (same_worth at also ts h.1)

  -- a variable that is known after the lists of `before` is worth the same wherever those are
  pub same_value : (n w : ℕ) (z named also : List Member) (before : List Mark) → ((k : ℕ) → k < length before → get_or named k zero ≡ get_or also k zero)
      → (v : Variable) → KnownVariable n w before v → value m n z named v ≡ value m n z also v
  same_value n w z named also before same Zero k = refl
  same_value n w z named also before same One k = refl
  same_value n w z named also before same (Instance i) k = refl
  same_value n w z named also before same (Witness i) k = refl
  same_value n w z named also before same (SymbolicLc j) k = same j.0 k.0

  -- the lists after do not change what the earlier ones are worth
  pub worths_kept : (n : ℕ) (z ws : List Member) (ls : List (List (Term V))) (k : ℕ) → k < length ws → get_or (worths_after m n z ws ls) k zero ≡ get_or ws k zero
  worths_kept n z ws [] k h = refl
  worths_kept n z ws (l ∷ ls) k h =
      let x = worth m (value m n z ws) l in
      worths_kept n z (ws ++ x ∷ []) ls k (omega (arith, length_push ws x)) ∙ get_or_append_left ws (x ∷ []) zero k h

  pub worths_long : (n : ℕ) (z ws : List Member) (ls : List (List (Term V))) → length (worths_after m n z ws ls) ≡ length ws + length ls
  worths_long n z ws [] = omega arith
  worths_long n z ws (l ∷ ls) = let x = worth m (value m n z ws) l in worths_long n z (ws ++ x ∷ []) ls ∙ omega (arith, length_push ws x)

  -- each symbol is worth the list of its number
  solved_after : (n w : ℕ) (z : List Member) (given : List (Given V)) (named : List Member) (before : List Mark) → length before ≡ length named → KnownAfter n w before given
      → (i : ℕ) → i < length given
      → get_or (worths_after m n z named (lists given)) (length named + i) zero ≡ worth m (value m n z (worths_after m n z named (lists given))) (get_or (lists given) i [])
  solved_after n w z [] named before e known i h = absurd (omega arith)
  solved_after n w z (g ∷ gs) named before e known ℕ.zero h =
      let x = worth m (value m n z named) g.terms in
      let end = worths_after m n z (named ++ x ∷ []) (lists gs) in
      let here = worths_kept n z (named ++ x ∷ []) (lists gs) in
      let before_kept : (k : ℕ) → k < length before → get_or named k zero ≡ get_or end k zero
      = λ k b. sym (here k (omega (arith, length_push named x)) ∙ get_or_append_left named (x ∷ []) zero k (omega arith)) in
      here (length named + 0) (omega (arith, length_push named x)) ∙ get_or_push named x zero (length named + 0) (omega arith)
      ∙ same_worth (value m n z named) (value m n z end) g.terms (All-weaker _ _ (λ t k. same_value n w z named end before before_kept t.variable k) g.terms known.0)
  solved_after n w z (g ∷ gs) named before e known (suc i) h =
      let x = worth m (value m n z named) g.terms in
      let end = worths_after m n z (named ++ x ∷ []) (lists gs) in
      let place : length named + suc i ≡ length (named ++ x ∷ []) + i = omega (arith, length_push named x) in
      ap (λ k. get_or end k zero) place
      ∙ solved_after n w z gs (named ++ x ∷ []) (before ++ g.mark ∷ []) (length_push before g.mark ∙ ap (λ k. k + 1) e ∙ sym (length_push named x)) known.1 i (omega arith)

  pub worths_solve : (n w : ℕ) (z : List Member) (given : List (Given V)) → KnownAfter n w [] given → Solves m n z (lists given) (worths m n z (lists given))
  worths_solve n w z given known = record {
    long = worths_long n z [] (lists given) ∙ nat_zero_add _;
    symbols = λ k h. ap (λ j. get_or (worths m n z (lists given)) j zero) (sym (nat_zero_add k)) ∙ solved_after n w z given [] [] refl known k (omega (arith, length-map given (λ (g : Given V). g.terms)));
  }

  module _ (n w : ℕ) (z : List Member) (given : List (Given V)) (known : KnownAfter n w [] given) where
    abbrev all : List (List (Term V))
    all = lists given

    many : length all ≡ length given
    many = length-map given (λ (g : Given V). g.terms)

    -- a list is worth the same under two readings that agree on what is known after the lists before it
    agreeing : (f g : Variable → Member) (i : ℕ) → i < length given → ((before : List Mark) → length before ≤ i → (v : Variable) → KnownVariable n w before v → f v ≡ g v)
        → worth m f (get_or all i []) ≡ worth m g (get_or all i [])
    agreeing f g i lt h =
        let before = take i (marks given) in
        let size : length before ≤ i = omega (arith, length-take i (marks given)) in
        same_worth f g (get_or all i []) (All-weaker _ _ (λ t k. h before size t.variable k) (get_or all i []) (known_list n w [] given known i lt))

    -- where each symbol is worth its list, following symbols comes to that
    module _ (ws : List Member) (solves : Solves m n z all ws) where
      follow : (d : ℕ) (before : List Mark) → length before ≤ d → length before ≤ length given → (v : Variable) → KnownVariable n w before v
          → followed m d n z all v ≡ value m n z ws v
      follow ℕ.zero before le in' Zero k = refl
      follow ℕ.zero before le in' One k = refl
      follow ℕ.zero before le in' (Instance i) k = refl
      follow ℕ.zero before le in' (Witness i) k = refl
      follow ℕ.zero before le in' (SymbolicLc j) k = absurd (omega (arith, k.0))
      follow (suc d) before le in' Zero k = refl
      follow (suc d) before le in' One k = refl
      follow (suc d) before le in' (Instance i) k = refl
      follow (suc d) before le in' (Witness i) k = refl
      follow (suc d) before le in' (SymbolicLc j) k =
          let lt : j.0 < length given = omega (arith, k.0) in
          let deep : j.0 ≤ d = omega (arith, k.0) in
          get_or-map (worth m (followed m d n z all)) all j.0 []
          ∙ agreeing (followed m d n z all) (value m n z ws) j.0 lt (λ b size v h. follow d b (omega arith) (omega arith) v h)
          ∙ sym (solves.symbols j.0 (omega (arith, many)))

    pub meant : Meant m n w z given
    meant =
        let solved = worths_solve n w z given known in
        let end = worths m n z all in
        record {
          solves = solved;
          unique = λ ws s.
              let d = length given in
              ext_get_or zero ws end (s.long ∙ sym solved.long) (λ k lt.
              let here : k < length given = omega (arith, s.long, many) in
              let same : worth m (value m n z ws) (get_or all k []) ≡ worth m (value m n z end) (get_or all k [])
              = agreeing (value m n z ws) (value m n z end) k here (λ b size v h. sym (follow ws s d b (omega arith) (omega arith) v h) ∙ follow end solved d b (omega arith) (omega arith) v h) in
              s.symbols k (omega (arith, many)) ∙ same ∙ sym (solved.symbols k (omega (arith, many))));
          follows = λ d le v h. follow end solved d (marks given) (omega (arith, length-map given (λ (g : Given V). g.mark))) (omega (arith, length-map given (λ (g : Given V). g.mark))) v h;
        }

  pub worths_meant : WorthsMeant m
  worths_meant n w z given known = meant n w z given known.terms
