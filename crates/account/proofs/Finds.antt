-- Where a value is found, and what it stands for, whichever values are kept. Assumes nothing.
use Rattle.std.proofs.Common.{◌≡◌, ℕ, suc, ◌+◌, ◌<◌, ◌≤◌, List, [], ◌∷◌, ◌++◌, length, get_or, take, Some, None, Option, sym, refl, ap, ◌∙◌, subst, zero-add as nat_zero_add, arith, length-take}
use lib.ListN.{length-map}
use Rattle.std.specs.List.{AllByRecursion, Contains, slice_get}
use Rattle.std.proofs.lemmas.List.{get_or_append_left, get_or_push, length_push}
use Rattle.std.proofs.lemmas.Option.{slice_get-get_or}
use Rattle.std.proofs.ByRecursion.{All-weaker}
use Rattle.std.proofs.lemmas.List.Elements.{All-from_recursion, recursion_from_All, All-contains, Contains-get_or}
use Rattle.field.specs.Laws.{Model, Keeps}
use Rattle.variables.specs.declared.LcIndex.{LcIndex}
use Rattle.variables.specs.declared.Variable.{Variable}
use Rattle.variables.specs.declared.Variable.TheVariants.{Zero, One, Instance, Witness, SymbolicLc}
use Rattle.variables.specs.declared.Term.{Term}
use Rattle.variables.specs.Worth.{value}
use Rattle.variables.specs.Evaluate.{read, accumulated, evaluated_from, evaluated}
use Rattle.variables.specs.Laws.{Means}
use Rattle.variables.proofs.Evaluates.{from_none, evaluated_means}
use Rattle.account.specs.declared.Mark.{Mark}
use Rattle.account.specs.Given.{Given, marks, lists, KnownVariable, KnownAfter}
use Rattle.account.specs.Worths.{worths}
use Rattle.account.specs.Rests.{RestsOn, itself, through, IsKept, AllKept, HasKept, Found}
use Rattle.account.specs.Evaluate.{filled_after, filled}
use Rattle.account.specs.Laws.{ValuesFound}
use Rattle.account.proofs.Worths.{worths_solve, known_list}

-- there is a value
abbrev pub There : {X : Type 0} → Option X → Type 0
There {X} o = (a : X) × (o ≡ Some a)

pub none_there : {X : Type 0} → There {X = X} None → ⊥
none_there h = let e = h.1 in let z : ◌≡◌ {A = ℕ} 0 1 = cc in omega arith

pub some_is : {X : Type 0} (a b : X) → Some a ≡ Some b → a ≡ b
some_is a b e = cc

get_there : {X : Type 0} (xs : List (Option X)) (i : ℕ) → There (get_or xs i None) → i < length xs
get_there [] i h = absurd (none_there h)
get_there (x ∷ xs) ℕ.zero h = omega arith
get_there (x ∷ xs) (suc i) h = omega (arith, get_there xs i h)

pub slice_there : {X : Type 0} (xs : List X) (i : ℕ) → There (slice_get xs i) → i < length xs
slice_there [] i h = absurd (none_there h)
slice_there (x ∷ xs) ℕ.zero h = omega arith
slice_there (x ∷ xs) (suc i) h = omega (arith, slice_there xs i h)

-- what holds of each element in turn
all_from : {X : Type 0} (P Q : X → Type 0) (xs : List X) → AllByRecursion P xs → ((x : X) → Contains xs x → P x → Q x) → AllByRecursion Q xs
all_from P Q xs h f = recursion_from_All Q xs (λ k d lt. f (get_or xs k d) (Contains-get_or xs k d lt) (All-from_recursion P xs h k d lt))

-- a symbol that stands for one of so many lists; the other variables stand for none
abbrev InLists : ℕ → Variable → Type 0
InLists count (SymbolicLc k) = k.0 < count
InLists count other = Unit {0}

known_in : (n w : ℕ) (before : List Mark) (v : Variable) → KnownVariable n w before v → InLists (length before) v
known_in n w before (SymbolicLc k) h = h.0
known_in n w before other h = tt

module _ {V : Type 0} (m : Model V) where
  -- a list has a value exactly where all its variables do
  from_there : (at : Variable → Option V) (ts : List (Term V)) (o : Option V) → There (evaluated_from m at o ts) → There o × AllByRecursion (λ t. There (at t.variable)) ts
  from_there at [] o h = (h, tt)
  from_there at (t ∷ ts) None h = absurd (none_there (h.0, sym (from_none m at (t ∷ ts)) ∙ h.1))
  from_there at (t ∷ ts) (Some s) h =
      let rest = from_there at ts (accumulated m (Some s) t.number (at t.variable)) h in
      ((s, refl), (value_there (at t.variable) rest.0, rest.1))
    where
      value_there : (o : Option V) → There (accumulated m (Some s) t.number o) → There o
      value_there None k = absurd (none_there k)
      value_there (Some v) k = (v, refl)

  there_from : (at : Variable → Option V) (ts : List (Term V)) (s : V) → AllByRecursion (λ t. There (at t.variable)) ts → There (evaluated_from m at (Some s) ts)
  there_from at [] s h = (s, refl)
  there_from at (t ∷ ts) s h =
      let next = there_from at ts (m.plus s (m.times t.number h.0.0)) h.1 in
      (next.0, ap (λ o. evaluated_from m at (accumulated m (Some s) t.number o) ts) h.0.1 ∙ next.1)

  -- what a list is worked out to hangs on the variables that it names
  same_from : (at also : Variable → Option V) (ts : List (Term V)) (o : Option V) → AllByRecursion (λ t. at t.variable ≡ also t.variable) ts → evaluated_from m at o ts ≡ evaluated_from m also o ts
  same_from at also [] o h = refl
  same_from at also (t ∷ ts) o h =
      ap (λ p. evaluated_from m at (accumulated m o t.number p) ts) h.0 ∙ same_from at also ts (accumulated m o t.number (also t.variable)) h.1

  module _ (instances witnesses : List V) where
    abbrev after : List (Option V) → List (List (Term V)) → List (Option V)
    after named ls = filled_after m instances witnesses named ls

    abbrev worked : List (Option V) → List (Term V) → Option V
    worked named l = evaluated m (read m instances witnesses named) l

    same_read : (n w : ℕ) (named also : List (Option V)) (before : List Mark) → ((k : ℕ) → k < length before → get_or named k None ≡ get_or also k None)
        → (v : Variable) → KnownVariable n w before v → read m instances witnesses named v ≡ read m instances witnesses also v
    same_read n w named also before same Zero k = refl
    same_read n w named also before same One k = refl
    same_read n w named also before same (Instance i) k = refl
    same_read n w named also before same (Witness i) k = refl
    same_read n w named also before same (SymbolicLc j) k = same j.0 k.0

    filled_kept : (named : List (Option V)) (ls : List (List (Term V))) (k : ℕ) → k < length named → get_or (after named ls) k None ≡ get_or named k None
    filled_kept named [] k h = refl
    filled_kept named (l ∷ ls) k h =
        let x = worked named l in
        filled_kept (named ++ x ∷ []) ls k (omega (arith, length_push named x)) ∙ get_or_append_left named (x ∷ []) None k h

    pub filled_long : (named : List (Option V)) (ls : List (List (Term V))) → length (after named ls) ≡ length named + length ls
    filled_long named [] = omega arith
    filled_long named (l ∷ ls) = let x = worked named l in filled_long (named ++ x ∷ []) ls ∙ omega (arith, length_push named x)

    -- each place of the work table has what its list is worked out to over the whole table
    solved_after : (n w : ℕ) (given : List (Given V)) (named : List (Option V)) (before : List Mark) → length before ≡ length named → KnownAfter n w before given
        → (i : ℕ) → i < length given
        → get_or (after named (lists given)) (length named + i) None ≡ worked (after named (lists given)) (get_or (lists given) i [])
    solved_after n w [] named before e known i h = absurd (omega arith)
    solved_after n w (g ∷ gs) named before e known ℕ.zero h =
        let x = worked named g.terms in
        let end = after (named ++ x ∷ []) (lists gs) in
        let here = filled_kept (named ++ x ∷ []) (lists gs) in
        let before_kept : (k : ℕ) → k < length before → get_or named k None ≡ get_or end k None
        = λ k b. sym (here k (omega (arith, length_push named x)) ∙ get_or_append_left named (x ∷ []) None k (omega arith)) in
        here (length named + 0) (omega (arith, length_push named x)) ∙ get_or_push named x None (length named + 0) (omega arith)
        ∙ same_from (read m instances witnesses named) (read m instances witnesses end) g.terms (Some m.zero)
        (All-weaker _ _ (λ t k. same_read n w named end before before_kept t.variable k) g.terms known.0)
    solved_after n w (g ∷ gs) named before e known (suc i) h =
        let x = worked named g.terms in
        let end = after (named ++ x ∷ []) (lists gs) in
        let place : length named + suc i ≡ length (named ++ x ∷ []) + i = omega (arith, length_push named x) in
        ap (λ k. get_or end k None) place
        ∙ solved_after n w gs (named ++ x ∷ []) (before ++ g.mark ∷ []) (length_push before g.mark ∙ ap (λ k. k + 1) e ∙ sym (length_push named x)) known.1 i (omega arith)

    module _ (n w : ℕ) (given : List (Given V)) (known : KnownAfter n w [] given) where
      abbrev all : List (List (Term V))
      all = lists given

      abbrev table : List (Option V)
      table = filled m instances witnesses all

      abbrev at : Variable → Option V
      at = read m instances witnesses table

      many : length all ≡ length given
      many = length-map given (λ (g : Given V). g.terms)

      solved : (i : ℕ) → i < length given → get_or table i None ≡ evaluated m at (get_or all i [])
      solved i h = ap (λ k. get_or table k None) (sym (nat_zero_add i)) ∙ solved_after n w given [] [] refl known i h

      -- the variables of a list whose value is there have values
      terms_there : (i : ℕ) → There (get_or table i None) → AllByRecursion (λ t. There (at t.variable)) (get_or all i [])
      terms_there i h =
          let lt : i < length given = omega (arith, get_there table i h, filled_long [] all, many) in
          (from_there at (get_or all i []) (Some m.zero) (h.0, sym (solved i lt) ∙ h.1)).1

      own : (v : Variable) → There (at v) → IsKept (length instances) (length witnesses) v
      own Zero h = tt
      own One h = tt
      own (Instance i) h = slice_there instances i h
      own (Witness i) h = slice_there witnesses i h
      own (SymbolicLc k) h = tt

      -- where a value is there, all is kept that it rests on
      rests : {v u : Variable} → RestsOn all v u → There (at v) → IsKept (length instances) (length witnesses) u
      rests (itself {v}) h = own v h
      rests (through {k} {t} c r) h = rests r (All-contains (λ t. There (at t.variable)) (get_or all k.0 []) t (All-from_recursion _ (get_or all k.0 []) (terms_there k.0 h)) c)

      -- .. and the other way around, for what stands for few lists
      module _ (Good : Variable → Type 0) (zero_good : Good Zero) (one_good : Good One) (instance_good : (i : ℕ) → i < length instances → Good (Instance i))
          (witness_good : (i : ℕ) → i < length witnesses → Good (Witness i))
          (symbol_good : (k : LcIndex) → k.0 < length given → AllByRecursion (λ t. Good t.variable) (get_or all k.0 []) → Good (SymbolicLc k)) where
        good : (d count : ℕ) → count ≤ d → count ≤ length given → (v : Variable) → InLists count v
            → ((u : Variable) → RestsOn all v u → IsKept (length instances) (length witnesses) u) → Good v
        good d count le in' Zero k h = zero_good
        good d count le in' One k h = one_good
        good d count le in' (Instance i) k h = instance_good i (h (Instance i) itself)
        good d count le in' (Witness i) k h = witness_good i (h (Witness i) itself)
        good ℕ.zero count le in' (SymbolicLc j) k h = absurd (omega (arith, k))
        good (suc d) count le in' (SymbolicLc j) k h =
            let lt : j.0 < length given = omega (arith, k) in
            let early = take j.0 (marks given) in
            let size : length early ≤ j.0 = omega (arith, length-take j.0 (marks given)) in
            symbol_good j lt
            (all_from (λ t. KnownVariable n w early t.variable) (λ t. Good t.variable) (get_or all j.0 []) (known_list n w [] given known j.0 lt)
            (λ t c kn. good d (length early) (omega (arith, k)) (omega arith) t.variable (known_in n w early t.variable kn) (λ u r. h u (through c r))))

module _ {V : Type 0} {m : Model V} (keeps : Keeps m) where
  open m.ring use {Member, zero}

  module _ (instances witnesses : List V) (n w : ℕ) (given : List (Given V)) (known : KnownAfter n w [] given) where
    abbrev reads : Variable → Option V
    reads = read m instances witnesses (filled m instances witnesses (lists given))

    -- what can be worked out has a value
    has_value : (v : Variable) → InLists (length given) v → AllKept (length instances) (length witnesses) (lists given) v → There (reads v)
    has_value v k h =
        good m instances witnesses n w given known (λ u. There (reads u)) (m.zero, refl) (m.one, refl)
        (λ i lt. (get_or instances i m.zero, slice_get-get_or instances i m.zero lt)) (λ i lt. (get_or witnesses i m.zero, slice_get-get_or witnesses i m.zero lt))
        (λ j lt all.
        let got = there_from m reads (get_or (lists given) j.0 []) m.zero all in
        (got.0, solved m instances witnesses n w given known j.0 lt ∙ got.1))
        (length given) (length given) (omega arith) (omega arith) v k h

    -- .. which stands for its worth
    module _ (z : List Member) (has : HasKept m n instances witnesses z) where
      abbrev meant : Variable → Member
      meant = value m n z (worths m n z (lists given))

      value_stands : (v : Variable) → InLists (length given) v → AllKept (length instances) (length witnesses) (lists given) v → Means m (reads v) (meant v)
      value_stands v k h =
          good m instances witnesses n w given known (λ u. Means m (reads u) (meant u)) (m.zero, refl, keeps.zero_stands) (m.one, refl, keeps.one_stands)
          (λ i lt. (get_or instances i m.zero, slice_get-get_or instances i m.zero lt, sym (has.of_instances i lt)))
          (λ i lt. (get_or witnesses i m.zero, slice_get-get_or witnesses i m.zero lt, sym (has.of_witnesses i lt)))
          (λ j lt all.
          let got = evaluated_means keeps reads meant (get_or (lists given) j.0 []) all in
          let many : length (lists given) ≡ length given = length-map given (λ (g : Given V). g.terms) in (
            got.0,
            solved m instances witnesses n w given known j.0 lt ∙ got.1,
            got.2 ∙ sym ((worths_solve keeps n w z given known).symbols j.0 (omega (arith, many))),
          ))
          (length given) (length given) (omega arith) (omega arith) v k h

    found : (v : Variable) → InLists (length given) v → Found m n instances witnesses (AllKept (length instances) (length witnesses) (lists given) v) (λ z. value m n z (worths m n z (lists given)) v) (reads v)
    found v k = record {
      there = (λ h u r. rests m instances witnesses n w given known r h, λ h. has_value v k h);
      stands = λ z has a e.
          let got = value_stands z has v k (λ u r. rests m instances witnesses n w given known r (a, e)) in
          ap m.stands (some_is a got.0 (sym e ∙ got.1)) ∙ got.2;
    }

  pub values_found : ValuesFound m
  values_found instances witnesses n w given known v k =
      found instances witnesses n w given known.terms v (subst (λ i. InLists i v) (length-map given (λ (g : Given V). g.mark)) (known_in n w (marks given) v k))

  -- of each list, whatever its mark
  pub list_found : (instances witnesses : List V) (n w : ℕ) (given : List (Given V)) → KnownAfter n w [] given → (k : ℕ) → k < length given
      → Found m n instances witnesses (AllKept (length instances) (length witnesses) (lists given) (SymbolicLc (record { 0 = k })))
      (λ z. get_or (worths m n z (lists given)) k zero) (get_or (filled m instances witnesses (lists given)) k None)
  list_found instances witnesses n w given known k lt = found instances witnesses n w given known (SymbolicLc (record { 0 = k })) lt
