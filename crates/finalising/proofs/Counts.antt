-- Uses counted into the finished lengths of entries. Assumes nothing.
use Rattle.std.proofs.Common.{◌≡◌, ℕ, zero, suc, ◌+◌, ◌-◌, ◌*◌, ◌^◌, ◌<◌, ◌≤◌, cond, true, List, [], ◌∷◌, ◌++◌, map, length, get_or, take, drop, set, eqb, sym, refl, ap, ◌∙◌, subst, arith, eq-eqb, ne_eqb, length-drop, length-take}
use Rattle.std.specs.List.{list_all}
use Rattle.std.proofs.lemmas.List.{drop_more, drop_all, get_or_default, get_or-map, length-map}
use Rattle.std.proofs.ByRecursion.{All-get_or}
use Rattle.std.proofs.lemmas.List.Edits.{map_over_more}
use Rattle.std.proofs.lemmas.Bool.{cond-true, cond-false, cond_both}
use Rattle.variables.specs.declared.Variable.{Variable}
use Rattle.variables.specs.declared.Variable.TheVariants.{Zero, One, Instance, Witness, SymbolicLc}
use Rattle.variables.specs.declared.LcIndex.{LcIndex}
use Rattle.variables.specs.declared.Term.{Term}
use Rattle.account.specs.Finish.{names, uses_in, uses}
use Rattle.account.specs.Refusals.{limit}
use Rattle.account.proofs.Lists.{all_unmap}
use Rattle.account.specs.Given.{lists}
use Rattle.tables.specs.declared.Entry.{Entry}
use Rattle.tables.specs.Sound.{given_in, span_fits}
use Rattle.tables.proofs.Soundness.{spans_iff}
use Rattle.finishing.specs.Steps.{with_uses}
use Rattle.finalising.specs.Uses.{SymbolBelow, AllBelow, ListsBelow, gaining, HasRoom}
use Rattle.finishing.specs.Finalising.{as_given}

-- an entry whose finished length is n
abbrev counting : Entry → ℕ → Entry
counting e n = record e { finished_len = n }

gaining_same : (f g : ℕ → ℕ) → ((j : ℕ) → f j ≡ g j) → (k : ℕ) (es : List Entry) → gaining f k es ≡ gaining g k es
gaining_same f g same k es = ap (λ (h : ℕ → ℕ). gaining h k es) (λ i j. same j i)

-- where nothing is gained, nothing changes
gaining_nothing : (f : ℕ → ℕ) (k : ℕ) → ((j : ℕ) → k ≤ j → f j ≡ 0) → (es : List Entry) → gaining f k es ≡ es
gaining_nothing f k none [] = refl
gaining_nothing f k none (e ∷ es) =
    let z : e.finished_len + f k ≡ e.finished_len = omega (arith, none k (omega arith)) in
    λ i. counting e (z i) ∷ gaining_nothing f (suc k) (λ j le. none j (omega arith)) es i

gained_nothing : (es : List Entry) → es ≡ gaining (λ k. 0) 0 es
gained_nothing es = sym (gaining_nothing (λ k. 0) 0 (λ j le. refl) es)

-- two gains are one gain of the sum
gaining_twice : (f g : ℕ → ℕ) (k : ℕ) (es : List Entry) → gaining f k (gaining g k es) ≡ gaining (λ j. g j + f j) k es
gaining_twice f g k [] = refl
gaining_twice f g k (e ∷ es) =
    let z : e.finished_len + g k + f k ≡ e.finished_len + (g k + f k) = omega arith in
    λ i. counting e (z i) ∷ gaining_twice f g (suc k) es i

pub length_gaining : (f : ℕ → ℕ) (k : ℕ) (es : List Entry) → length (gaining f k es) ≡ length es
length_gaining f k [] = refl
length_gaining f k (e ∷ es) = ap suc (length_gaining f (suc k) es)

-- one entry gains one
gaining_one : (t k : ℕ) (es : List Entry) (i : ℕ) (d : Entry) → k + i ≡ t → i < length es
    → set es i (counting (get_or es i d) ((get_or es i d).finished_len + 1)) ≡ gaining (λ j. cond (eqb t j) 1 0) k es
gaining_one t k [] i d e lt = absurd (omega arith)
gaining_one t k (x ∷ es) zero d e lt =
    let one : ◌≡◌ {A = ℕ} 1 (cond (eqb t k) 1 0) = sym (cond-true (eqb t k) 1 0 (eq-eqb t k (omega arith))) in
    λ i. counting x (x.finished_len + one i)
    ∷ sym (gaining_nothing (λ j. cond (eqb t j) 1 0) (suc k) (λ j le. cond-false (eqb t j) 1 0 (ne_eqb t j (λ q. omega arith))) es) i
gaining_one t k (x ∷ es) (suc n) d e lt =
    let none : ◌≡◌ {A = ℕ} (cond (eqb t k) 1 0) 0 = cond-false (eqb t k) 1 0 (ne_eqb t k (λ q. omega arith)) in
    let z : x.finished_len ≡ x.finished_len + cond (eqb t k) 1 0 = omega arith in
    λ i. counting x (z i) ∷ gaining_one t (suc k) es n d (omega arith) (omega arith) i

-- a use counted at the entry that a symbol names
pub counted_once : (es : List Entry) (d : Entry) (v : Variable) (j : LcIndex) → v ≡ SymbolicLc j → SymbolBelow (length es) v
    → set es j.0 (counting (get_or es j.0 d) ((get_or es j.0 d).finished_len + 1)) ≡ gaining (λ k. names k v) 0 es
counted_once es d v j is below =
    let lt : j.0 < length es = subst (SymbolBelow (length es)) is below in
    gaining_one j.0 0 es j.0 d (omega arith) lt ∙ sym (gaining_same (λ k. names k v) (λ k. cond (eqb j.0 k) 1 0) (λ k. ap (names k) is) 0 es)

-- and no use counted where a variable is no symbol
pub counted_never : (es : List Entry) (v : Variable) → ((j : LcIndex) → v ≡ SymbolicLc j → ⊥) → es ≡ gaining (λ k. names k v) 0 es
counted_never es Zero apart = gained_nothing es
counted_never es One apart = gained_nothing es
counted_never es (Instance i) apart = gained_nothing es
counted_never es (Witness i) apart = gained_nothing es
counted_never es (SymbolicLc j) apart = absurd (apart j refl)

names_few : (k : ℕ) (v : Variable) → names k v ≤ 1
names_few k Zero = omega arith
names_few k One = omega arith
names_few k (Instance i) = omega arith
names_few k (Witness i) = omega arith
names_few k (SymbolicLc j) = cond_both (eqb j.0 k) 1 0 (λ n. n ≤ 1) (λ e. omega arith) (λ e. omega arith)

uses_in_few : {V : Type 0} (k : ℕ) (ts : List (Term V)) → uses_in k ts ≤ length ts
uses_in_few k [] = omega arith
uses_in_few k (t ∷ ts) = omega (arith, names_few k t.variable, uses_in_few k ts)

-- what is gained takes from the room
room_left : (f : ℕ → ℕ) (most n all : ℕ) → most + n ≤ all → ((j : ℕ) → f j ≤ most) → (k : ℕ) (es : List Entry) → HasRoom all es
    → HasRoom n (gaining f k es)
room_left f most n all le few k [] h = tt
room_left f most n all le few k (e ∷ es) h = (omega (arith, few k, h.0), room_left f most n all le few (suc k) es h.1)

room_less : (n most : ℕ) → n ≤ most → (es : List Entry) → HasRoom most es → HasRoom n es
room_less n most le [] h = tt
room_less n most le (e ∷ es) h = (omega (arith, h.0), room_less n most le es h.1)

-- A list counted so far: what is left of it, counted from here, gives what the whole gives; its symbols are below the length, and there is room
-- for it.
pub record Counting {V : Type 0} (start : List Entry) (list : List (Term V)) (now : List Entry) (rest : List (Term V)) : Type 0 where
  pub same : gaining (λ k. uses_in k rest) 0 now ≡ gaining (λ k. uses_in k list) 0 start
  pub known : AllBelow (length now) rest
  pub few : HasRoom (length rest) now

module _ {V : Type 0} (start : List Entry) (list : List (Term V)) where
  pub one_counted : (i : ℕ) (now next : List Entry) (t : Term V) → i < length list → t ≡ get_or list i t → Counting start list now (drop i list)
      → next ≡ gaining (λ k. names k t.variable) 0 now → Counting start list next (drop (i + 1) list)
  one_counted i now next t lt at c is =
      let f : ℕ → ℕ = λ k. names k t.variable in
      let rest = drop (i + 1) list in
      let left : drop i list ≡ t ∷ rest = drop_more list i t lt ∙ ap (λ u. u ∷ rest) (sym at) in
      let d : Counting start list now (t ∷ rest) = subst (Counting start list now) left c in
      subst (λ z. Counting start list z rest) (sym is) (record {
        same = gaining_twice (λ k. uses_in k rest) f 0 now ∙ d.same;
        known = subst (λ n. AllBelow n rest) (sym (length_gaining f 0 now)) d.known.1;
        few = room_left f 1 (length rest) _ (omega arith) (λ j. names_few j t.variable) 0 now d.few;
      })

  pub all_counted : (i : ℕ) (now : List Entry) → length list ≤ i → Counting start list now (drop i list) → now ≡ gaining (λ k. uses_in k list) 0 start
  all_counted i now le c = gained_nothing now ∙ (subst (Counting start list now) (drop_all i list le) c).same

-- one entry more is cleared
pub cleared_more : (xs ys : List Entry) (i : ℕ) (d : Entry) → i < length xs → i < length ys → ys ≡ map as_given (take i xs) ++ drop i xs
    → set ys i (as_given (get_or ys i d)) ≡ map as_given (take (i + 1) xs) ++ drop (i + 1) xs
cleared_more xs ys i d lt there is = map_over_more as_given xs ys i (get_or ys i d) lt is (get_or_default ys i d _ there)

cleared_twice : (es : List Entry) → map as_given (map as_given es) ≡ map as_given es
cleared_twice [] = refl
cleared_twice (e ∷ es) = ap (λ l. as_given e ∷ l) (cleared_twice es)

cleared_gaining : (f : ℕ → ℕ) (k : ℕ) (es : List Entry) → map as_given (gaining f k es) ≡ map as_given es
cleared_gaining f k [] = refl
cleared_gaining f k (e ∷ es) = ap (λ l. as_given e ∷ l) (cleared_gaining f (suc k) es)

cleared_room : (n : ℕ) (es : List Entry) → n < 2 ^ 64 → HasRoom n (map as_given es)
cleared_room n [] lt = tt
cleared_room n (e ∷ es) lt = (omega arith, cleared_room n es lt)

-- uses gained by cleared entries
cleared_uses : {V : Type 0} (ls : List (List (Term V))) (k : ℕ) (es : List Entry) → gaining (uses ls) k (map as_given es) ≡ with_uses ls k es
cleared_uses ls k [] = refl
cleared_uses ls k (e ∷ es) =
    let z : 0 + uses ls k ≡ uses ls k = omega arith in
    λ i. counting (as_given e) (z i) ∷ cleared_uses ls (suc k) es i

module _ {V : Type 0} (terms : List (Term V)) (start : List Entry) where
  -- the given lists of some entries
  abbrev pub lists_in : List Entry → List (List (Term V))
  lists_in es = lists (map (given_in terms) es)

  -- Entries counted so far: the given lists of those that are left, counted from here, give the uses in all; the given columns stay, and there
  -- is room for what is left.
  pub record CountingAll (now left : List Entry) : Type 0 where
    pub same : gaining (uses (lists_in left)) 0 now ≡ with_uses (lists_in start) 0 start
    pub given : map as_given now ≡ map as_given start
    pub few : HasRoom (length left * limit) now

  -- an entry's given list, by where it starts and ends
  abbrev list_from : Entry → List (Term V)
  list_from e = take (e.given_start + e.given_len - e.given_start) (drop e.given_start terms)

  list_is : (e : Entry) → list_from e ≡ (given_in terms e).terms
  list_is e = let z : e.given_start + e.given_len - e.given_start ≡ e.given_len = omega arith in ap (λ n. take n (drop e.given_start terms)) z

  -- what counting asks of an entry's list
  pub record MayCount (now : List Entry) (e : Entry) : Type 0 where
    pub fits : e.given_start + e.given_len ≤ length terms
    pub known : AllBelow (length now) (list_from e)
    pub few : HasRoom (length (list_from e)) now

  pub none_counted : (now : List Entry) → length start ≤ limit → now ≡ map as_given start → CountingAll now start
  none_counted now few is =
      subst (λ z. CountingAll z start) (sym is) (record {
        same = cleared_uses (lists_in start) 0 start;
        given = cleared_twice start;
        few = cleared_room (length start * limit) start (omega arith);
      })

  module _ (few_terms : length terms ≤ limit) (spans : list_all (span_fits (length terms)) start ≡ true) where
    module _ (known : ListsBelow (length start) (lists_in start)) (i : ℕ) (now : List Entry) (d : Entry) (lt : i < length now)
        (c : CountingAll now (drop i start)) where
      -- the entry as it is now and as it was, and its given list
      abbrev here : Entry
      here = get_or now i d

      abbrev before : Entry
      before = get_or start i d

      abbrev list : List (Term V)
      list = list_from here

      long : length now ≡ length start
      long = sym (length-map now as_given) ∙ ap length c.given ∙ length-map start as_given

      there : i < length start
      there = omega (arith, long)

      -- the given columns stay
      as_before : as_given here ≡ as_given before
      as_before = sym (get_or-map as_given now i d d lt) ∙ ap (λ l. get_or l i d) c.given ∙ get_or-map as_given start i d d there

      list_before : list ≡ (given_in terms before).terms
      list_before = list_is here ∙ ap (λ e. (given_in terms e).terms) as_before

      fits : here.given_start + here.given_len ≤ length terms
      fits =
          let P : Entry → Type 0 = λ e. e.given_start + e.given_len ≤ length terms in
          subst P (sym as_before) (All-get_or P start i d there ((spans_iff (length terms) start).0 spans))

      list_short : length list ≤ limit
      list_short =
          let n = here.given_start + here.given_len - here.given_start in
          omega (arith, length-take n (drop here.given_start terms), length-drop here.given_start terms)

      below : AllBelow (length start) (given_in terms before).terms
      below =
          All-get_or (λ e. AllBelow (length start) (given_in terms e).terms) start i d there
          (all_unmap (λ g. AllBelow (length start) g.terms) (given_in terms) start
          (all_unmap (AllBelow (length start)) (λ g. g.terms) (map (given_in terms) start) known))

      next_left : drop i start ≡ before ∷ drop (i + 1) start
      next_left = drop_more start i d there

      many_left : length (drop i start) ≡ 1 + length (drop (i + 1) start)
      many_left = ap length next_left ∙ omega arith

      pub may_count : MayCount now here
      may_count = record {
        fits = fits;
        known = subst (λ n. AllBelow n list) (sym long) (subst (AllBelow (length start)) (sym list_before) below);
        few = room_less (length list) (length (drop i start) * limit) (omega (arith, many_left, list_short)) now c.few;
      }

      pub one_list_counted : (next : List Entry) → next ≡ gaining (λ k. uses_in k list) 0 now → CountingAll next (drop (i + 1) start)
      one_list_counted next is =
          let left = drop (i + 1) start in
          let f : ℕ → ℕ = λ k. uses_in k list in
          let all = length (drop i start) * limit in
          let few_more : (j : ℕ) → f j ≤ limit = λ j. omega (arith, uses_in_few j list, list_short) in
          subst (λ z. CountingAll z left) (sym is) (record {
            same =
                gaining_twice (uses (lists_in left)) f 0 now
                ∙ ap (λ l. gaining (λ k. uses_in k l + uses (lists_in left) k) 0 now) list_before
                ∙ ap (λ es. gaining (uses (lists_in es)) 0 now) (sym next_left)
                ∙ c.same;
            given = cleared_gaining f 0 now ∙ c.given;
            few = room_left f limit (length left * limit) all (omega (arith, many_left)) few_more 0 now c.few;
          })

  pub all_lists_counted : (i : ℕ) (now : List Entry) → length start ≤ i → CountingAll now (drop i start) → now ≡ with_uses (lists_in start) 0 start
  all_lists_counted i now le c = gained_nothing now ∙ (subst (CountingAll now) (drop_all i start le) c).same
