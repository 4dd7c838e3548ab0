-- Lists that lie in the same front of tables, and how many places finalising leaves in use. Assumes nothing.
use Rattle.std.proofs.Common.{◌≡◌, ℕ, ◌+◌, ◌≤◌, Bool, true, false, cond, List, [], ◌∷◌, ◌++◌, map, length, take, drop, sym, refl, ap, ◌∙◌, subst, ap₂, arith, length-append}
use mathlib.Core.List.{map-map}
use Rattle.std.specs.List.{AllByRecursion}
use Rattle.std.proofs.lemmas.List.{take-take, drop-take, length_push}
use Rattle.std.proofs.ByRecursion.{All-map}
use Rattle.field.specs.Laws.{Model}
use Rattle.variables.specs.declared.Variable.TheVariants.{One, Witness}
use Rattle.variables.specs.declared.Term.{Term}
use Rattle.variables.specs.Terms.{once}
use Rattle.account.specs.Given.{marked}
use Rattle.account.specs.Finish.{Rule, Outlined, Finishing, untaken, places, inlined, single, taken, finish_after}
use Rattle.account.specs.Rows.{row_lists, added_row, finished_lists}
use Rattle.account.proofs.Lists.{all_unmap}
use Rattle.account.proofs.Places.{places_append}
use Rattle.tables.specs.declared.Entry.{Entry}
use Rattle.tables.specs.Sound.{given_in}
use Rattle.finishing.specs.Layout.{Laid, with_finished, row_entries, laid_one, laid_after}
use Rattle.finishing.specs.Sound.{finished_in}
use Rattle.finishing.specs.Finalising.{as_given}
use Rattle.finishing.proofs.Lays.{rows_more}

-- lists with the same front have the same parts there
pub part_same : {X : Type 0} (n start len : ℕ) (xs ys : List X) → take n xs ≡ take n ys → start + len ≤ n → take len (drop start xs) ≡ take len (drop start ys)
part_same n start len xs ys e h =
    let front : take (start + len) xs ≡ take (start + len) ys
    = sym (take-take (start + len) n xs h) ∙ ap (take (start + len)) e ∙ take-take (start + len) n ys h in
    sym (drop-take start len xs) ∙ ap (drop start) front ∙ drop-take start len ys

-- where the lists of entries as given, and as finished, lie
abbrev pub GivenWithin : ℕ → Entry → Type 0
GivenWithin n e = e.given_start + e.given_len ≤ n

abbrev pub FinishedWithin : ℕ → Entry → Type 0
FinishedWithin n e = e.finished_start + e.finished_len ≤ n

-- entries that differ in their finished columns alone have their given lists in the same places
pub within_as : (n : ℕ) (es us : List Entry) → map as_given es ≡ map as_given us → AllByRecursion (GivenWithin n) us → AllByRecursion (GivenWithin n) es
within_as n es us e h = all_unmap (GivenWithin n) as_given es (subst (AllByRecursion (GivenWithin n)) (sym e) (All-map (GivenWithin n) as_given us h))

module _ {V : Type 0} where
  pub given_as : (ts : List (Term V)) (es us : List Entry) → map as_given es ≡ map as_given us → map (given_in ts) es ≡ map (given_in ts) us
  given_as ts es us e = sym (map-map (given_in ts) as_given es) ∙ ap (map (given_in ts)) e ∙ map-map (given_in ts) as_given us

  -- the lists of entries in terms with the same front
  pub given_same : (n : ℕ) (xs ys : List (Term V)) → take n xs ≡ take n ys → (es : List Entry) → AllByRecursion (GivenWithin n) es
      → map (given_in xs) es ≡ map (given_in ys) es
  given_same n xs ys front [] h = refl
  given_same n xs ys front (e ∷ es) h =
      ap₂ (λ ts gs. marked e.mark ts ∷ gs) (part_same n e.given_start e.given_len xs ys front h.0) (given_same n xs ys front es h.1)

  pub finished_same : (n : ℕ) (xs ys : List (Term V)) → take n xs ≡ take n ys → (es : List Entry) → AllByRecursion (FinishedWithin n) es
      → map (finished_in xs) es ≡ map (finished_in ys) es
  finished_same n xs ys front [] h = refl
  finished_same n xs ys front (e ∷ es) h =
      ap₂ (λ ts ls. ts ∷ ls) (part_same n e.finished_start e.finished_len xs ys front h.0) (finished_same n xs ys front es h.1)

module _ {V : Type 0} (m : Model V) where
  -- the places of the added rows
  abbrev row_places : List (Outlined V) → ℕ
  row_places os = places (row_lists (map (added_row m) os))

  -- what was laid down so far, beside the places of the lists so far
  abbrev Even : (f : Finishing V) (d : Laid V) (g : Finishing V) (c : Laid V) → Type 0
  Even f d g c =
      length c.terms + length g.outlined + (places f.finished + row_places f.outlined)
      ≡ length d.terms + length f.outlined + (places g.finished + row_places g.outlined)

  by_both : {X Y : Type 0} (b : Bool) (x y : X) (u v : Y) (P : X → Y → Type 0) → P x u → P y v → P (cond b x y) (cond b u v)
  by_both true x y u v P h k = h
  by_both false x y u v P h k = k

  module _ (rule : Rule V) (w : ℕ) where
    one_even : (f : Finishing V) (d : Laid V) (e : Entry) (merged : List (Term V)) → Even f d (taken m rule w f merged) (laid_one m rule w f d e merged)
    one_even f d e merged =
        let entry = length f.finished in
        let witness = w + length f.outlined in
        let o : Outlined V = record { entry = entry; witness = witness; merged = merged } in
        let start = length d.terms in
        let len = length merged in
        let last = once m One ∷ once m (Witness witness) ∷ [] in
        let row : Finishing V = record { finished = f.finished ++ single m (Witness witness) ∷ []; outlined = f.outlined ++ o ∷ [] } in
        let plain : Finishing V = record { finished = f.finished ++ merged ∷ []; outlined = f.outlined } in
        let with_row : Laid V
        = record { terms = d.terms ++ merged ++ last; taken = d.taken ++ with_finished (start + len + 1) 1 e ∷ []; rows = d.rows ++ row_entries start len } in
        let alone : Laid V = record { terms = d.terms ++ merged; taken = d.taken ++ with_finished start len e ∷ []; rows = d.rows } in
        by_both (rule entry merged) row plain with_row alone (λ g c. Even f d g c)
        (omega (
          arith,
          length-append (d.terms ++ merged) last,
          length-append d.terms merged,
          length_push f.outlined o,
          places_append f.finished (single m (Witness witness) ∷ []),
          ap places (rows_more m f.outlined o),
          places_append (row_lists (map (added_row m) f.outlined)) (merged ∷ single m One ∷ single m (Witness witness) ∷ []),
        ))
        (omega (arith, length-append d.terms merged, places_append f.finished (merged ∷ [])))

    laid_even : (given : List (Term V)) (es : List Entry) (f : Finishing V) (d : Laid V)
        → Even f d (finish_after m rule w f (map (λ e. (given_in given e).terms) es)) (laid_after m rule w given f d es)
    laid_even given [] f d = refl
    laid_even given (e ∷ es) f d =
        let merged = inlined m f.finished (given_in given e).terms in
        let one = one_even f d e merged in
        let rest = laid_even given es (taken m rule w f merged) (laid_one m rule w f d e merged) in
        omega (arith, one, rest)

    -- from the start on, a place is in use for each term of a finished list, an outlined entry's own list lying in the C of its row
    pub laid_takes : (given : List (Term V)) (es : List Entry) (d : Laid V)
        → let g = finish_after m rule w untaken (map (λ e. (given_in given e).terms) es) in
        length (laid_after m rule w given untaken d es).terms + length g.outlined ≡ length d.terms + places (finished_lists m g)
    laid_takes given es d =
        let g = finish_after m rule w untaken (map (λ e. (given_in given e).terms) es) in
        omega (arith, laid_even given es untaken d, places_append g.finished (row_lists (map (added_row m) g.outlined)))
