-- The places that finalising takes. Assumes nothing.
use Rattle.std.proofs.Common.{◌≡◌, ℕ, suc, ◌+◌, ◌*◌, ◌<◌, ◌≤◌, Bool, true, false, ◌⊎◌, List, [], ◌∷◌, ◌++◌, map, length, Ok, Err, Result, sym, refl, ap, ◌∙◌, subst, inl, inr, ⊎_elim, arith}
use mathlib.Core.List.{map-append}
use Rattle.std.proofs.lemmas.List.{length_push}
use Rattle.std.proofs.lemmas.Bool.{cases_Bool, cond_both, cond-true, cond-false, ltb-false}
use Rattle.field.specs.Laws.{Model}
use Rattle.variables.specs.declared.Variable.TheVariants.{Witness}
use Rattle.variables.specs.declared.Term.{Term}
use Rattle.variables.specs.Order.{equal, below}
use Rattle.variables.specs.Refusals.{Told}
use Rattle.variables.specs.Compact.{placed, all_placed}
use Rattle.account.specs.Given.{Given, lists}
use Rattle.account.specs.Finish.{Rule, Outlined, Finishing, Room, Start, Stage, untaken, places, lacks, unless, and_then, expanded, inlined, single, taken, finish_after, finish, settled, step, finish_within}
use Rattle.account.specs.Rows.{row_lists, added_row}
use Rattle.account.specs.Laws.{PlacesTaken, PlacesRefused}

pub err_ok : {X : Type 0} (e : Told) (x : X) → Err e ≡ Ok x → ⊥
err_ok e x p = let z : ◌≡◌ {A = ℕ} 0 1 = cc in omega arith

unless_ok : {X : Type 0} (b : Bool) (k : ℕ) (r : Result X Told) (x : X) → unless b k r ≡ Ok x → (b ≡ false) × (r ≡ Ok x)
unless_ok true k r x e = absurd (err_ok _ x e)
unless_ok false k r x e = (refl, e)

pub ok_is : {X : Type 0} (x y : X) → ◌≡◌ {A = Result X Told} (Ok x) (Ok y) → x ≡ y
ok_is x y e = cc

pub err_is : {X : Type 0} (x y : Told) → ◌≡◌ {A = Result X Told} (Err x) (Err y) → x ≡ y
err_is x y e = cc

-- a step that finds its places
pub enough : {X : Type 0} (due places k : ℕ) (r : Result X Told) (x : X) → unless (lacks due places) k r ≡ Ok x → (due ≤ places) × (r ≡ Ok x)
enough due places k r x e = let both = unless_ok (lacks due places) k r x e in (ltb-false places due both.0, both.1)

pub and_then_ok : {X Y : Type 0} (r : Result X Told) (next : X → Result Y Told) (y : Y) → and_then r next ≡ Ok y → (x : X) × (r ≡ Ok x) × (next x ≡ Ok y)
and_then_ok (Ok x) next y e = (x, refl, e)
and_then_ok (Err f) next y e = absurd (err_ok f y e)

pub places_append : {X : Type 0} (xs ys : List (List X)) → places (xs ++ ys) ≡ places xs + places ys
places_append [] ys = omega arith
places_append (x ∷ xs) ys = omega (arith, places_append xs ys)

pub given_places : {V : Type 0} (given more : List (Given V)) → places (lists (given ++ more)) ≡ places (lists given) + places (lists more)
given_places {V} given more = ap places (map-append (λ (g : Given V). g.terms) given more) ∙ places_append (lists given) (lists more)

module _ {V : Type 0} (m : Model V) where
  -- merging takes no more places
  placed_long : (t : Term V) (us : List (Term V)) → length (placed m t us) ≤ length us + 1
  placed_long t [] = omega arith
  placed_long t (u ∷ us) =
      cond_both (equal t.variable u.variable) _ _ (λ (l : List (Term V)). length l ≤ suc (length us) + 1) (λ _. omega arith)
      (λ _. cond_both (below t.variable u.variable) _ _ (λ (l : List (Term V)). length l ≤ suc (length us) + 1) (λ _. omega arith) (λ _. omega (arith, placed_long t us)))

  all_placed_long : (us ts : List (Term V)) → length (all_placed m us ts) ≤ length us + length ts
  all_placed_long us [] = omega arith
  all_placed_long us (t ∷ ts) = omega (arith, all_placed_long (placed m t us) ts, placed_long t us)

  pub inlined_long : (finished : List (List (Term V))) (ts : List (Term V)) → length (inlined m finished ts) ≤ length (expanded m finished ts)
  inlined_long finished ts = omega (arith, all_placed_long [] (expanded m finished ts))

  -- the places of the added rows
  row_places : List (Outlined V) → ℕ
  row_places os = places (row_lists (map (added_row m) os))

  row_places_push : (os : List (Outlined V)) (o : Outlined V) → row_places (os ++ o ∷ []) ≡ row_places os + length o.merged + 2
  unfolding row_places
  row_places_push [] o = omega arith
  row_places_push (p ∷ os) o = omega (arith, row_places_push os o)

  module _ (rule : Rule V) (room : Room) (start : Start) (base : ℕ) where
    abbrev w : ℕ
    w = start.witnesses

    -- what holds of the places at each stage
    record HoldsAt (s : Stage V) : Type 0 where
      takes : s.used + length s.lists.outlined ≡ base + places s.lists.finished + row_places s.lists.outlined
      terms_fit : base ≤ room.terms → s.used ≤ room.terms
      entries_found : 0 < length s.lists.outlined → start.entries + 3 * length s.lists.outlined ≤ room.entries
      witnesses_found : 0 < length s.lists.outlined → w + length s.lists.outlined ≤ room.witnesses

    -- the merged list is in use
    settled_holds : (s end : Stage V) (merged : List (Term V)) → s.used + length merged ≤ room.terms → HoldsAt s → settled m rule room start s merged ≡ Ok end
        → (end.lists ≡ taken m rule w s.lists merged) × HoldsAt end
    settled_holds s end merged le h e =
        let before = length s.lists.outlined in
        let used = s.used + length merged in
        let next = taken m rule w s.lists merged in
        let entry = length s.lists.finished in
        let b = rule entry merged in
        let o : Outlined V = record { entry = entry; witness = w + before; merged = merged } in
        let outlined : Finishing V = record { finished = s.lists.finished ++ single m (Witness (w + before)) ∷ []; outlined = s.lists.outlined ++ o ∷ [] } in
        let kept : Finishing V = record { finished = s.lists.finished ++ merged ∷ []; outlined = s.lists.outlined } in
        let third : Result (Stage V) Told = unless (lacks (start.entries + 3 * before + 3) room.entries) 13 (Ok (record { lists = next; used = used + 2 })) in
        let second = unless (lacks (w + before + 1) room.witnesses) 12 third in
        let first = unless (lacks (used + 2) room.terms) 14 second in
        let plain : Result (Stage V) Told = Ok (record { lists = next; used = used }) in
        ⊎_elim
        (λ is.
        let one = enough (used + 2) room.terms 14 second end (sym (cond-true b first plain is) ∙ e) in
        let two = enough (w + before + 1) room.witnesses 12 third end one.1 in
        let three = enough (start.entries + 3 * before + 3) room.entries 13 (Ok (record { lists = next; used = used + 2 })) end two.1 in
        let made : record { lists = next; used = used + 2 } ≡ end = ok_is _ end three.1 in
        let more = length_push s.lists.outlined o in
        let holds : HoldsAt (record { lists = outlined; used = used + 2 }) = record {
          takes = omega (arith, h.takes, places_append s.lists.finished (single m (Witness (w + before)) ∷ []), row_places_push s.lists.outlined o);
          terms_fit = λ _. one.0;
          entries_found = λ _. omega (arith, three.0);
          witnesses_found = λ _. omega (arith, two.0);
        } in
        (sym (ap (λ (t : Stage V). t.lists) made), subst HoldsAt made (subst (λ (l : Finishing V). HoldsAt (record { lists = l; used = used + 2 })) (sym (cond-true b outlined kept is)) holds)))
        (λ is.
        let made : record { lists = next; used = used } ≡ end = ok_is _ end (sym (cond-false b first plain is) ∙ e) in
        let holds : HoldsAt (record { lists = kept; used = used }) = record {
          takes = omega (arith, h.takes, places_append s.lists.finished (merged ∷ []));
          terms_fit = λ _. le;
          entries_found = h.entries_found;
          witnesses_found = h.witnesses_found;
        } in
        (sym (ap (λ (t : Stage V). t.lists) made), subst HoldsAt made (subst (λ (l : Finishing V). HoldsAt (record { lists = l; used = used })) (sym (cond-false b outlined kept is)) holds)))
        (cases_Bool b)

    finish_holds : (ls : List (List (Term V))) (s end : Stage V) → HoldsAt s → finish_within m rule room start s ls ≡ Ok end
        → (end.lists ≡ finish_after m rule w s.lists ls) × HoldsAt end
    finish_holds [] s end h e = let same : s ≡ end = ok_is s end e in (sym (ap (λ (t : Stage V). t.lists) same), subst HoldsAt same h)
    finish_holds (l ∷ ls) s end h e =
        let merged = inlined m s.lists.finished l in
        let got = and_then_ok (step m rule room start s l) (λ next. finish_within m rule room start next ls) end e in
        let free = enough (s.used + length (expanded m s.lists.finished l)) room.terms 14 (settled m rule room start s merged) got.0 got.1 in
        let one = settled_holds s got.0 merged (omega (arith, inlined_long s.lists.finished l, free.0)) h free.1 in
        let rest = finish_holds ls got.0 end one.1 got.2 in
        (rest.0 ∙ ap (λ f. finish_after m rule w f ls) one.0, rest.1)

  finished_holds : (rule : Rule V) (room : Room) (start : Start) (used : ℕ) (given : List (List (Term V))) (end : Stage V)
      → finish_within m rule room start (record { lists = untaken; used = used }) given ≡ Ok end
      → (end.lists ≡ finish m rule start.witnesses given) × HoldsAt rule room start used end
  unfolding row_places
  finished_holds rule room start used given end e =
      finish_holds rule room start used given (record { lists = untaken; used = used }) end
      (record { takes = omega arith; terms_fit = λ le. le; entries_found = λ lt. absurd (omega arith); witnesses_found = λ lt. absurd (omega arith) }) e

  -- where none is outlined nothing more is asked
  fit_from : (k start room : ℕ) → (0 < k → start + k ≤ room) → start ≤ room → start + k ≤ room
  fit_from ℕ.zero start room h le = omega arith
  fit_from (suc k) start room h le = h (omega arith)

  pub places_taken : PlacesTaken m
  unfolding row_places
  places_taken rule room start used given end e =
      let got = finished_holds rule room start used given end e in
      let holds = got.1 in
      let k = length end.lists.outlined in
      record {
        same = got.0;
        takes = omega (arith, holds.takes, places_append end.lists.finished (row_lists (map (added_row m) end.lists.outlined)));
        terms_fit = holds.terms_fit;
        entries_fit = fit_from (3 * k) start.entries room.entries (λ lt. holds.entries_found (omega arith));
        witnesses_fit = fit_from k start.witnesses room.witnesses holds.witnesses_found;
      }

  -- the witnesses and entries that were found
  pub places_found : (rule : Rule V) (room : Room) (start : Start) (used : ℕ) (given : List (List (Term V))) (end : Stage V)
      → finish_within m rule room start (record { lists = untaken; used = used }) given ≡ Ok end
      → (0 < length end.lists.outlined → start.witnesses + length end.lists.outlined ≤ room.witnesses)
      × (0 < length end.lists.outlined → start.entries + 3 * length end.lists.outlined ≤ room.entries)
  places_found rule room start used given end e = let holds = (finished_holds rule room start used given end e).1 in (holds.witnesses_found, holds.entries_found)

  -- finalising is refused by these alone
  abbrev ForPlaces : Told → Type 0
  ForPlaces r = (r ≡ record { number = 14; values = [] }) ⊎ ((r ≡ record { number = 12; values = [] }) ⊎ (r ≡ record { number = 13; values = [] }))

  RefusedWell : Result (Stage V) Told → Type 0
  RefusedWell x = (r : Told) → x ≡ Err r → ForPlaces r

  ok_well : (s : Stage V) → RefusedWell (Ok s)
  unfolding RefusedWell
  ok_well s r e = absurd (err_ok r s (sym e))

  unless_well : (b : Bool) (number : ℕ) (x : Result (Stage V) Told) → ForPlaces (record { number = number; values = [] }) → RefusedWell x → RefusedWell (unless b number x)
  unfolding RefusedWell
  unless_well true number x p h r e = subst ForPlaces (err_is {X = Stage V} _ r e) p
  unless_well false number x p h r e = h r e

  and_then_well : (x : Result (Stage V) Told) (next : Stage V → Result (Stage V) Told) → RefusedWell x → ((s : Stage V) → RefusedWell (next s)) → RefusedWell (and_then x next)
  unfolding RefusedWell
  and_then_well (Ok s) next h k = k s
  and_then_well (Err f) next h k = h

  module _ (rule : Rule V) (room : Room) (start : Start) where
    settled_well : (s : Stage V) (merged : List (Term V)) → RefusedWell (settled m rule room start s merged)
    settled_well s merged =
        let before = length s.lists.outlined in
        let end : Stage V = record { lists = taken m rule start.witnesses s.lists merged; used = s.used + length merged + 2 } in
        let third = unless (lacks (start.entries + 3 * before + 3) room.entries) 13 (Ok end) in
        let second = unless (lacks (start.witnesses + before + 1) room.witnesses) 12 third in
        cond_both (rule (length s.lists.finished) merged) _ _ RefusedWell
        (λ _. unless_well (lacks (s.used + length merged + 2) room.terms) 14 second (inl refl)
        (unless_well (lacks (start.witnesses + before + 1) room.witnesses) 12 third (inr (inl refl))
        (unless_well (lacks (start.entries + 3 * before + 3) room.entries) 13 (Ok end) (inr (inr refl)) (ok_well end))))
        (λ _. ok_well _)

    finish_well : (ls : List (List (Term V))) (s : Stage V) → RefusedWell (finish_within m rule room start s ls)
    finish_well [] s = ok_well s
    finish_well (l ∷ ls) s =
        and_then_well (step m rule room start s l) (λ next. finish_within m rule room start next ls)
        (unless_well (lacks (s.used + length (expanded m s.lists.finished l)) room.terms) 14 (settled m rule room start s (inlined m s.lists.finished l)) (inl refl)
        (settled_well s (inlined m s.lists.finished l)))
        (λ next. finish_well ls next)

  pub places_refused : PlacesRefused m
  unfolding RefusedWell
  places_refused rule room start used given r e = finish_well rule room start given (record { lists = untaken; used = used }) r e
