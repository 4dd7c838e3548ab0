-- Where finalising stops, and for want of what. Assumes nothing.
use Rattle.std.proofs.Common.{◌≡◌, ℕ, ◌+◌, ◌*◌, ◌<◌, ◌≤◌, Bool, true, ◌⊎◌, List, [], ◌∷◌, ◌++◌, length, Ok, Err, Result, sym, refl, ap, ◌∙◌, subst, inl, inr, ⊎_elim, arith}
use Rattle.std.proofs.lemmas.Bool.{cases_Bool, cond-true, cond-false, ltb-true, ltb-false, lt-ltb}
use Rattle.field.specs.Laws.{Model}
use Rattle.variables.specs.declared.Term.{Term}
use Rattle.variables.specs.Refusals.{Told, refused}
use Rattle.account.specs.Finish.{Rule, Finishing, Room, Start, Stage, untaken, places, lacks, unless, and_then, expanded, inlined, taken, finish, settled, step, finish_within}
use Rattle.account.specs.Rows.{finished_lists}
use Rattle.account.specs.Laws.{Lacks, written_out, two_terms, a_witness, three_entries, PlacesLacking}
use Rattle.account.proofs.Places.{err_ok, err_is, places_taken}
use Rattle.account.proofs.Suffices.{unless_enough, places_suffice}

module _ {X : Type 0} where
  abbrev Refused : Result X Told → ℕ → Type 0
  Refused r number = r ≡ refused number

  same_number : (i j : ℕ) → Refused (refused i) j → i ≡ j
  same_number i j e = ap (λ (t : Told). t.number) (err_is {X = X} _ _ e)

  not_refused : (x : X) (number : ℕ) → Refused (Ok x) number → ⊥
  not_refused x number e = err_ok {X = X} _ x (sym e)

  -- a step is refused where it lacks its places, or else where what comes after is
  unless_refused : (due room k number : ℕ) (r : Result X Told) → Refused (unless (lacks due room) k r) number → ((room < due) × (k ≡ number)) ⊎ ((due ≤ room) × Refused r number)
  unless_refused due room k number r e =
      ⊎_elim (λ picked. inl (ltb-true room due picked, same_number k number (sym (cond-true (lacks due room) (refused k) r picked) ∙ e)))
      (λ no. inr (ltb-false room due no, sym (cond-false (lacks due room) (refused k) r no) ∙ e)) (cases_Bool (lacks due room))

  unless_lacks : (due room k : ℕ) (r : Result X Told) → room < due → Refused (unless (lacks due room) k r) k
  unless_lacks due room k r lt = cond-true (lacks due room) (refused k) r (lt-ltb room due lt)

and_then_refused : {X Y : Type 0} (r : Result X Told) (next : X → Result Y Told) (number : ℕ) → Refused (and_then r next) number
    → Refused r number ⊎ ((x : X) × (r ≡ Ok x) × Refused (next x) number)
and_then_refused (Ok x) next number e = inr (x, refl, e)
and_then_refused {X} {Y} (Err f) next number e = inl (ap (λ t. Err t) (err_is {X = Y} f _ e))

module _ {V : Type 0} (m : Model V) (rule : Rule V) (room : Room) (start : Start) where
  abbrev Lists : Type 0
  Lists = List (List (Term V))

  abbrev within : Stage V → Lists → Result (Stage V) Told
  within s ls = finish_within m rule room start s ls

  -- one entry
  module _ (s : Stage V) (l : List (Term V)) where
    abbrev merged : List (Term V)
    merged = inlined m s.lists.finished l

    abbrev before : ℕ
    before = length s.lists.outlined

    abbrev written : ℕ
    written = s.used + length (expanded m s.lists.finished l)

    abbrev end : Stage V
    end = record { lists = taken m rule start.witnesses s.lists merged; used = s.used + length merged + 2 }

    abbrev third : Result (Stage V) Told
    third = unless (lacks (start.entries + 3 * before + 3) room.entries) 13 (Ok end)

    abbrev second : Result (Stage V) Told
    second = unless (lacks (start.witnesses + before + 1) room.witnesses) 12 third

    abbrev first : Result (Stage V) Told
    first = unless (lacks (s.used + length merged + 2) room.terms) 14 second

    abbrev kept : Stage V
    kept = record { lists = taken m rule start.witnesses s.lists merged; used = s.used + length merged }

    abbrev picks : Bool
    picks = rule (length s.lists.finished) merged

    abbrev LacksHere : ℕ → Type 0
    LacksHere number = Lacks m rule room start s.lists s.used l number

    outlined_lacks : (number : ℕ) → written ≤ room.terms → picks ≡ true → Refused first number → LacksHere number
    outlined_lacks number w picked e =
        ⊎_elim (λ (a : (room.terms < s.used + length merged + 2) × (14 ≡ number)). subst LacksHere a.1 (two_terms w picked a.0))
        (λ (b : (s.used + length merged + 2 ≤ room.terms) × Refused second number). ⊎_elim
        (λ (c : (room.witnesses < start.witnesses + before + 1) × (12 ≡ number)). subst LacksHere c.1 (a_witness w picked b.0 c.0))
        (λ (d : (start.witnesses + before + 1 ≤ room.witnesses) × Refused third number). ⊎_elim
        (λ (f : (room.entries < start.entries + 3 * before + 3) × (13 ≡ number)). subst LacksHere f.1 (three_entries w picked b.0 d.0 f.0))
        (λ (g : (start.entries + 3 * before + 3 ≤ room.entries) × Refused (Ok end) number). absurd (not_refused end number g.1))
        (unless_refused (start.entries + 3 * before + 3) room.entries 13 number (Ok end) d.1))
        (unless_refused (start.witnesses + before + 1) room.witnesses 12 number third b.1))
        (unless_refused (s.used + length merged + 2) room.terms 14 number second e)

    settled_lacks : (number : ℕ) → written ≤ room.terms → Refused (settled m rule room start s merged) number → LacksHere number
    settled_lacks number w e =
        ⊎_elim (λ picked. outlined_lacks number w picked (sym (cond-true picks first (Ok kept) picked) ∙ e))
        (λ no. absurd (not_refused kept number (sym (cond-false picks first (Ok kept) no) ∙ e))) (cases_Bool picks)

    step_lacks : (number : ℕ) → Refused (step m rule room start s l) number → LacksHere number
    step_lacks number e =
        ⊎_elim (λ (a : (room.terms < written) × (14 ≡ number)). subst LacksHere a.1 (written_out a.0))
        (λ (b : (written ≤ room.terms) × Refused (settled m rule room start s merged) number). settled_lacks number b.0 b.1)
        (unless_refused written room.terms 14 number (settled m rule room start s merged) e)

    outlined_step : (number : ℕ) → written ≤ room.terms → picks ≡ true → Refused first number → Refused (step m rule room start s l) number
    outlined_step number w picked e = unless_enough written room.terms 14 (settled m rule room start s merged) w ∙ cond-true picks first (Ok kept) picked ∙ e

    lacks_step : (number : ℕ) → LacksHere number → Refused (step m rule room start s l) number
    lacks_step number (written_out a) = unless_lacks written room.terms 14 (settled m rule room start s merged) a
    lacks_step number (two_terms w picked a) = outlined_step 14 w picked (unless_lacks (s.used + length merged + 2) room.terms 14 second a)
    lacks_step number (a_witness w picked t a) =
        outlined_step 12 w picked (unless_enough (s.used + length merged + 2) room.terms 14 second t ∙ unless_lacks (start.witnesses + before + 1) room.witnesses 12 third a)
    lacks_step number (three_entries w picked t i a) =
        outlined_step 13 w picked
        (unless_enough (s.used + length merged + 2) room.terms 14 second t ∙ unless_enough (start.witnesses + before + 1) room.witnesses 12 third i
        ∙ unless_lacks (start.entries + 3 * before + 3) room.entries 13 (Ok end) a)

  -- the first entry that is refused, in the stage that those before it left
  record Stop (s : Stage V) (ls : Lists) (number : ℕ) : Type 0 where
    past : Lists
    at : List (Term V)
    future : Lists
    splits : ls ≡ past ++ at ∷ future
    left : Stage V
    found : within s past ≡ Ok left
    stops : Refused (step m rule room start left at) number

  first_stop : (ls : Lists) (s : Stage V) (number : ℕ) → Refused (within s ls) number → Stop s ls number
  first_stop [] s number e = absurd (not_refused s number e)
  first_stop (l ∷ ls) s number e =
      ⊎_elim (λ (here : Refused (step m rule room start s l) number). record { past = []; at = l; future = ls; splits = refl; left = s; found = refl; stops = here })
      (λ (later : (next : Stage V) × (step m rule room start s l ≡ Ok next) × Refused (within next ls) number).
      let got = first_stop ls later.0 number later.2 in
      record {
        past = l ∷ got.past;
        at = got.at;
        future = got.future;
        splits = ap (λ r. l ∷ r) got.splits;
        left = got.left;
        found = ap (λ r. and_then r (λ next. within next got.past)) later.1 ∙ got.found;
        stops = got.stops;
      })
      (and_then_refused (step m rule room start s l) (λ next. within next ls) number e)

  and_then_twice : {X : Type 0} (r : Result X Told) (f g : X → Result X Told) → and_then (and_then r f) g ≡ and_then r (λ x. and_then (f x) g)
  and_then_twice (Ok x) f g = refl
  and_then_twice (Err e) f g = refl

  within_append : (past rest : Lists) (s : Stage V) → within s (past ++ rest) ≡ and_then (within s past) (λ left. within left rest)
  within_append [] rest s = refl
  within_append (l ∷ past) rest s =
      ap (λ (f : Stage V → Result (Stage V) Told). and_then (step m rule room start s l) f) (λ i next. within_append past rest next i)
      ∙ sym (and_then_twice (step m rule room start s l) (λ next. within next past) (λ left. within left rest))

pub places_lacking : {V : Type 0} (m : Model V) → PlacesLacking m
places_lacking {V} m rule room start used given number terms =
    let begin : Stage V = record { lists = untaken; used = used } in (
      λ e.
          let stop = first_stop m rule room start given begin number e in
          let end = stop.left in
          let taken = places_taken m rule room start used stop.past end stop.found in (
            stop.past,
            stop.at,
            stop.future,
            stop.splits,
            record {
              found = (places_suffice m rule room start used stop.past terms).0 (end, stop.found);
              in_use = end.used;
              counted = subst (λ (f : Finishing V). end.used + length f.outlined ≡ used + places (finished_lists m f)) taken.same taken.takes;
              lacks = subst (λ (f : Finishing V). Lacks m rule room start f end.used stop.at number) taken.same (step_lacks m rule room start end stop.at number stop.stops);
            },
          ),
      λ h.
          let past = h.0 in
          let l = h.1 in
          let future = h.2 in
          let stops = h.4 in
          let there = (places_suffice m rule room start used past terms).1 stops.found in
          let end = there.0 in
          let taken = places_taken m rule room start used past end there.1 in
          let f = finish m rule start.witnesses past in
          let counted : end.used + length f.outlined ≡ used + places (finished_lists m f)
          = subst (λ (f : Finishing V). end.used + length f.outlined ≡ used + places (finished_lists m f)) taken.same taken.takes in
          let same : stops.in_use ≡ end.used = omega (arith, stops.counted, counted) in
          let lacks : Lacks m rule room start end.lists end.used l number
          = subst (λ (f : Finishing V). Lacks m rule room start f end.used l number) (sym taken.same) (subst (λ (u : ℕ). Lacks m rule room start f u l number) same stops.lacks) in
          let go : Result (Stage V) Told → List (List (Term V)) → Result (Stage V) Told = λ r ls. and_then r (λ s. finish_within m rule room start s ls) in
          ap (λ ls. finish_within m rule room start begin ls) h.3 ∙ within_append m rule room start past (l ∷ future) begin ∙ ap (λ r. go r (l ∷ future)) there.1
          ∙ ap (λ r. go r future) (lacks_step m rule room start end l number lacks),
    )
