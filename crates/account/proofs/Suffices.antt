-- Which places suffice for finalising. Assumes nothing.
use Rattle.std.proofs.Common.{◌≡◌, ℕ, ◌+◌, ◌*◌, ◌<◌, ◌≤◌, Bool, true, false, cond, List, [], ◌∷◌, length, Ok, Result, sym, refl, ap, ◌∙◌, subst, ⊎_elim, arith}
use Rattle.std.proofs.lemmas.List.{length_push}
use Rattle.std.proofs.lemmas.Bool.{cases_Bool, cond_both, cond-true, cond-false, le-ltb, true≢false}
use Rattle.field.specs.Laws.{Model}
use Rattle.variables.specs.declared.Term.{Term}
use Rattle.variables.specs.Refusals.{Told, refused}
use Rattle.account.specs.Finish.{Rule, Finishing, Room, Start, Stage, untaken, lacks, unless, and_then, expanded, inlined, taken, finish_after, settled, step, finish_within, most_places}
use Rattle.account.specs.Laws.{PlacesSuffice}
use Rattle.account.proofs.Places.{ok_is, enough, and_then_ok, inlined_long, places_taken, places_found}

pub unless_enough : {X : Type 0} (due places k : ℕ) (r : Result X Told) → due ≤ places → unless (lacks due places) k r ≡ r
unless_enough due places k r h = cond-false (lacks due places) (refused k) r (le-ltb places due h)

module _ {V : Type 0} where
  -- the stage after an entry, outlined or not
  stage_by : (b : Bool) (x y : Result (Stage V) Told) (f : Finishing V) (used : ℕ) → (b ≡ true → x ≡ Ok (record { lists = f; used = used + 2 })) → y ≡ Ok (record { lists = f; used = used })
      → cond b x y ≡ Ok (record { lists = f; used = used + cond b 2 0 })
  stage_by true x y f used p q = p refl
  stage_by false x y f used p q = q ∙ ap (λ (i : ℕ). Ok (record { lists = f; used = i })) (omega arith)

  module _ (m : Model V) (rule : Rule V) (room : Room) (start : Start) where
    abbrev w : ℕ
    w = start.witnesses

    abbrev picks : Stage V → List (Term V) → Bool
    picks s l = rule (length s.lists.finished) (inlined m s.lists.finished l)

    -- the places in use after an entry
    abbrev used_after : Stage V → List (Term V) → ℕ
    used_after s l = s.used + length (inlined m s.lists.finished l) + cond (picks s l) 2 0

    abbrev stage_after : Stage V → List (Term V) → Stage V
    stage_after s l = record { lists = taken m rule w s.lists (inlined m s.lists.finished l); used = used_after s l }

    -- one witness more where it is outlined, and never fewer
    taken_one : (s : Finishing V) (merged : List (Term V)) → rule (length s.finished) merged ≡ true → length s.outlined + 1 ≤ length (taken m rule w s merged).outlined
    taken_one s merged =
        cond_both (rule (length s.finished) merged) _ _ (λ (t : Finishing V). rule (length s.finished) merged ≡ true → length s.outlined + 1 ≤ length t.outlined)
        (λ _ _. omega (arith, length_push s.outlined (record { entry = length s.finished; witness = w + length s.outlined; merged = merged })))
        (λ no yes. absurd (true≢false (sym yes ∙ no)))

    taken_more : (s : Finishing V) (merged : List (Term V)) → length s.outlined ≤ length (taken m rule w s merged).outlined
    taken_more s merged =
        cond_both (rule (length s.finished) merged) _ _ (λ (t : Finishing V). length s.outlined ≤ length t.outlined)
        (λ _. omega (arith, length_push s.outlined (record { entry = length s.finished; witness = w + length s.outlined; merged = merged })))
        (λ _. omega arith)

    finish_more : (ls : List (List (Term V))) (s : Finishing V) → length s.outlined ≤ length (finish_after m rule w s ls).outlined
    finish_more [] s = omega arith
    finish_more (l ∷ ls) s =
        let merged = inlined m s.finished l in
        omega (arith, taken_more s merged, finish_more ls (taken m rule w s merged))

    -- a step whose places are there
    step_found : (s : Stage V) (l : List (Term V)) → s.used + length (expanded m s.lists.finished l) ≤ room.terms → used_after s l ≤ room.terms
        → (picks s l ≡ true → w + length s.lists.outlined + 1 ≤ room.witnesses) → (picks s l ≡ true → start.entries + 3 * length s.lists.outlined + 3 ≤ room.entries)
        → step m rule room start s l ≡ Ok (stage_after s l)
    step_found s l written stays witnesses entries =
        let merged = inlined m s.lists.finished l in
        let before = length s.lists.outlined in
        let used = s.used + length merged in
        let next = taken m rule w s.lists merged in
        let third : Result (Stage V) Told = unless (lacks (start.entries + 3 * before + 3) room.entries) 13 (Ok (record { lists = next; used = used + 2 })) in
        let second = unless (lacks (w + before + 1) room.witnesses) 12 third in
        unless_enough (s.used + length (expanded m s.lists.finished l)) room.terms 14 (settled m rule room start s merged) written
        ∙ stage_by (picks s l) _ _ next used
        (λ yes.
        let two : ◌≡◌ {A = ℕ} (cond (picks s l) 2 0) 2 = cond-true (picks s l) 2 0 yes in
        unless_enough (used + 2) room.terms 14 second (omega (arith, two)) ∙ unless_enough (w + before + 1) room.witnesses 12 third (witnesses yes)
        ∙ unless_enough (start.entries + 3 * before + 3) room.entries 13 (Ok (record { lists = next; used = used + 2 })) (entries yes))
        refl

    suffices : (ls : List (List (Term V))) (s : Stage V) → most_places m rule w s.lists s.used ls ≤ room.terms
        → (0 < length (finish_after m rule w s.lists ls).outlined → w + length (finish_after m rule w s.lists ls).outlined ≤ room.witnesses)
        → (0 < length (finish_after m rule w s.lists ls).outlined → start.entries + 3 * length (finish_after m rule w s.lists ls).outlined ≤ room.entries)
        → (end : Stage V) × (finish_within m rule room start s ls ≡ Ok end)
    suffices [] s t i e = (s, refl)
    suffices (l ∷ ls) s t i e =
        let merged = inlined m s.lists.finished l in
        let next = taken m rule w s.lists merged in
        let later = finish_more ls next in
        let one : picks s l ≡ true → length s.lists.outlined + 1 ≤ length (finish_after m rule w next ls).outlined = λ yes. omega (arith, taken_one s.lists merged yes, later) in
        let found = step_found s l (omega arith) (omega arith) (λ yes. let k = one yes in omega (arith, i (omega arith))) (λ yes. let k = one yes in omega (arith, e (omega arith))) in
        let rest = suffices ls (stage_after s l) (omega arith) i e in
        (rest.0, ap (λ r. and_then r (λ t. finish_within m rule room start t ls)) found ∙ rest.1)

    -- what a step that is not refused leaves
    settled_is : (s end : Stage V) (l : List (Term V)) → s.used + length (inlined m s.lists.finished l) ≤ room.terms
        → settled m rule room start s (inlined m s.lists.finished l) ≡ Ok end → (stage_after s l ≡ end) × (used_after s l ≤ room.terms)
    settled_is s end l le e =
        let merged = inlined m s.lists.finished l in
        let before = length s.lists.outlined in
        let used = s.used + length merged in
        let next = taken m rule w s.lists merged in
        let b = picks s l in
        let third : Result (Stage V) Told = unless (lacks (start.entries + 3 * before + 3) room.entries) 13 (Ok (record { lists = next; used = used + 2 })) in
        let second = unless (lacks (w + before + 1) room.witnesses) 12 third in
        let first = unless (lacks (used + 2) room.terms) 14 second in
        let plain : Result (Stage V) Told = Ok (record { lists = next; used = used }) in
        let with : ℕ → Stage V = λ i. record { lists = next; used = i } in
        ⊎_elim
        (λ (yes : b ≡ true).
        let one = enough (used + 2) room.terms 14 second end (sym (cond-true b first plain yes) ∙ e) in
        let other = enough (w + before + 1) room.witnesses 12 third end one.1 in
        let last = enough (start.entries + 3 * before + 3) room.entries 13 (Ok (with (used + 2))) end other.1 in
        let more : ◌≡◌ {A = ℕ} (cond b 2 0) 2 = cond-true b 2 0 yes in
        (ap (λ i. with (used + i)) more ∙ ok_is (with (used + 2)) end last.1, omega (arith, more, one.0)))
        (λ (no : b ≡ false).
        let more : ◌≡◌ {A = ℕ} (cond b 2 0) 0 = cond-false b 2 0 no in
        (ap (λ i. with (used + i)) more ∙ ap with (omega arith) ∙ ok_is (with used) end (sym (cond-false b first plain no) ∙ e), omega (arith, more)))
        (cases_Bool b)

    needs : (ls : List (List (Term V))) (s end : Stage V) → s.used ≤ room.terms → finish_within m rule room start s ls ≡ Ok end → most_places m rule w s.lists s.used ls ≤ room.terms
    needs [] s end le e = le
    needs (l ∷ ls) s end le e =
        let merged = inlined m s.lists.finished l in
        let got = and_then_ok (step m rule room start s l) (λ t. finish_within m rule room start t ls) end e in
        let free = enough (s.used + length (expanded m s.lists.finished l)) room.terms 14 (settled m rule room start s merged) got.0 got.1 in
        let left = settled_is s got.0 l (omega (arith, inlined_long m s.lists.finished l, free.0)) free.1 in
        let rest = needs ls (stage_after s l) end left.1 (ap (λ t. finish_within m rule room start t ls) left.0 ∙ got.2) in
        omega (arith, free.0, left.1, rest)

pub places_suffice : {V : Type 0} (m : Model V) → PlacesSuffice m
places_suffice {V} m rule room start used given terms =
    let begin : Stage V = record { lists = untaken; used = used } in (
      λ found.
          let there = places_found m rule room start used given found.0 found.1 in
          let same = (places_taken m rule room start used given found.0 found.1).same in
          record {
            terms = needs m rule room start given begin found.0 terms found.1;
            witnesses = subst (λ (f : Finishing V). 0 < length f.outlined → start.witnesses + length f.outlined ≤ room.witnesses) same there.0;
            entries = subst (λ (f : Finishing V). 0 < length f.outlined → start.entries + 3 * length f.outlined ≤ room.entries) same there.1;
          },
      λ there. suffices m rule room start given begin there.terms there.witnesses there.entries,
    )
