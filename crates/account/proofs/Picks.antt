-- What a rule picks is outlined and nothing else; and finished lists rise. Assumes nothing.
use Rattle.std.proofs.Common.{◌≡◌, ℕ, suc, ◌+◌, ◌*◌, ◌<◌, ◌≤◌, true, false, List, [], ◌∷◌, ◌++◌, map, length, get_or, sym, refl, ap, ◌∙◌, subst, ap₂, ⊎_elim, append_assoc, arith, length-append}
use lib.ListN.{length-map, get_or-map}
use Rattle.std.specs.List.{AllByRecursion, AllPairs, Contains}
use Rattle.std.proofs.lemmas.List.{length_push, map_push, get_or_at, get_or_push, get_or_append_left, take-append-le}
use Rattle.std.proofs.Math.Nat.{eq-or-lt_of_le}
use Rattle.std.proofs.Math.Seq.{take-length}
use Rattle.std.proofs.lemmas.List.Elements.{All-from_recursion, Contains-append_left, Contains-push}
use Rattle.std.proofs.lemmas.List.Quantifiers.{all_pairs_push}
use Rattle.std.proofs.ByRecursion.{All-append, All-push, All-weaker, All-map}
use Rattle.std.proofs.lemmas.Bool.{cond_both}
use Rattle.field.specs.Laws.{Model}
use Rattle.variables.specs.declared.Variable.TheVariants.{One, Witness}
use Rattle.variables.specs.declared.Term.{Term}
use Rattle.variables.specs.Order.{Rises}
use Rattle.variables.proofs.Compacts.{compactify_rises}
use Rattle.account.specs.Given.{Given, lists}
use Rattle.account.specs.Finish.{Rule, Outlined, Finishing, untaken, expanded, inlined, single, taken, finish_after, finish}
use Rattle.account.specs.Rows.{row_at, row_lists, added_row, finished_lists}
use Rattle.account.specs.Laws.{merged_at, OutlinedBy, Outlines, FinishedRise}
use Rattle.account.proofs.Indexes.{row_there}
use Rattle.account.proofs.Counts.{Numbered, finish_numbered, finish_long}

-- the added witness of place j has number w + j
numbered_at : {V : Type 0} (w : ℕ) (os : List (Outlined V)) → Numbered w os → (j : ℕ) (d : Outlined V) → j < length os → (get_or os j d).witness ≡ w + j
numbered_at w [] h j d lt = absurd (omega arith)
numbered_at w (o ∷ os) h ℕ.zero d lt = omega (arith, h.0)
numbered_at w (o ∷ os) h (suc j) d lt = omega (arith, numbered_at (suc w) os h.1 j d (omega arith))

module _ {V : Type 0} (m : Model V) (rule : Rule V) (w : ℕ) where
  module _ (given : List (Given V)) where
    abbrev entries : Finishing V → List ℕ
    entries s = map (λ o. o.entry) s.outlined

    -- what finished lists are to have of an outlined entry, and of any other
    abbrev Picked : List (List (Term V)) → Outlined V → Type 0
    Picked fs o =
        (o.entry < length fs) × (rule o.entry o.merged ≡ true) × (o.merged ≡ merged_at m given fs o.entry) × (get_or fs o.entry [] ≡ single m (Witness o.witness))

    abbrev NotPicked : List (List (Term V)) → ℕ → Type 0
    NotPicked fs k = (rule k (merged_at m given fs k) ≡ false) × (get_or fs k [] ≡ merged_at m given fs k)

    -- finished lists that come after change nothing
    merged_more : (fs more : List (List (Term V))) (k : ℕ) → k ≤ length fs → merged_at m given (fs ++ more) k ≡ merged_at m given fs k
    merged_more fs more k le = ap (λ x. inlined m x (get_or (lists given) k [])) (take-append-le k fs more le)

    picked_more : (fs more : List (List (Term V))) (o : Outlined V) → Picked fs o → Picked (fs ++ more) o
    picked_more fs more o h =
        (omega (arith, h.0, length-append fs more), h.1, h.2 ∙ sym (merged_more fs more o.entry (omega (arith, h.0))), get_or_append_left fs more [] o.entry h.0 ∙ h.3)

    not_picked_more : (fs more : List (List (Term V))) (k : ℕ) → k < length fs → NotPicked fs k → NotPicked (fs ++ more) k
    not_picked_more fs more k lt h =
        let same = sym (merged_more fs more k (omega arith)) in
        (subst (λ l. rule k l ≡ false) same h.0, get_or_append_left fs more [] k lt ∙ h.1 ∙ same)

    -- what holds at each stage
    record Parted (s : Finishing V) : Type 0 where
      rising : AllPairs (λ i j. i < j) (entries s)
      picked : AllByRecursion (Picked s.finished) s.outlined
      not_picked : (k : ℕ) → k < length s.finished → (Contains (entries s) k → ⊥) → NotPicked s.finished k

    -- one entry more
    module _ (s : Finishing V) (merged : List (Term V)) (is : merged ≡ merged_at m given s.finished (length s.finished)) (h : Parted s) where
      abbrev entry : ℕ
      entry = length s.finished

      abbrev added : Outlined V
      added = record { entry = entry; witness = w + length s.outlined; merged = merged }

      picked_still : (l : List (Term V)) → AllByRecursion (Picked (s.finished ++ l ∷ [])) s.outlined
      picked_still l = All-weaker _ _ (λ o p. picked_more s.finished (l ∷ []) o p) s.outlined h.picked

      merged_still : (l : List (Term V)) → merged ≡ merged_at m given (s.finished ++ l ∷ []) entry
      merged_still l = is ∙ sym (merged_more s.finished (l ∷ []) entry (omega arith))

      entries_before : (k d : ℕ) → k < length (entries s) → get_or (entries s) k d < entry
      entries_before k d lt =
          let below = All-map (λ e. e < entry) (λ o. o.entry) s.outlined (All-weaker _ _ (λ o p. p.0) s.outlined h.picked) in
          All-from_recursion (λ e. e < entry) (entries s) below k d lt

      parted_picked : rule entry merged ≡ true
          → Parted (record { finished = s.finished ++ single m (Witness added.witness) ∷ []; outlined = s.outlined ++ added ∷ [] })
      parted_picked picks =
          let l = single m (Witness added.witness) in
          let pushed : map (λ (o : Outlined V). o.entry) (s.outlined ++ added ∷ []) ≡ entries s ++ entry ∷ []
          = map_push (λ (o : Outlined V). o.entry) s.outlined added in
          record {
            rising = subst (AllPairs (λ i j. i < j)) (sym pushed) (all_pairs_push (λ i j. i < j) (entries s) entry h.rising entries_before);
            picked = All-push (Picked (s.finished ++ l ∷ [])) s.outlined added (picked_still l)
                (omega (arith, length_push s.finished l), picks, merged_still l, get_or_push s.finished l [] entry refl);
            not_picked = λ k lt out.
                let apart : Contains (entries s ++ entry ∷ []) k → ⊥ = λ c. out (subst (λ es. Contains es k) (sym pushed) c) in
                ⊎_elim
                (λ (last : k ≡ entry). absurd (apart (subst (Contains (entries s ++ entry ∷ [])) (sym last) (Contains-push (entries s) entry))))
                (λ (before : k < entry). not_picked_more s.finished (l ∷ []) k before (h.not_picked k before (λ c. apart (Contains-append_left (entries s) (entry ∷ []) k c))))
                (eq-or-lt_of_le (omega (arith, length_push s.finished l)));
          }

      parted_not_picked : rule entry merged ≡ false → Parted (record { finished = s.finished ++ merged ∷ []; outlined = s.outlined })
      parted_not_picked leaves =
          let last_not_picked : NotPicked (s.finished ++ merged ∷ []) entry
          = (subst (λ l. rule entry l ≡ false) (merged_still merged) leaves, get_or_push s.finished merged [] entry refl ∙ merged_still merged) in
          record {
            rising = h.rising;
            picked = picked_still merged;
            not_picked = λ k lt out.
                ⊎_elim
                (λ (last : k ≡ entry). subst (NotPicked (s.finished ++ merged ∷ [])) (sym last) last_not_picked)
                (λ (before : k < entry). not_picked_more s.finished (merged ∷ []) k before (h.not_picked k before out))
                (eq-or-lt_of_le (omega (arith, length_push s.finished merged)));
          }

      taken_parted : Parted (taken m rule w s merged) × (length (taken m rule w s merged).finished ≡ entry + 1)
      taken_parted =
          cond_both (rule entry merged) _ _ (λ (s' : Finishing V). Parted s' × (length s'.finished ≡ entry + 1))
          (λ picks. (parted_picked picks, length_push s.finished _)) (λ leaves. (parted_not_picked leaves, length_push s.finished merged))

    parted_after : (past ls : List (List (Term V))) (s : Finishing V) → lists given ≡ past ++ ls → length past ≡ length s.finished → Parted s
        → Parted (finish_after m rule w s ls)
    parted_after past [] s all long h = h
    parted_after past (l ∷ ls) s all long h =
        let entry = length s.finished in
        let next : get_or (lists given) entry [] ≡ l = ap (λ x. get_or x entry []) all ∙ get_or_at past l ls [] entry long in
        let merged : inlined m s.finished l ≡ merged_at m given s.finished entry = sym (ap₂ (inlined m) (take-length s.finished) next) in
        let step = taken_parted s (inlined m s.finished l) merged h in
        parted_after (past ++ l ∷ []) ls (taken m rule w s (inlined m s.finished l)) (all ∙ sym (append_assoc past (l ∷ []) ls))
        (omega (arith, length_push past l, step.1)) step.0

    abbrev done : Finishing V
    done = finish m rule w (lists given)

    abbrev all : List (List (Term V))
    all = finished_lists m done

    finish_parted : Parted done
    finish_parted =
        parted_after [] (lists given) (untaken) refl refl
        (record { rising = λ i j d lt b. absurd (omega arith); picked = tt; not_picked = λ k lt. absurd (omega arith) })

    long : length done.finished ≡ length given
    long = finish_long m rule w (lists given) ∙ length-map given (λ (g : Given V). g.terms)

    -- what is promised of the outlined entry of place j, which is entry k
    PickedAt : ℕ → ℕ → Type 0
    PickedAt j k =
        (rule k (merged_at m given all k) ≡ true)
        × (get_or all k [] ≡ single m (Witness (w + j)))
        × (row_at [] all (length given + 3 * j) ≡ record { a = merged_at m given all k; b = single m One; c = single m (Witness (w + j)) })

    picked_at : (j : ℕ) → j < length (entries done) → PickedAt j (get_or (entries done) j 0)
    unfolding PickedAt
    picked_at j lt =
        let nothing : Outlined V = record { entry = 0; witness = 0; merged = [] } in
        let o = get_or done.outlined j nothing in
        let within : j < length done.outlined = omega (arith, length-map done.outlined (λ (o : Outlined V). o.entry)) in
        let here = All-from_recursion (Picked done.finished) done.outlined finish_parted.picked j nothing within in
        let rs = map (added_row m) done.outlined in
        let p = picked_more done.finished (row_lists rs) o here in
        let witness : o.witness ≡ w + j = numbered_at w done.outlined (finish_numbered m rule w (lists given)) j nothing within in
        let place : length given + 3 * j ≡ length done.finished + 3 * j = omega (arith, long) in
        let row : row_at [] all (length given + 3 * j) ≡ added_row m o
        = ap (row_at [] all) place ∙ row_there [] rs done.finished j (added_row m nothing) (omega (arith, length-map done.outlined (added_row m)))
        ∙ get_or-map (added_row m) done.outlined j nothing in
        subst (PickedAt j) (sym (get_or-map (λ (o : Outlined V). o.entry) done.outlined j nothing)) (
          subst (λ l. rule o.entry l ≡ true) p.2 p.1,
          p.3 ∙ ap (λ k. single m (Witness k)) witness,
          row ∙ ap₂ (λ a k. record { a = a; b = single m One; c = single m (Witness k) }) p.2 witness,
        )

    outlined_by : OutlinedBy m rule w given all (entries done)
    unfolding PickedAt
    outlined_by = record {
      rising = λ i j lt b. finish_parted.rising i j 0 lt b;
      picked = picked_at;
      not_picked = λ k lt out.
          let here = finish_parted.not_picked k (omega (arith, long)) out in
          not_picked_more done.finished (row_lists (map (added_row m) done.outlined)) k (omega (arith, long)) here;
    }

  -- finished lists rise
  AllRise : Finishing V → Type 0
  AllRise s = AllByRecursion Rises s.finished × AllByRecursion (λ o. Rises o.merged) s.outlined

  taken_rise : (s : Finishing V) (merged : List (Term V)) → Rises merged → AllRise s → AllRise (taken m rule w s merged)
  unfolding AllRise
  taken_rise s merged rises h =
      cond_both (rule (length s.finished) merged) _ _ (λ (s' : Finishing V). AllByRecursion Rises s'.finished × AllByRecursion (λ o. Rises o.merged) s'.outlined)
      (λ _. (All-push Rises s.finished _ h.0 tt, All-push (λ o. Rises o.merged) s.outlined _ h.1 rises)) (λ _. (All-push Rises s.finished merged h.0 rises, h.1))

  rise_after : (ls : List (List (Term V))) (s : Finishing V) → AllRise s → AllRise (finish_after m rule w s ls)
  rise_after [] s h = h
  rise_after (l ∷ ls) s h = rise_after ls _ (taken_rise s (inlined m s.finished l) (compactify_rises m (expanded m s.finished l)) h)

  rows_rise : (os : List (Outlined V)) → AllByRecursion (λ o. Rises o.merged) os → AllByRecursion Rises (row_lists (map (added_row m) os))
  rows_rise [] h = tt
  rows_rise (o ∷ os) h = (h.0, (tt, (tt, rows_rise os h.1)))

  lists_rise : (ls : List (List (Term V))) → AllByRecursion Rises (finished_lists m (finish m rule w ls))
  unfolding AllRise
  lists_rise ls =
      let done = finish m rule w ls in
      let h = rise_after ls (untaken) (tt, tt) in
      All-append Rises done.finished (row_lists (map (added_row m) done.outlined)) h.0 (rows_rise done.outlined h.1)

pub outlines : {V : Type 0} (m : Model V) → Outlines m
outlines m rule w given = outlined_by m rule w given

pub finished_rise : {V : Type 0} (m : Model V) → FinishedRise m
finished_rise m rule w ls = lists_rise m rule w ls
