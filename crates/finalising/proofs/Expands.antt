-- A list written out term by term into free places, and refused where it does not fit. Assumes nothing.
use Rattle.std.proofs.Common.{◌≡◌, ℕ, ◌+◌, ◌-◌, ◌<◌, ◌≤◌, Bool, cond, true, false, List, [], ◌∷◌, ◌++◌, length, get_or, take, drop, Ok, Err, Result, IfOk, ltb, sym, refl, ap, subst, ◌∙◌, arith, append_assoc, append-nil, flat_map, ltb-true, ltb-false, lt-ltb, length-append, length-drop, take-append-drop, drop-drop, take_at, drop_at}
use Rattle.std.proofs.lemmas.List.{take_more, take_rest}
use Rattle.std.proofs.lemmas.List.Concat.{flat_map-append}
use Rattle.std.proofs.lemmas.Bool.{cond-true, cond_both}
use Rattle.std.proofs.lemmas.Result.{IfOk-weaker}
use Rattle.std.proofs.Math.Seq.{take-append-add}
use borrow.Rule.Slice.PartMut.{put_mid}
use Rattle.terms.proofs.Places.{put_after}

-- what an answer by a test of places came to
ok_of : {E : Type 0} (b : Bool) (bad : E) (n due : ℕ) → Ok n ≡ cond b (Err bad) (Ok due) → (n ≡ due) × (b ≡ false)
ok_of true bad n due e = absurd cc
ok_of false bad n due e = ((cc), refl)

err_of : {E : Type 0} (b : Bool) (bad e : E) (due : ℕ) → Err e ≡ cond b (Err bad) (Ok due) → (e ≡ bad) × (b ≡ true)
err_of true bad e due is = ((cc), refl)
err_of false bad e due is = absurd cc

pub fitted : {E : Type 0} (bad : E) (places due n : ℕ) → Ok n ≡ cond (ltb places due) (Err bad) (Ok due) → (n ≡ due) × (due ≤ places)
fitted bad places due n e = let r = ok_of (ltb places due) bad n due e in (r.0, ltb-false places due r.1)

pub unfitted : {E : Type 0} (bad e : E) (places due : ℕ) → Err e ≡ cond (ltb places due) (Err bad) (Ok due) → (e ≡ bad) × (places < due)
unfitted bad e places due is = let r = err_of (ltb places due) bad e due is in (r.0, ltb-true places due r.1)

module _ {X A : Type 0} (f : X → List A) (list : List X) (start : List A) where
  -- so many items written out to so many places; what is behind is as it was
  pub record Written (i end : ℕ) (now : List A) : Type 0 where
    pub len : end ≡ length (flat_map f (take i list))
    pub places : now ≡ flat_map f (take i list) ++ drop end start
    pub fits : end ≤ length start

  -- one item more: what stands for it is written first in the places behind
  module _ {E : Type 0} (bad : E) (i end : ℕ) (now : List A) (t : X) (lt : i < length list) (at : t ≡ get_or list i t) (w : Written i end now) where
    abbrev front : List A
    front = flat_map f (take i list)

    abbrev behind : List A
    behind = take (length now - end) (drop end now)

    as_before : behind ≡ drop end start
    as_before = take_rest now end ∙ ap (drop end) w.places ∙ drop_at front (drop end start) end (sym w.len)

    free : length behind ≡ length start - end
    free = ap length as_before ∙ length-drop end start

    next : flat_map f (take (i + 1) list) ≡ front ++ f t
    next =
        ap (flat_map f) (take_more list i t lt ∙ ap (λ u. take i list ++ u ∷ []) (sym at)) ∙ flat_map-append f (take i list) (t ∷ [])
        ∙ ap (λ l. front ++ l) (append-nil (f t))

    next_long : length (flat_map f (take (i + 1) list)) ≡ end + length (f t)
    next_long = omega (arith, ap length next, length-append front (f t), w.len)

    pub written_more : (n : ℕ) (part : List A) → Ok n ≡ cond (ltb (length behind) (length (f t))) (Err bad) (Ok (length (f t)))
        → part ≡ f t ++ drop n behind → Written (i + 1) (end + n) (put_mid end (length now - end) now part)
    written_more n part answer wrote =
        let fit = fitted bad (length behind) (length (f t)) n answer in
        let rest = drop (end + n) start in
        let is : part ≡ f t ++ rest = wrote ∙ ap (λ l. f t ++ drop n l) as_before ∙ ap (λ l. f t ++ l) (drop-drop n end start) in
        let kept : take end now ≡ front = ap (take end) w.places ∙ take_at front (drop end start) end (sym w.len) in
        let long : length now ≡ length front + length (drop end start) = ap length w.places ∙ length-append front (drop end start) in
        record {
          len = omega (arith, next_long, fit.0);
          places =
              put_after now part end front (f t ++ rest) (omega (arith, long, w.len)) kept is
              ∙ sym (append_assoc front (f t) rest) ∙ ap (λ l. l ++ rest) (sym next);
          fits = omega (arith, fit.0, fit.1, free, w.fits);
        }

    -- where it does not fit, neither does the whole
    pub written_not : (e : E) (r : Result ℕ E) → Err e ≡ cond (ltb (length behind) (length (f t))) (Err bad) (Ok (length (f t))) → r ≡ Err e
        → r ≡ cond (ltb (length start) (length (flat_map f list))) (Err bad) (Ok (length (flat_map f list)))
    written_not e r answer is =
        let short = unfitted bad e (length behind) (length (f t)) answer in
        let all = length (flat_map f list) in
        let rest = flat_map f (drop (i + 1) list) in
        let whole : flat_map f list ≡ flat_map f (take (i + 1) list) ++ rest
        = ap (flat_map f) (sym (take-append-drop (i + 1) list)) ∙ flat_map-append f (take (i + 1) list) (drop (i + 1) list) in
        let long : all ≡ end + length (f t) + length rest
        = ap length whole ∙ length-append (flat_map f (take (i + 1) list)) rest ∙ ap (λ n. n + length rest) next_long in
        is ∙ ap Err short.0 ∙ sym (cond-true (ltb (length start) all) (Err bad) (Ok all) (lt-ltb _ _ (omega (arith, long, short.1, free, w.fits))))

-- what was merged behind the places in use, which stay
pub merged_behind : {A E : Type 0} (used : ℕ) (terms front new : List A) (merged : List A → List A) (r : Result ℕ E)
    → front ≡ take used terms → length front ≡ used → IfOk r (λ n. take n new ≡ merged front) → IfOk r (λ n. take (used + n) (front ++ new) ≡ take used terms ++ merged (take used terms))
merged_behind used terms front new merged r is long =
    IfOk-weaker r (λ n. take n new ≡ merged front) (λ n. take (used + n) (front ++ new) ≡ take used terms ++ merged (take used terms))
    (λ n e. ap (λ k. take (k + n) (front ++ new)) (sym long) ∙ take-append-add front new n ∙ ap (λ l. front ++ l) e ∙ ap (λ l. l ++ merged l) is)

-- a merged list is no longer than what was written out, which fits
pub merged_fits : {E : Type 0} (bad : E) (r : Result ℕ E) (used places all due n : ℕ) → r ≡ cond (ltb places due) (Err bad) (Ok n) → n ≤ due
    → used + places ≤ all → IfOk r (λ k. used + k ≤ all)
merged_fits bad r used places all due n is le fit =
    subst (λ z. IfOk z (λ k. used + k ≤ all)) (sym is)
    (cond_both (ltb places due) (Err bad) (Ok n) (λ z. IfOk z (λ k. used + k ≤ all)) (λ e. tt) (λ e. omega (arith, ltb-false places due e)))
