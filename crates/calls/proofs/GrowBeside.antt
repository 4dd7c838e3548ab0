-- What lies beside the tables after some calls and then more is what lies there after all of them. Assumes nothing.
use Rattle.std.proofs.Common.{◌≡◌, ℕ, ◌≤◌, Bool, true, false, cond, ◌||◌, List, [], ◌∷◌, ◌++◌, length, Some, None, Ok, Err, Option, Result, sym, refl, ap, ◌∙◌, ap₂, append_assoc, arith, length-append}
use lib.ListN.{length-map}
use Rattle.std.specs.List.{AllByRecursion}
use Rattle.std.proofs.ByRecursion.{All-append, All-weaker}
use Rattle.std.proofs.lemmas.Bool.{cond_both}
use Rattle.std.proofs.lemmas.Slice.{drop-append-drop}
use Rattle.std.proofs.lemmas.List.Sums.{fold-append}
use Rattle.field.specs.Laws.{Model}
use Rattle.variables.specs.Refusals.{Told}
use Rattle.account.specs.Given.{Given, lists}
use Rattle.account.specs.Evaluate.{filled}
use Rattle.account.specs.Rows.{last_of, Matrices}
use Rattle.account.specs.Account.{Finished, Account}
use Rattle.account.specs.Calls.{Answer, Event, effect_of, if_accepted, after, after_all}
use Rattle.account.specs.Run.{Run}
use Rattle.account.proofs.Finds.{filled_long}
use Rattle.account.proofs.Extends.{run_extends}
use Rattle.matrices.specs.Writing.{Lent, over, with_matrices}
use Rattle.calls.specs.Standing.{any, writing_in, accepted_writings, fills, filling, fillings}

module _ {X : Type 0} where
  -- what is written over a list is written over another that is no longer
  over_over : (w f g : List X) → length f ≤ length g → over (over w f) g ≡ over w g
  over_over w f g le = ap (λ l. g ++ l) (drop-append-drop (length f) w f (length g) le refl)

  -- of some lists that are no shorter the last is written over it
  over_last : (w f : List X) (fs : List (List X)) → AllByRecursion (λ g. length f ≤ length g) fs
      → over (over w f) (last_of [] fs) ≡ over w (last_of f fs)
  over_last w f [] h = refl
  over_last w f (g ∷ []) h = over_over w f g h.0
  over_last w f (g ∷ g' ∷ fs) h = over_last w f (g' ∷ fs) h.1

  -- the last of some lists of one length is no longer
  last_short : (n : ℕ) (f : List X) (fs : List (List X)) → length f ≤ n → AllByRecursion (λ g. length g ≡ n) fs → length (last_of f fs) ≤ n
  last_short n f [] le h = le
  last_short n f (g ∷ fs) le h = last_short n g fs (omega (arith, h.0)) h.1

  -- the last of some and then more, and whether there are any
  last_append : (f : List X) (fs gs : List (List X)) → last_of f (fs ++ gs) ≡ last_of (last_of f fs) gs
  last_append f fs gs = fold-append (λ old new. new) f fs gs

  pub any_append : (xs ys : List X) → any (xs ++ ys) ≡ (any xs || any ys)
  any_append [] ys = refl
  any_append (x ∷ xs) ys = refl

module _ {V : Type 0} where
  -- matrices are written over themselves
  written_again : (o : Option (Matrices V)) (t : Lent V) → with_matrices o (with_matrices o t) ≡ with_matrices o t
  written_again None t = refl
  written_again (Some w) t =
      ap₂ (λ cells ends. record { cells = cells; ends = ends }) (over_over t.cells _ _ (omega arith)) (over_over t.ends w.ends w.ends (omega arith))

  -- what was written and is written again, where it is the same
  pub with_again : (a b : Bool) (p q : Option (Matrices V)) (t : Lent V) → (a ≡ true → p ≡ q)
      → with_matrices (cond b q None) (with_matrices (cond a p None) t) ≡ with_matrices (cond (a || b) q None) t
  with_again false b p q t h = refl
  with_again true false p q t h = ap (λ o. with_matrices o t) (h refl)
  with_again true true p q t h = ap (λ o. with_matrices q (with_matrices o t)) (h refl) ∙ written_again q t

  -- the accepted writings of a log and then more
  pub writings_append : (log more : List (Event V)) → accepted_writings (log ++ more) ≡ accepted_writings log ++ accepted_writings more
  writings_append [] more = refl
  writings_append (e ∷ log) more =
      let here = if_accepted e.answer (writing_in (effect_of e.call)) in
      ap (λ l. here ++ l) (writings_append log more) ∙ sym (append_assoc here (accepted_writings log) (accepted_writings more))

  all_accepted : {X : Type 0} (P : X → Type 0) (answer : Result (Answer V) Told) (xs : List X) → AllByRecursion P xs
      → AllByRecursion P (if_accepted answer xs)
  all_accepted P (Ok a) xs h = h
  all_accepted P (Err r) xs h = tt

  module _ (m : Model V) where
    -- a call fills the work table with a value for each list
    filling_long : (o : Option (Finished V)) (x : Account V) (e : Event V) → AllByRecursion (λ g. length g ≡ length x.given) (filling m o x e)
    filling_long None x e =
        let Long : List (Option V) → Type 0 = λ g. length g ≡ length x.given in
        let fill = filled m x.instances.kept x.witnesses.kept (lists x.given) in
        let long : Long fill
        = omega (arith, filled_long m x.instances.kept x.witnesses.kept [] (lists x.given), length-map x.given (λ (g : Given V). g.terms)) in
        all_accepted Long e.answer _ (cond_both (fills m x e.call) (fill ∷ []) [] (AllByRecursion Long) (λ _. (long, tt)) (λ _. tt))
    filling_long (Some done) x e = tt

    -- no call of a run takes a list away
    given_grows : (x : Account V) (e : Event V) (es : List (Event V)) → Run m x (e ∷ es) → length x.given ≤ length (after m x e).given
    given_grows x e es run =
        let more = (run_extends m (e ∷ []) x (run.0, tt)).given in
        omega (arith, ap length more.1, length-append x.given more.0)

    -- so the fillings of a run are no shorter than the lists at its start, and no longer than those at its end
    fillings_long : (n : ℕ) (log : List (Event V)) (x : Account V) → Run m x log → n ≤ length x.given
        → AllByRecursion (λ g. n ≤ length g) (fillings m x log)
    fillings_long n [] x run le = tt
    fillings_long n (e ∷ es) x run le =
        let here = filling m x.finished x e in
        All-append (λ g. n ≤ length g) here (fillings m (after m x e) es)
        (All-weaker (λ g. length g ≡ length x.given) (λ g. n ≤ length g) (λ g (h : length g ≡ length x.given). omega arith) here
        (filling_long x.finished x e))
        (fillings_long n es (after m x e) run.1 (omega (arith, given_grows x e es run)))

    last_within : (f : List (Option V)) (log : List (Event V)) (x : Account V) → Run m x log → length f ≤ length x.given
        → length (last_of f (fillings m x log)) ≤ length (after_all m x log).given
    last_within f [] x run le = le
    last_within f (e ∷ es) x run le =
        let here = filling m x.finished x e in
        let rest = fillings m (after m x e) es in
        let short = last_short (length x.given) f here le (filling_long x.finished x e) in
        let next = last_within (last_of f here) es (after m x e) run.1 (omega (arith, given_grows x e es run)) in
        omega (arith, ap length (last_append f here rest))

    -- the fillings of a log and then more
    fillings_append : (log more : List (Event V)) (x : Account V)
        → fillings m x (log ++ more) ≡ fillings m x log ++ fillings m (after_all m x log) more
    fillings_append [] more x = refl
    fillings_append (e ∷ log) more x =
        let here = filling m x.finished x e in
        ap (λ l. here ++ l) (fillings_append log more (after m x e)) ∙ sym (append_assoc here (fillings m (after m x e) log) _)

    -- the work table after two logs
    pub work_on : (w : List (Option V)) (log more : List (Event V)) (x : Account V) → Run m x log → Run m (after_all m x log) more
        → over (over w (last_of [] (fillings m x log))) (last_of [] (fillings m (after_all m x log) more))
        ≡ over w (last_of [] (fillings m x (log ++ more)))
    work_on w log more x run run' =
        let fs = fillings m x log in
        let y = after_all m x log in
        let gs = fillings m y more in
        over_last w (last_of [] fs) gs (fillings_long (length (last_of [] fs)) more y run' (last_within [] log x run (omega arith)))
        ∙ ap (over w) (sym (ap (last_of []) (fillings_append log more x) ∙ last_append [] fs gs))
