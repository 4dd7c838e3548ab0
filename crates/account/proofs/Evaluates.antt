-- What is worked out at kept values stands for what is meant. Assumes nothing.
use Rattle.std.proofs.Common.{◌≡◌, ℕ, zero, suc, ◌+◌, ◌<◌, List, [], ◌∷◌, ◌++◌, map, length, get_or, Some, None, sym, refl, ap, ◌∙◌, subst, append_assoc, append-nil, add-zero as nat_add_zero, arith, length-append}
use mathlib.Core.List.{map-append}
use lib.ListN.{length-map}
use Rattle.std.specs.List.{AllByRecursion}
use Rattle.std.proofs.lemmas.List.{get_or_at, length_push, map_push}
use Rattle.std.proofs.ByRecursion.{All-weaker}
use Rattle.std.specs.Option.{option_to_list}
use Rattle.field.specs.Laws.{Model, Keeps}
use Rattle.variables.specs.declared.Variable.{Variable}
use Rattle.variables.specs.declared.Variable.TheVariants.{Zero, One, Instance, Witness, SymbolicLc}
use Rattle.variables.specs.declared.Term.{Term}
use Rattle.variables.specs.Worth.{value, worth}
use Rattle.variables.specs.Evaluate.{SymbolFree, read, evaluated}
use Rattle.variables.specs.Laws.{Means}
use Rattle.variables.proofs.Evaluates.{evaluated_means, read_means as kept_means, evaluates}
use Rattle.account.specs.declared.Mark.{Mark}
use Rattle.account.specs.Given.{Given, lists, KnownVariable, KnownAfter}
use Rattle.account.specs.Worths.{worths_after}
use Rattle.account.specs.Finish.{Outlined, finish}
use Rattle.account.specs.Evaluate.{filled_after, added_after, added_values}
use Rattle.account.specs.Laws.{WorkStands, AddedStand}
use Rattle.account.proofs.Counts.{Only, Numbered, finish_numbered, finish_early, lists_counted}
use Rattle.account.proofs.Finishes.{worth_original}
use Rattle.account.proofs.Finalises.{stood_from_rows}

module _ {V : Type 0} {m : Model V} (keeps : Keeps m) where
  open m.ring use {Member}

  abbrev none : Member
  none = m.ring.zero

  get_or_means : (xs : List V) (i : ℕ) → i < length xs → Means m (get_or (map Some xs) i None) (get_or (map m.stands xs) i none)
  get_or_means [] i h = absurd (omega arith)
  get_or_means (x ∷ xs) zero h = (x, refl, refl)
  get_or_means (x ∷ xs) (suc i) h = get_or_means xs i (omega arith)

  module _ (instances witnesses : List V) where
    abbrev n : ℕ
    n = length instances

    abbrev w : ℕ
    w = length witnesses

    abbrev original : List Member
    original = map m.stands (instances ++ witnesses)

    -- where the work table has values for the lists before
    pub read_means : (vs : List V) (before : List Mark) → length before ≡ length vs → (v : Variable) → KnownVariable n w before v
        → Means m (read m instances witnesses (map Some vs) v) (value m n original (map m.stands vs) v)
    read_means vs before e Zero k = kept_means keeps instances witnesses [] [] Zero k
    read_means vs before e One k = kept_means keeps instances witnesses [] [] One k
    read_means vs before e (Instance i) k = kept_means keeps instances witnesses [] [] (Instance i) k
    read_means vs before e (Witness i) k = kept_means keeps instances witnesses [] [] (Witness i) k
    read_means vs before e (SymbolicLc j) k = get_or_means vs j.0 (omega (arith, k.0))

    filled_means : (given : List (Given V)) (vs : List V) (before : List Mark) → length before ≡ length vs → KnownAfter n w before given
        → (us : List V) × (filled_after m instances witnesses (map Some vs) (lists given) ≡ map Some us)
        × (map m.stands us ≡ worths_after m n original (map m.stands vs) (lists given))
    filled_means [] vs before e k = (vs, refl, refl)
    filled_means (g ∷ gs) vs before e k =
        let at = read m instances witnesses (map Some vs) in
        let meant = value m n original (map m.stands vs) in
        let got = evaluated_means keeps at meant g.terms (All-weaker _ _ (λ t h. read_means vs before e t.variable h) g.terms k.0) in
        let v = got.0 in
        let rest = filled_means gs (vs ++ v ∷ []) (before ++ g.mark ∷ []) (length_push before g.mark ∙ ap (λ j. j + 1) e ∙ sym (length_push vs v)) k.1 in
        let table : map Some vs ++ evaluated m at g.terms ∷ [] ≡ map Some (vs ++ v ∷ [])
        = ap (λ o. map Some vs ++ o ∷ []) got.1 ∙ sym (map_push Some vs v) in
        let ends : map m.stands (vs ++ v ∷ []) ≡ map m.stands vs ++ worth m meant g.terms ∷ []
        = map_push m.stands vs v ∙ ap (λ a. map m.stands vs ++ a ∷ []) got.2 in (
          rest.0,
          ap (λ t. filled_after m instances witnesses t (lists gs)) table ∙ rest.1,
          rest.2 ∙ ap (λ t. worths_after m n original t (lists gs)) ends,
        )

    original_long : length original ≡ n + w
    original_long = length-map (instances ++ witnesses) m.stands ∙ length-append instances witnesses

    -- the values so far, as a vector
    so_far : (added : List V) → map m.stands (instances ++ (witnesses ++ added)) ≡ original ++ map m.stands added
    so_far added = ap (map m.stands) (sym (append_assoc instances witnesses added)) ∙ map-append m.stands (instances ++ witnesses) added

    pub merged_means : (added : List V) (ts : List (Term V)) → Only (SymbolFree n (w + length added)) ts
        → Means m (evaluated m (read m instances (witnesses ++ added) []) ts) (worth m (value m n (original ++ map m.stands added) []) ts)
    merged_means added ts h =
        subst (λ z. Means m (evaluated m (read m instances (witnesses ++ added) []) ts) (worth m (value m n z []) ts)) (so_far added)
        ((evaluates keeps).kept instances (witnesses ++ added) ts (subst (λ k. Only (SymbolFree n k) ts) (sym (length-append witnesses added)) h))

    -- each added witness has a value, and it is that of its merged list
    record Follows (os : List (Outlined V)) (added end : List V) : Type 0 where
      rest : List V
      splits : end ≡ added ++ rest
      long : length rest ≡ length os
      meets : AllByRecursion (λ o. worth m (value m n (original ++ map m.stands end) []) o.merged ≡ get_or (original ++ map m.stands end) (n + o.witness) none) os

    follows : (os : List (Outlined V)) (added : List V) → Numbered (w + length added) os → AllByRecursion (λ o. Only (SymbolFree n o.witness) o.merged) os
        → Follows os added (added_after m instances witnesses added os)
    follows [] added numbered early = record { rest = []; splits = sym (append-nil added); long = refl; meets = tt }
    follows (o ∷ os) added numbered early =
        let here : Only (SymbolFree n (w + length added)) o.merged = subst (λ k. Only (SymbolFree n k) o.merged) numbered.0 early.0 in
        let got = merged_means added o.merged here in
        let v = got.0 in
        let p = original ++ map m.stands added in
        let count : w + length (added ++ v ∷ []) ≡ suc (w + length added) = omega (arith, length_push added v) in
        let next = follows os (added ++ v ∷ []) (subst (λ k. Numbered k os) (sym count) numbered.1) early.1 in
        let us = next.rest in
        let step : added_after m instances witnesses added (o ∷ os) ≡ added_after m instances witnesses (added ++ v ∷ []) os
        = ap (λ x. added_after m instances witnesses (added ++ option_to_list x) os) got.1 in
        let end = added_after m instances witnesses (added ++ v ∷ []) os in
        let split : end ≡ added ++ v ∷ us = next.splits ∙ append_assoc added (v ∷ []) us in
        let whole : original ++ map m.stands end ≡ p ++ m.stands v ∷ map m.stands us
        = ap (λ l. original ++ map m.stands l) split ∙ ap (λ l. original ++ l) (map-append m.stands added (v ∷ us)) ∙ sym (append_assoc original (map m.stands added) _) in
        let before : length p ≡ n + (w + length added) = omega (arith, length-append original (map m.stands added), length-map added m.stands, original_long) in
        let left : worth m (value m n (original ++ map m.stands end) []) o.merged ≡ m.stands v
        = ap (λ z. worth m (value m n z []) o.merged) whole ∙ worth_original keeps n (w + length added) p _ before o.merged here ∙ sym got.2 in
        let right : get_or (original ++ map m.stands end) (n + o.witness) none ≡ m.stands v
        = ap (λ z. get_or z (n + o.witness) none) whole ∙ get_or_at p (m.stands v) (map m.stands us) none (n + o.witness) (omega (arith, numbered.0, before)) in
        subst (Follows (o ∷ os) added) (sym step)
        (record { rest = v ∷ us; splits = split; long = ap suc next.long; meets = (left ∙ sym right, next.meets) })

  pub work_stands : WorkStands m
  work_stands instances witnesses given known = filled_means instances witnesses given [] [] refl known.terms

  pub added_stand : AddedStand m
  added_stand rule instances witnesses given known =
      let n = length instances in
      let w = length witnesses in
      let os = (finish m rule w (lists given)).outlined in
      let numbered = subst (λ k. Numbered k os) (sym (nat_add_zero w)) (finish_numbered m rule w (lists given)) in
      let f = follows instances witnesses os [] numbered (finish_early m rule w n (lists given) (lists_counted n w [] given known.terms)).1 in
      let end = added_values m instances witnesses os in
      let long : length (map m.stands end) ≡ length os = length-map end m.stands ∙ ap length f.splits ∙ f.long in
      stood_from_rows keeps rule n w given known (map m.stands (instances ++ witnesses)) (map m.stands end) (original_long instances witnesses) long f.meets
