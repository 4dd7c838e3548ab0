-- The places that an account takes do not fall along a run, so what is free after it was free before. Assumes nothing.
use Rattle.std.proofs.Common.{◌≡◌, ℕ, ◌+◌, ◌-◌, ◌≤◌, List, ◌++◌, length, drop, Some, None, Option, sym, refl, ap, ◌∙◌, arith, length-append}
use Rattle.std.proofs.lemmas.List.{drop-drop}
use Rattle.account.specs.Given.{Given, lists}
use Rattle.account.specs.Finish.{places}
use Rattle.account.specs.Account.{Finished, Account, added_kept, added_count}
use Rattle.account.specs.Refusals.{finished_places, used_terms, used_entries}
use Rattle.account.proofs.Places.{given_places}
use Rattle.account.proofs.Extends.{Extends}
use Rattle.tables.specs.Held.{Held}
use Rattle.calls.specs.Standing.{FreeStays}

-- what agrees from place n on agrees from each later one on
drop_on : {X : Type 0} (n k : ℕ) (xs ys : List X) → n ≤ k → drop n xs ≡ drop n ys → drop k xs ≡ drop k ys
drop_on n k xs ys le e =
    let is : n + (k - n) ≡ k = omega arith in
    ap (λ j. drop j xs) (sym is) ∙ sym (drop-drop (k - n) n xs) ∙ ap (drop (k - n)) e ∙ drop-drop (k - n) n ys ∙ ap (λ j. drop j ys) is

module _ {V : Type 0} where
  -- the places that an account takes are among those of another
  pub record Grown (x y : Account V) : Type 0 where
    pub terms : used_terms x ≤ used_terms y
    pub entries : used_entries x ≤ used_entries y
    pub instances : length x.instances.kept ≤ length y.instances.kept
    pub witnesses : length (x.witnesses.kept ++ added_kept x.finished) ≤ length (y.witnesses.kept ++ added_kept y.finished)

  -- what finalising made takes places, and stays
  more_finished : (o p : Option (Finished V)) → ((done : Finished V) → o ≡ Some done → p ≡ Some done)
      → (finished_places o ≤ finished_places p) × (added_count o ≤ added_count p) × (length (added_kept o) ≤ length (added_kept p))
  more_finished None p h = (omega arith, omega arith, omega arith)
  more_finished (Some done) p h =
      let e = h done refl in
      (omega (arith, ap finished_places e), omega (arith, ap added_count e), omega (arith, ap (λ o. length (added_kept o)) e))

  pub grown : (x y : Account V) → Extends x y → Grown x y
  grown x y h =
      let done = more_finished x.finished y.finished h.finished in
      let given = h.given in
      let instances = h.instances in
      let witnesses = h.witnesses in
      record {
        terms = omega (arith, done.0, ap (λ (gs : List (Given V)). places (lists gs)) given.1, given_places x.given given.0);
        entries = omega (arith, done.1, ap length given.1, length-append x.given given.0);
        instances = omega (arith, ap length instances.1, length-append x.instances.kept instances.0);
        witnesses = omega (
          arith,
          done.2,
          ap length witnesses.1,
          length-append x.witnesses.kept witnesses.0,
          length-append x.witnesses.kept (added_kept x.finished),
          length-append y.witnesses.kept (added_kept y.finished),
        );
      }

  -- what was free stayed, and what is free then stays
  pub free_on : (x y : Account V) (a b c : Held V) → Grown x y → FreeStays x a b → FreeStays y b c → FreeStays y a c
  free_on x y a b c g r s =
      let x_kept = length (x.witnesses.kept ++ added_kept x.finished) in
      let y_kept = length (y.witnesses.kept ++ added_kept y.finished) in
      record {
        terms = s.terms ∙ drop_on (used_terms x) (used_terms y) b.terms a.terms g.terms r.terms;
        index = s.index ∙ drop_on (used_entries x) (used_entries y) b.index a.index g.entries r.index;
        instances = s.instances ∙ drop_on (length x.instances.kept) (length y.instances.kept) b.instances a.instances g.instances r.instances;
        witnesses = s.witnesses ∙ drop_on x_kept y_kept b.witnesses a.witnesses g.witnesses r.witnesses;
      }
