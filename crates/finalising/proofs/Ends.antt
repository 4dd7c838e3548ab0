-- From the steps over the places that count to what finalising leaves. Assumes nothing.
use Rattle.std.proofs.Common.{◌≡◌, ℕ, ◌+◌, ◌*◌, ◌≤◌, Bool, true, false, cond, List, [], ◌∷◌, ◌++◌, map, length, take, drop, Ok, Err, Result, IfOk, OnErr, sym, refl, ap, ◌∙◌, ap₂, subst, arith, length-append}
use Rattle.std.specs.Option.{option_map}
use Rattle.std.specs.Result.{result_err}
use Rattle.std.proofs.lemmas.List.{take-take, length-take, take-append-drop, length_push}
use Rattle.field.specs.Laws.{Model, Keeps}
use Rattle.variables.specs.declared.Term.{Term}
use Rattle.variables.specs.declared.Refusal.{Refusal}
use Rattle.variables.specs.Refusals.{told}
use Rattle.account.specs.declared.SynthesisMode.{SynthesisMode}
use Rattle.account.specs.declared.SynthesisMode.TheVariants.{Setup, Prove}
use Rattle.account.specs.Given.{lists}
use Rattle.account.specs.Finish.{Rule, Outlined, Finishing, untaken, inlined, taken, finish_after}
use Rattle.account.specs.Account.{KeepsValues, rule_of, made_in}
use Rattle.account.specs.Refusals.{limit}
use Rattle.tables.specs.declared.Counts.{Counts}
use Rattle.tables.specs.declared.Entry.{Entry}
use Rattle.tables.specs.Held.{State, counted}
use Rattle.tables.specs.Sound.{given_in, kept_witnesses, entries_of, account_of, sound, SoundTables}
use Rattle.tables.specs.Calls.{keeps_matrices}
use Rattle.tables.proofs.Puts.{counted_long}
use Rattle.tables.proofs.Soundness.{sound_when}
use Rattle.finishing.specs.Layout.{Laid, row_entries, laid_one, laid_after, laid}
use Rattle.finishing.specs.Steps.{Picks, by_uses, StepsCome}
use Rattle.finishing.specs.Finalising.{Unfinished, stages_in, outlined_in, finished_counts, Finalised}
use Rattle.finishing.proofs.Bridges.{steps_come}
use Rattle.finalising.specs.Lent.{lent}
use Rattle.finalising.specs.Finishing.{FinishedBy}
use Rattle.finalising.proofs.Begins.{matrices_kept}

-- a front of the places that count is one of the table, where it is as long as it says
front_counted : {X : Type 0} (n : ℕ) (xs ys : List X) → take n (counted xs) ≡ ys → length ys ≡ n → take n xs ≡ ys
front_counted n xs ys e long =
    let few : n ≤ limit = omega (arith, ap length e, long, length-take n (counted xs), length-take limit xs) in
    sym (take-take n limit xs few) ∙ e

-- a table is what counts of it and what lies past that
whole : {X : Type 0} (xs ys : List X) → counted xs ≡ counted ys → drop limit xs ≡ drop limit ys → xs ≡ ys
whole xs ys front beyond = sym (take-append-drop limit xs) ∙ ap₂ ◌++◌ front beyond ∙ take-append-drop limit ys

-- how many entries are taken, and how many are added
module _ {V : Type 0} (m : Model V) (rule : Rule V) (w : ℕ) where
  one_long : (f : Finishing V) (d : Laid V) (e : Entry) (merged : List (Term V))
      → (length (laid_one m rule w f d e merged).taken ≡ length d.taken + 1)
      × (length (laid_one m rule w f d e merged).rows + 3 * length f.outlined ≡ length d.rows + 3 * length (taken m rule w f merged).outlined)
  one_long f d e merged =
      let o : Outlined V = record { entry = length f.finished; witness = w + length f.outlined; merged = merged } in
      let rows = row_entries (length d.terms) (length merged) in
      both (rule (length f.finished) merged) _ _ _ _ (length_push d.taken _, omega (arith, length-append d.rows rows, length_push f.outlined o))
      (length_push d.taken _, refl)
    where
      Long : Finishing V → Laid V → Type 0
      Long x u = (length u.taken ≡ length d.taken + 1) × (length u.rows + 3 * length f.outlined ≡ length d.rows + 3 * length x.outlined)

      both : (b : Bool) (x y : Finishing V) (u v : Laid V) → Long x u → Long y v → Long (cond b x y) (cond b u v)
      both true x y u v h k = h
      both false x y u v h k = k

  laid_long : (given : List (Term V)) (f : Finishing V) (d : Laid V) (es : List Entry)
      → (length (laid_after m rule w given f d es).taken ≡ length d.taken + length es)
      × (length (laid_after m rule w given f d es).rows + 3 * length f.outlined
      ≡ length d.rows + 3 * length (finish_after m rule w f (lists (map (given_in given) es))).outlined)
  laid_long given f d [] = (omega arith, refl)
  laid_long given f d (e ∷ es) =
      let merged = inlined m f.finished (given_in given e).terms in
      let one = one_long f d e merged in
      let rest = laid_long given (taken m rule w f merged) (laid_one m rule w f d e merged) es in
      (omega (arith, one.0, rest.0), omega (arith, one.1, rest.1))

module _ {V : Type 0} {m : Model V} (keeps : Keeps m) (picks : Picks V) (s : State V) (safe : sound s ≡ true)
    (matrices : keeps_matrices s.counts.mode ≡ true) (goal : (given : List (List (Term V))) → by_uses picks given ≡ rule_of m s.counts.goal given)
    (ts : List (Term V)) (index : List Entry) (i w : List V) where
  tables : SoundTables s
  tables = (sound_when s).0 safe

  steps : StepsCome m picks s
  steps = steps_come keeps picks s tables (matrices_kept s.counts.mode matrices) goal

  entries_long : length ((laid m s).taken ++ (laid m s).rows) ≡ s.counts.entries + 3 * outlined_in m s
  entries_long =
      let x = account_of s in
      let d = laid m s in
      let nothing : Laid V = record { terms = take s.counts.terms s.tables.terms; taken = []; rows = [] } in
      let long = laid_long m (rule_of m x.goal (lists x.given)) x.witnesses.count s.tables.terms untaken nothing (entries_of s) in
      omega (arith, length-append d.taken d.rows, long.0, long.1, counted_long s.tables.index s.counts.entries tables.entries)

  -- the refusal is that of the steps of the definition
  pub refuses : (answer : Result Counts Refusal) → FinishedBy m picks s answer ts index w
      → option_map told (result_err answer) ≡ result_err (stages_in m s)
  refuses (Ok c) h = sym (ap result_err (steps.accepted _ h.steps).is)
  refuses (Err e) h = sym (ap result_err (steps.refused (told e) h.steps))

  -- the kept values, and those of the added witnesses behind
  values_left : (mode : SynthesisMode) → s.counts.mode ≡ mode → (n : ℕ)
      → (KeepsValues mode → take n (counted w) ≡ (account_of s).witnesses.kept ++ (made_in m mode (account_of s)).added)
      → kept_witnesses mode n (counted w) ≡ (account_of s).witnesses.kept ++ (made_in m mode (account_of s)).added
  values_left Setup e n h = sym (ap (λ k. kept_witnesses k s.counts.witnesses (counted s.tables.witnesses) ++ []) e)
  values_left (Prove matrices) e n h = h tt

  pub accepted : (answer : Result Counts Refusal) → FinishedBy m picks s answer ts index w → i ≡ s.tables.instances
      → IfOk answer (λ c. Finalised m s (lent c ts index i w))
  accepted (Err e) h same = tt
  accepted (Ok c) h same =
      let come = steps.accepted _ h.steps in
      let d = laid m s in
      record {
        counts = come.counts;
        terms = front_counted c.terms ts d.terms come.terms (sym (ap (λ (k : Counts). k.terms) come.counts));
        index = front_counted c.entries index (d.taken ++ d.rows) come.index (entries_long ∙ sym (ap (λ (k : Counts). k.entries) come.counts));
        instances = same;
        witnesses = ap (λ (k : Counts). kept_witnesses k.mode k.witnesses (counted w)) come.counts
            ∙ values_left s.counts.mode refl (finished_counts m s).witnesses
            (λ k. ap (λ (q : Counts). take q.witnesses (counted w)) (sym come.counts) ∙ come.witnesses k);
        setup = λ none. whole w s.tables.witnesses (come.setup none) h.beyond_witnesses.beyond;
      }

  -- a refusal leaves what was in use
  values_stay : (mode : SynthesisMode) → s.counts.mode ≡ mode
      → take s.counts.witnesses (counted w) ≡ take s.counts.witnesses (counted s.tables.witnesses)
      → ((KeepsValues mode → ⊥) → w ≡ s.tables.witnesses) → take s.counts.witnesses w ≡ take s.counts.witnesses s.tables.witnesses
  values_stay Setup e kept setup = ap (take s.counts.witnesses) (setup (λ k. k))
  values_stay (Prove matrices) e kept setup =
      let n = s.counts.witnesses in
      let few : n ≤ limit = omega (arith, tables.witnesses (subst KeepsValues (sym e) tt)) in
      sym (take-take n limit w few) ∙ kept ∙ take-take n limit s.tables.witnesses few

  pub refused : (answer : Result Counts Refusal) → FinishedBy m picks s answer ts index w → i ≡ s.tables.instances
      → OnErr answer (Unfinished s (lent s.counts ts index i w))
  refused (Ok c) h same = tt
  refused (Err e) h same =
      let n = s.counts.terms in
      let few : n ≤ limit = omega (arith, tables.terms) in
      let setup : (KeepsValues s.counts.mode → ⊥) → w ≡ s.tables.witnesses
      = λ none. whole w s.tables.witnesses (h.kept.setup none) h.beyond_witnesses.beyond in
      record {
        counts = refl;
        terms = sym (take-take n limit ts few) ∙ h.kept.terms ∙ take-take n limit s.tables.terms few;
        index = h.kept.index;
        instances = same;
        witnesses = values_stay s.counts.mode refl h.kept.witnesses setup;
        setup = setup;
      }
