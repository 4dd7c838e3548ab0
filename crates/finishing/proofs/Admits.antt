-- Accepted finalising leaves rows that admit exactly what was given. Assumes nothing.
use Rattle.std.proofs.Common.{◌≡◌, ℕ, ◌++◌, ◌↔◌, true, false, [], map, length, None, Some, Ok, arith, sym, refl, ap, ◌∙◌, subst, ap₂, append_assoc}
use mathlib.Core.List.{map-append}
use lib.ListN.{length-map}
use Rattle.std.specs.List.{AllByRecursion, slice_get}
use Rattle.std.proofs.ByRecursion.{All-map}
use Rattle.variables.specs.Order.{Rises}
use Rattle.account.specs.declared.Mark.TheVariants.{Plain}
use Rattle.account.specs.Finish.{Outlined}
use Rattle.account.proofs.Outlines.{outlined_plain, none_outlined}
use Rattle.tables.proofs.Holds.{same_marks}
use Rattle.field.specs.Laws.{Model, Keeps}
use Rattle.account.specs.declared.SynthesisMode.{SynthesisMode}
use Rattle.account.specs.declared.SynthesisMode.TheVariants.{Setup, Prove}
use Rattle.account.specs.Given.{marks, lists}
use Rattle.account.specs.Finish.{Rule, Stage}
use Rattle.account.specs.Rows.{Holds, FirstFailing, constraints, row_marks, rows, finished_rows, rows_at}
use Rattle.account.specs.Account.{Account, KeepsMatrices, KeepsValues, rule_of, finish_of, kept_of, made_in, constraints_kept}
use Rattle.account.specs.Laws.{WellFormed, OutlinedBy, Exact, FailsAlike, combination_worths}
use Rattle.account.specs.Evaluate.{added_values}
use Rattle.account.specs.Refusals.{first}
use Rattle.account.proofs.Refuses.{when_not, first_none}
use Rattle.account.proofs.Accepts.{bare_none, stages_iff}
use Rattle.account.proofs.Finalises.{finalised_formed, finalised_exact, finalised_alike}
use Rattle.account.proofs.Picks.{outlines, finished_rise}
use Rattle.account.proofs.Values.{kept_long, added_worths}
use Rattle.tables.specs.Held.{Held, State, counted}
use Rattle.tables.specs.Sound.{marks_of, kept_instances, account_of, sound, SoundTables}
use Rattle.tables.proofs.Soundness.{sound_when}
use Rattle.tables.proofs.Fitting.{many_instances, many_witnesses}
use Rattle.finishing.specs.Sound.{finished_of, rows_of, instances_of, witnesses_of}
use Rattle.finishing.specs.Finalising.{stages_in, finalize_tests, Finalised}
use Rattle.finishing.specs.Laws.{rows_kept, Admits, FinalisingAdmits}
use Rattle.finishing.proofs.Decodes.{left_in, picked, made, finished_after, marks_after}

module _ {V : Type 0} (m : Model V) where
  -- where finalising is not refused the tables are sound and the steps find their places
  pub not_refused : (s : State V) → KeepsMatrices s.counts.mode → first (finalize_tests m s) ≡ None
      → SoundTables s × ((end : Stage V) × (stages_in m s ≡ Ok end))
  not_refused s k e =
      let tests = first_none (finalize_tests m s) e in
      ((sound_when s).0 (when_not (sound s) 17 tests.0), (stages_iff (stages_in m s)).0 (bare_none s.counts.mode _ tests.1.0 k))

  -- the counts that finalising leaves
  pub counted_after : (s t : State V) → Finalised m s t → t ≡ left_in m s t.tables
  counted_after s t fin i = record { counts = fin.counts i; tables = t.tables }

module _ {V : Type 0} {m : Model V} (keeps : Keeps m) where
  open m.ring use {Member}

  -- where matrices and values are kept those of the added witnesses stand for what these stand for
  added_right : (x : Account V) (mode : SynthesisMode) → KeepsMatrices mode → KeepsValues mode
      → map m.stands (added_values m x.instances.kept x.witnesses.kept (finish_of m x).outlined)
      ≡ combination_worths m x.instances.count x.given (map (λ o. o.entry) (finish_of m x).outlined) (kept_of m x)
      → map m.stands (made_in m mode x).added ≡ combination_worths m x.instances.count x.given (map (λ o. o.entry) (finish_of m x).outlined) (kept_of m x)
  added_right x Setup k v h = absurd v
  added_right x (Prove true) k v h = h
  added_right x (Prove false) k v h = absurd k

  module _ (s : State V) (sound : SoundTables s) (end : Stage V) (e : stages_in m s ≡ Ok end) (h : Held V)
      (fin : Finalised m s (left_in m s h)) (k : KeepsMatrices s.counts.mode) where
    abbrev t : State V
    t = left_in m s h

    abbrev x : Account V
    x = account_of s

    abbrev n : ℕ
    n = s.counts.instances

    abbrev w : ℕ
    w = s.counts.witnesses

    abbrev rule : Rule V
    rule = rule_of m x.goal (lists x.given)

    lists_are : finished_of t ≡ made m s
    lists_are = finished_after m s sound end e h fin

    marks_are : marks_of t ≡ marks x.given ++ row_marks (picked m s)
    marks_are = marks_after m s sound end e h fin

    alike : FailsAlike m n w x.given (constraints x.given) (made m s) (picked m s)
    alike = finalised_alike keeps rule n w x.given sound.lists.known

    -- what the values of the added witnesses stand for, and the values that are kept
    added_are : KeepsValues s.counts.mode → map m.stands (made_in m x.mode x).added ≡ combination_worths m n x.given (picked m s) (kept_of m x)
    added_are v = added_right x x.mode k v (added_worths keeps x sound.lists.known (many_instances s sound v) (many_witnesses s sound v))

    values_are : KeepsValues s.counts.mode
        → map m.stands (instances_of t ++ witnesses_of t) ≡ kept_of m x ++ combination_worths m n x.given (picked m s) (kept_of m x)
    values_are v =
        let added = (made_in m x.mode x).added in
        ap₂ (λ is ws. map m.stands (is ++ ws)) (ap (λ l. kept_instances s.counts.mode n (counted l)) fin.instances) fin.witnesses
        ∙ ap (map m.stands) (sym (append_assoc x.instances.kept x.witnesses.kept added)) ∙ map-append m.stands (x.instances.kept ++ x.witnesses.kept) added
        ∙ ap (λ l. kept_of m x ++ l) (added_are v)

    rows_are : KeepsValues s.counts.mode
        → rows_kept m t ≡ rows_at m n (kept_of m x ++ combination_worths m n x.given (picked m s) (kept_of m x)) (finished_rows x.given (made m s) (picked m s))
    rows_are v = ap₂ (rows_at m n) (values_are v) (ap₂ (rows []) marks_are lists_are)

    well_formed : WellFormed n w x.given (constraints x.given) (made m s) (picked m s)
    well_formed = finalised_formed keeps rule n w x.given sound.lists.known

    rows_all : rows_of t ≡ finished_rows x.given (made m s) (picked m s)
    rows_all = ap₂ (rows []) marks_are lists_are

    many_picked : length (picked m s) ≡ length (finish_of m x).outlined
    many_picked = length-map (finish_of m x).outlined (λ (o : Outlined V). o.entry)

    admitted : Admits m s t
    admitted = record {
      combinations = (picked m s);
      formed = subst (λ ls. WellFormed n w x.given (constraints x.given) ls (picked m s)) (sym lists_are) well_formed;
      rows = ap (λ ms. rows [] ms (finished_of t)) marks_are;
      rises = subst (AllByRecursion Rises) (sym lists_are) (finished_rise m rule w (lists x.given));
      rows_counted = omega (arith, sound.lists.triples k, ap length rows_all, well_formed.rows_counted, many_picked);
      witnesses_counted = omega (arith, many_picked);
      weight_alone = λ g. ap (map (λ o. o.entry)) (none_outlined m w (lists x.given) x.goal g);
      plain = subst (λ ms. AllByRecursion (λ k. slice_get ms k ≡ Some Plain) (picked m s)) (sym (same_marks s))
          (All-map (λ k. slice_get (marks x.given) k ≡ Some Plain) (λ o. o.entry) (finish_of m x).outlined (outlined_plain m n w x.given sound.lists.known x.goal));
      added = λ v. ((made_in m x.mode x).added, fin.witnesses, added_are v);
      outlined = subst (λ ls. OutlinedBy m rule w x.given ls (picked m s)) (sym lists_are) (outlines m rule w x.given);
      vectors = subst (λ ls. Exact m n w x.given (constraints x.given) ls (picked m s)) (sym lists_are)
          (finalised_exact keeps rule n w x.given sound.lists.known);
      fails_alike = subst (λ ls. FailsAlike m n w x.given (constraints x.given) ls (picked m s)) (sym lists_are) alike;
      kept_fails = λ v answer.
          subst (λ rs. FirstFailing (Holds m) rs answer ↔ FirstFailing (Holds m) (constraints_kept m x (constraints x.given)) answer) (sym (rows_are v))
          ((alike (kept_of m x) (kept_long keeps x (many_instances s sound v) (many_witnesses s sound v))).same answer);
    }

  pub finalising_admits : FinalisingAdmits m
  finalising_admits before after k beyond h =
      let passed = not_refused m before k (sym h.refuses) in
      let fin = h.accepted k refl in
      let same = counted_after m before after fin in
      subst (Admits m before) (sym same) (admitted before passed.0 passed.1.0 passed.1.1 after.tables (subst (Finalised m before) same fin) k)
