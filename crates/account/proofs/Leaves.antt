-- What finalising leaves of an account. Assumes nothing.
use Rattle.std.proofs.Common.{◌≡◌, ◌+◌, ◌-◌, ◌*◌, ◌≤◌, true, false, List, [], ◌∷◌, map, length, Some, Ok, sym, refl, ap, ◌∙◌, arith}
use lib.ListN.{length-map}
use Rattle.field.specs.Laws.{Model}
use Rattle.account.specs.declared.SynthesisMode.{SynthesisMode}
use Rattle.account.specs.declared.SynthesisMode.TheVariants.{Setup, Prove}
use Rattle.account.specs.Given.{lists}
use Rattle.account.specs.Finish.{Outlined, Finishing, Stage, places, finish}
use Rattle.account.specs.Rows.{row_lists, finished_rows, added_row, finished_lists, Matrices, matrices}
use Rattle.account.specs.Account.{Finished, Account, KeepsMatrices, with_finished, rule_of, finish_of, made, made_in, matrices_in}
use Rattle.account.specs.Refusals.{Lengths, room_of, start_of, stages_of}
use Rattle.account.specs.Finished.{CountsLeft, SameMatrices}
use Rattle.account.proofs.Places.{places_append, places_taken}

module _ {V : Type 0} (m : Model V) where
  -- an added row takes a place at least
  rows_long : (os : List (Outlined V)) → length os ≤ places (row_lists (map (added_row m) os))
  rows_long [] = omega arith
  rows_long (o ∷ os) = omega (arith, rows_long os)

  lists_long : (f : Finishing V) → length f.outlined ≤ places (finished_lists m f)
  lists_long f = omega (arith, rows_long f.outlined, places_append f.finished (row_lists (map (added_row m) f.outlined)))

  module _ (k : Lengths) (x : Account V) (end : Stage V) (e : stages_of m k x ≡ Ok end) where
    -- what is made, by mode
    record Made (done : Finished V) : Type 0 where
      lists : end.lists ≡ finish_of m x
      terms : places (Rattle.account.specs.Given.lists x.given) + (places done.lists - length done.combinations) ≡ end.used
      many : length done.combinations ≡ length end.lists.outlined

    made_leaves : (added : List V) → Made (made m added x)
    made_leaves added =
        let within = places_taken m (rule_of m x.goal (lists x.given)) (room_of k x) (start_of x) (places (lists x.given)) (lists x.given) end e in
        let many : length (map (λ (o : Outlined V). o.entry) (finish_of m x).outlined) ≡ length end.lists.outlined
        = length-map (finish_of m x).outlined (λ o. o.entry) ∙ ap (λ (f : Finishing V). length f.outlined) (sym within.same) in
        record {
          lists = within.same;
          terms = omega (arith, within.takes, ap (λ (f : Finishing V). places (finished_lists m f)) within.same, lists_long end.lists, many);
          many = many;
        }

    leaves : (mode : SynthesisMode) → KeepsMatrices mode → Made (made_in m mode x)
    leaves Setup kept = made_leaves []
    leaves (Prove true) kept = made_leaves _
    leaves (Prove false) kept = absurd kept

  pub counts_left : CountsLeft m
  counts_left k x end kept e =
      let made = leaves k x end e x.mode kept in
      record {
        lists = made.lists;
        terms = made.terms;
        entries = ap (λ i. length x.given + 3 * i) made.many;
        witnesses = ap (λ i. x.witnesses.count + i) made.many;
        constraints = ap (λ i. x.constraints + i) made.many;
      }

  -- the matrices of what finalising makes, whatever the mode
  abbrev always : Account V → Matrices V
  always x =
      let done = made m [] x in
      matrices m x.instances.count (x.witnesses.count + length done.combinations) (finished_rows x.given done.lists done.combinations)

  kept_matrices : (mode : SynthesisMode) (x : Account V) → KeepsMatrices mode → matrices_in m mode (with_finished x (Some (made_in m x.mode x))) (made_in m mode x) ≡ Some (always x)
  kept_matrices Setup x kept = refl
  kept_matrices (Prove true) x kept = refl
  kept_matrices (Prove false) x kept = absurd kept

  pub same_matrices : SameMatrices m
  same_matrices x y kept kept' goal instances witnesses given =
      let same : always x ≡ always y = λ i.
      let f = finish m (rule_of m (goal i) (lists (given i))) (witnesses i) (lists (given i)) in
      let combinations = map (λ (o : Outlined V). o.entry) f.outlined in
      matrices m (instances i) (witnesses i + length combinations) (finished_rows (given i) (finished_lists m f) combinations) in
      kept_matrices x.mode x kept ∙ ap Some same ∙ sym (kept_matrices y.mode y kept')
