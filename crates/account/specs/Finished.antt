-- What finalising leaves of an account. Assumes nothing.
use Rattle.std.specs.Prelude.{◌≡◌, ◌+◌, ◌*◌, length, Ok}
use Rattle.field.specs.Laws.{Model}
use Rattle.account.specs.Finish.{Stage}
use Rattle.account.specs.Account.{Account, KeepsMatrices, finalises, witness_count, constraint_count, finish_of, changed, matrices_of}
use Rattle.account.specs.Refusals.{Lengths, used_terms, used_entries, stages_of}

module _ {V : Type 0} (m : Model V) where
  -- Where finalising is not refused, its steps end with the lists of the finished circuit, and the counts of that circuit are what the steps
  -- leave in use: the term places; and for each list that is outlined three entries, a witness and a constraint more.
  pub record Leaves (x : Account V) (end : Stage V) : Type 0 where
    pub lists : end.lists ≡ finish_of m x
    pub terms : used_terms (changed m x finalises) ≡ end.used
    pub entries : used_entries (changed m x finalises) ≡ length x.given + 3 * length end.lists.outlined
    pub witnesses : witness_count (changed m x finalises) ≡ x.witnesses.count + length end.lists.outlined
    pub constraints : constraint_count (changed m x finalises) ≡ x.constraints + length end.lists.outlined

  abbrev pub CountsLeft : Type 0
  CountsLeft = (k : Lengths) (x : Account V) (end : Stage V) → KeepsMatrices x.mode → stages_of m k x ≡ Ok end → Leaves x end

  -- Setup makes what Prove makes: where matrices are kept they depend on the goal, the lists and the counts alone.
  abbrev pub SameMatrices : Type 0
  SameMatrices = (x y : Account V) → KeepsMatrices x.mode → KeepsMatrices y.mode → x.goal ≡ y.goal → x.instances.count ≡ y.instances.count → x.witnesses.count ≡ y.witnesses.count
      → x.given ≡ y.given
      → let f = changed m x finalises in let g = changed m y finalises in matrices_of m f f.finished ≡ matrices_of m g g.finished
