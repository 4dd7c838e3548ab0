-- A work table that was filled. Assumes nothing.
use Rattle.std.proofs.Common.{◌≡◌, ℕ, List, ◌++◌, map, length, drop, Option, ap, ◌∙◌}
use Rattle.field.specs.Laws.{Model}
use Rattle.variables.specs.declared.Term.{Term}
use Rattle.account.specs.Given.{lists}
use Rattle.account.specs.Evaluate.{filled}
use Rattle.tables.specs.declared.Entry.{Entry}
use Rattle.tables.specs.Sound.{given_in}

-- the same at equal values and equal entries, of which there are n
pub filled_at : {V : Type 0} (m : Model V) (terms : List (Term V)) (work : List (Option V)) (entries : List Entry) {out : List (Option V)} {i j w x : List V} {es : List Entry} {n : ℕ}
    → out ≡ filled m i w (lists (map (given_in terms) es)) ++ drop (length es) work
    → i ≡ j → w ≡ x → es ≡ entries → length entries ≡ n
    → out ≡ filled m j x (lists (map (given_in terms) entries)) ++ drop n work
filled_at m terms work entries {j = j} {x = x} is instances witnesses same many =
    is
    ∙ (λ p. filled m (instances p) (witnesses p) (lists (map (given_in terms) (same p))) ++ drop (length (same p)) work)
    ∙ ap (λ k. filled m j x (lists (map (given_in terms) entries)) ++ drop k work) many
