-- Values read, and a list evaluated a term at a time. Assumes nothing.
use Rattle.std.proofs.Common.{◌≡◌, ℕ, ◌+◌, ◌<◌, ◌≤◌, Bool, false, List, ◌∷◌, length, get_or, drop, Some, None, Option, sym, ap, ◌∙◌, Bor, MatchOption}
use Rattle.std.specs.List.{HoldsAt}
use Rattle.std.proofs.lemmas.List.{drop_more, drop_all}
use Rattle.field.specs.Laws.{Model}
use Rattle.variables.specs.declared.Variable.{Variable}
use Rattle.variables.specs.declared.Term.{Term}
use Rattle.variables.specs.Order.{equal}
use Rattle.variables.specs.Locate.{first_is}
use Rattle.variables.specs.Evaluate.{accumulated, evaluated_from}
use Rattle.variables.proofs.Evaluates.{from_none}

module _ {V : Type 0} (ts : List (Term V)) (i : ℕ) where
  here : (t : Term V) → i < length ts → t ≡ get_or ts i t → drop i ts ≡ t ∷ drop (i + 1) ts
  here t lt is = drop_more ts i t lt ∙ ap (λ x. x ∷ drop (i + 1) ts) (sym is)

  pub first_here : (v : Variable) (t : Term V) → i < length ts → t ≡ get_or ts i t → first_is v (drop i ts) ≡ equal t.variable v
  first_here v t lt is = ap (first_is v) (here t lt is)

  pub first_past : (v : Variable) → length ts ≤ i → first_is v (drop i ts) ≡ false
  first_past v le = ap (first_is v) (drop_all i ts le)

  -- what `get` lends, asked for its variable
  pub stands : (v : Variable) (r : Option (Bor (Term V))) (b : Bool) {Q : Bor (Term V) → Type 0} → ((x : Bor (Term V)) → Q x → b ≡ equal x.now.variable v)
      → MatchOption r (length ts ≤ i) (λ x. (i < length ts) × HoldsAt (λ y. x.now ≡ y) ts i) → MatchOption r (b ≡ false) Q → b ≡ first_is v (drop i ts)
  stands v None b is h e = e ∙ sym (first_past v h)
  stands v (Some x) b is h e = is x e ∙ sym (first_here v x.now h.0 (h.1 x.now))

  -- a sum that comes to a value that is not kept
  pub evaluated_stops : (m : Model V) (at : Variable → Option V) (sum : V) (t : Term V) → i < length ts → t ≡ get_or ts i t → None ≡ at t.variable → evaluated_from m at (Some sum) (drop i ts) ≡ None
  evaluated_stops m at sum t lt is e =
      ap (evaluated_from m at (Some sum)) (here t lt is)
      ∙ ap (λ r. evaluated_from m at (accumulated m (Some sum) t.number r) (drop (i + 1) ts)) (sym e)
      ∙ from_none m at (drop (i + 1) ts)
