-- Two lists merged: the lower variable first, equal heads combined once. Assumes nothing.
use Rattle.std.specs.Prelude.{cond, List, [], ◌∷◌, map}
use Rattle.field.specs.Laws.{Model}
use Rattle.variables.specs.declared.Term.{Term}
use Rattle.variables.specs.Order.{below}
use Rattle.variables.specs.Terms.{term}

-- `push` is what a number of the second list becomes alone, and `combine` what two numbers of one variable become.
module _ {V : Type 0} (push : V → V) (combine : V → V → V) where
  abbrev pub pushed : Term V → Term V
  pushed t = term (push t.number) t.variable

  abbrev pub combined : Term V → Term V → Term V
  combined x y = term (combine x.number y.number) x.variable

  -- x among the terms of the second list, and then what `rest` makes of those that are left
  abbrev pub before : Term V → (List (Term V) → List (Term V)) → List (Term V) → List (Term V)
  before x rest [] = x ∷ rest []
  before x rest (y ∷ ys) =
      cond (below x.variable y.variable) (x ∷ rest (y ∷ ys))
      (cond (below y.variable x.variable) (pushed y ∷ before x rest ys) (combined x y ∷ rest ys))

  abbrev pub merged : List (Term V) → List (Term V) → List (Term V)
  merged [] ys = map pushed ys
  merged (x ∷ xs) ys = before x (merged xs) ys

module _ {V : Type 0} (m : Model V) where
  abbrev pub merged_sum : List (Term V) → List (Term V) → List (Term V)
  merged_sum xs ys = merged (λ b. b) m.plus xs ys

  abbrev pub merged_difference : List (Term V) → List (Term V) → List (Term V)
  merged_difference xs ys = merged m.minus (λ a b. m.plus a (m.minus b)) xs ys

  -- with k times the second
  abbrev pub merged_sum_scaled : V → List (Term V) → List (Term V) → List (Term V)
  merged_sum_scaled k xs ys = merged (m.times k) (λ a b. m.plus a (m.times k b)) xs ys

  abbrev pub merged_difference_scaled : V → List (Term V) → List (Term V) → List (Term V)
  merged_difference_scaled k xs ys = merged_sum_scaled (m.minus k) xs ys
