-- Where a variable belongs in a list, and a term added there. Assumes nothing.
use Rattle.std.specs.Prelude.{ℕ, zero, suc, Bool, false, cond, List, [], ◌∷◌, length, drop, Ok, Err, Result, nat_lt}
use Rattle.std.specs.List.{insert, prefix_len}
use Rattle.field.specs.Laws.{Model}
use Rattle.variables.specs.declared.Variable.{Variable}
use Rattle.variables.specs.declared.Term.{Term}
use Rattle.variables.specs.Order.{equal, below}
use Rattle.variables.specs.Terms.{term}

-- how many terms come before the first whose variable is not below v
abbrev pub seek : {V : Type 0} → Variable → List (Term V) → ℕ
seek v ts = prefix_len (λ t. below t.variable v) ts

abbrev pub first_is : {V : Type 0} → Variable → List (Term V) → Bool
first_is v [] = false
first_is v (t ∷ ts) = equal t.variable v

-- Found at a place, or free to be inserted there. Under six terms a variable counts as not found.
abbrev pub location : {V : Type 0} → Variable → List (Term V) → Result ℕ ℕ
location v ts =
    cond (nat_lt (length ts) 6) (Err (seek v ts)) (cond (first_is v (drop (seek v ts) ts)) (Ok (seek v ts)) (Err (seek v ts)))

module _ {V : Type 0} (m : Model V) where
  -- the term at place i gains the number k
  abbrev pub gained : V → ℕ → List (Term V) → List (Term V)
  gained k i [] = []
  gained k zero (t ∷ ts) = term (m.plus t.number k) t.variable ∷ ts
  gained k (suc i) (t ∷ ts) = t ∷ gained k i ts

  abbrev pub added_at : Result ℕ ℕ → Term V → List (Term V) → List (Term V)
  added_at (Ok i) t ts = gained t.number i ts
  added_at (Err i) t ts = insert ts i t

  abbrev pub added : Term V → List (Term V) → List (Term V)
  added t ts = added_at (location t.variable ts) t ts
