-- What holds of lists of terms, for every field that keeps the laws and whatever the variables are worth. Assumes nothing.
use Rattle.std.specs.Prelude.{◌≡◌, ◌<◌, ◌≤◌, true, false, List, [], ◌++◌, map, length, take, Some, None, Option, slice_index_or}
use Rattle.std.specs.List.{ContainsAt, AllByRecursion}
use Rattle.field.specs.Laws.{Model}
use Rattle.variables.specs.declared.Variable.{Variable}
use Rattle.variables.specs.declared.Term.{Term}
use Rattle.variables.specs.Order.{below, Rises}
use Rattle.variables.specs.Worth.{value, worth}
use Rattle.variables.specs.Terms.{negated, scaled}
use Rattle.variables.specs.Compact.{placed, compactify}
use Rattle.variables.specs.Locate.{seek, added}
use Rattle.variables.specs.Merge.{merged, merged_sum, merged_difference, merged_sum_scaled, merged_difference_scaled}
use Rattle.variables.specs.Evaluate.{SymbolFree, read, evaluated}

-- the variables that a list names
abbrev pub variables : {V : Type 0} → List (Term V) → List Variable
variables ts = map (λ t. t.variable) ts

-- every variable before the place sought is below, and the one there is not
pub record Sought {V : Type 0} (v : Variable) (ts : List (Term V)) : Type 0 where
  pub within : seek v ts ≤ length ts
  pub before : AllByRecursion (λ t. below t.variable v ≡ true) (take (seek v ts) ts)
  pub there : (d : Term V) → seek v ts < length ts → below (slice_index_or ts (seek v ts) d).variable v ≡ false

abbrev pub Seeks : Type 0 → Type 0
Seeks V = (v : Variable) (ts : List (Term V)) → Sought v ts

-- rising lists merge to a rising list, however their numbers combine
abbrev pub MergesRise : Type 0 → Type 0
MergesRise V = (push : V → V) (combine : V → V → V) (xs ys : List (Term V)) → Rises xs → Rises ys → Rises (merged push combine xs ys)

module _ {V : Type 0} (m : Model V) where
  open m.ring use {Member, zero, one, ◌⊕◌, ◌⊗◌, neg}

  infixl 50 ◌⊕◌
  infixl 60 ◌⊗◌
  -- compactifying keeps the worth, the result rises, and it names just what was named
  pub record Compacted (ts : List (Term V)) : Type 0 where
    pub worth_kept : (at : Variable → Member) → worth m at (compactify m ts) ≡ worth m at ts
    pub rises : Rises (compactify m ts)
    pub only_named : AllByRecursion (λ t. ContainsAt (variables ts) t.variable) (compactify m ts)
    pub all_named : AllByRecursion (λ t. ContainsAt (variables (compactify m ts)) t.variable) ts

  abbrev pub Compacts : Type 0
  Compacts = (ts : List (Term V)) → Compacted ts

  -- From six terms on a term is added as compactifying places it, so a rising list stays rising.
  pub record Added (t : Term V) (ts : List (Term V)) : Type 0 where
    pub as_placed : 6 ≤ length ts → added m t ts ≡ placed m t ts
    pub rises : 6 ≤ length ts → Rises ts → Rises (added m t ts)

  abbrev pub Adds : Type 0
  Adds = (t : Term V) (ts : List (Term V)) → Added t ts

  -- each operation on lists does to their worth what its name says
  pub record ListsWorth : Type 0 where
    pub of_negated : (at : Variable → Member) (ts : List (Term V)) → worth m at (negated m ts) ≡ neg (worth m at ts)
    pub of_scaled : (at : Variable → Member) (k : V) (ts : List (Term V)) → worth m at (scaled m k ts) ≡ m.stands k ⊗ worth m at ts
    pub of_added : (at : Variable → Member) (t : Term V) (ts : List (Term V)) → worth m at (added m t ts) ≡ m.stands t.number ⊗ at t.variable ⊕ worth m at ts
    pub of_sum : (at : Variable → Member) (xs ys : List (Term V)) → worth m at (merged_sum m xs ys) ≡ worth m at xs ⊕ worth m at ys
    pub of_difference : (at : Variable → Member) (xs ys : List (Term V)) → worth m at (merged_difference m xs ys) ≡ worth m at xs ⊕ neg (worth m at ys)
    pub of_sum_scaled : (at : Variable → Member) (k : V) (xs ys : List (Term V)) → worth m at (merged_sum_scaled m k xs ys) ≡ worth m at xs ⊕ m.stands k ⊗ worth m at ys
    pub of_difference_scaled : (at : Variable → Member) (k : V) (xs ys : List (Term V))
        → worth m at (merged_difference_scaled m k xs ys) ≡ worth m at xs ⊕ neg (m.stands k ⊗ worth m at ys)

  -- o is a value, and stands for a
  abbrev pub Means : Option V → Member → Type 0
  Means o a = (v : V) × (o ≡ Some v) × (m.stands v ≡ a)

  -- Where a list names no symbol and only values that are kept, its value stands for what it is worth; where it names another, it has none.
  pub record Evaluates : Type 0 where
    pub kept : (instances witnesses : List V) (ts : List (Term V)) → AllByRecursion (λ t. SymbolFree (length instances) (length witnesses) t.variable) ts
        → Means (evaluated m (read m instances witnesses []) ts) (worth m (value m (length instances) (map m.stands (instances ++ witnesses)) []) ts)
    pub not_kept : (instances witnesses : List V) (ts : List (Term V)) (t : Term V) → ContainsAt ts t → (SymbolFree (length instances) (length witnesses) t.variable → ⊥)
        → evaluated m (read m instances witnesses []) ts ≡ None
