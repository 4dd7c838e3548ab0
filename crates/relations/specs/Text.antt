-- How a list is written. Assumes nothing.
use Rattle.std.specs.Prelude.{ℕ, List, [], ◌∷◌, Some, Option, codes}
use Rattle.std.specs.Fmt.{◌++?◌}
use Rattle.variables.specs.declared.Term.{Term}
use Rattle.variables.specs.Text.{term_text}

module _ {V : Type 0} (number : V → Option (List ℕ)) where
  -- the terms, each behind a space
  abbrev pub behind_spaces : List (Term V) → Option (List ℕ)
  behind_spaces [] = Some []
  behind_spaces (t ∷ ts) = Some (codes " ") ++? term_text number t ++? behind_spaces ts

  -- the terms with one space between them, where it is known how each number is written
  abbrev pub list_text : List (Term V) → Option (List ℕ)
  list_text [] = Some []
  list_text (t ∷ ts) = term_text number t ++? behind_spaces ts
