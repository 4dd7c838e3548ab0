-- A list of terms negated and scaled. Assumes nothing.
use Rattle.std.specs.Prelude.{List, map}
use Rattle.field.specs.Laws.{Model}
use Rattle.variables.specs.declared.Variable.{Variable}
use Rattle.variables.specs.declared.Variable.TheVariants.{Zero}
use Rattle.variables.specs.declared.Term.{Term}

abbrev pub term : {V : Type 0} → V → Variable → Term V
term k v = record { number = k; variable = v }

module _ {V : Type 0} (m : Model V) where
  -- 1 times v
  abbrev pub once : Variable → Term V
  once v = term m.one v

  -- a term with the negative number
  abbrev pub opposite : Term V → Term V
  opposite t = term (m.minus t.number) t.variable

  -- a term with its number multiplied by k
  abbrev pub multiplied : V → Term V → Term V
  multiplied k t = term (m.times t.number k) t.variable

  abbrev pub negated : List (Term V) → List (Term V)
  negated ts = map opposite ts

  abbrev pub scaled : V → List (Term V) → List (Term V)
  scaled k ts = map (multiplied k) ts

  -- what a place holds that a list no longer needs: zero times Zero
  abbrev pub nothing : Term V
  nothing = term m.zero Zero
