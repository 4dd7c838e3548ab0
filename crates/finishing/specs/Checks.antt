-- Calls on a finished circuit: when each is refused, and what it answers. Assumes nothing.
use Rattle.std.specs.Prelude.{ℕ, Bool, true, not, List, [], ◌∷◌, map, Some, None, Ok, Err, Option, Result}
use Rattle.std.specs.Option.{is_none}
use Rattle.field.specs.Laws.{Model}
use Rattle.variables.specs.declared.Variable.{Variable}
use Rattle.variables.specs.Refusals.{Told}
use Rattle.variables.specs.Evaluate.{read, evaluated}
use Rattle.account.specs.declared.SynthesisMode.{SynthesisMode}
use Rattle.account.specs.declared.SynthesisMode.TheVariants.{Prove}
use Rattle.account.specs.Rows.{Row, each}
use Rattle.account.specs.Evaluate.{or_zero, failing}
use Rattle.account.specs.Refusals.{when, first, check_refusal}
use Rattle.tables.specs.Held.{State}
use Rattle.tables.specs.Sound.{account_of}
use Rattle.finishing.specs.Sound.{rows_of, instances_of, witnesses_of, sound_finished}

-- an answer, unless a test refuses
abbrev pub unless_refused : {X : Type 0} → Option Told → X → Result X Told
unless_refused None answer = Ok answer
unless_refused (Some refusal) answer = Err refusal

module _ {V : Type 0} where
  -- 17: the tables are not sound
  abbrev pub unsound_finished : State V → Option Told
  unsound_finished s = when (not (sound_finished s)) 17

  -- the tests of a check, and of a question, in their order
  abbrev pub check_tests : State V → List (Option Told)
  check_tests s = unsound_finished s ∷ check_refusal s.counts.mode (account_of s) ∷ []

  abbrev pub question_tests : State V → List (Option Told)
  question_tests s = unsound_finished s ∷ []

module _ {V : Type 0} (m : Model V) (s : State V) where
  -- a variable's value: none where it is not kept, and for every symbol
  abbrev pub value_at : Variable → Option V
  value_at v = read m (instances_of s) (witnesses_of s) [] v

  -- what the three lists of each row are worked out to
  abbrev pub row_values : List (Row V)
  row_values = map (each (λ ts. or_zero m (evaluated m value_at ts))) (rows_of s)

  -- the first row that fails; in bare mode there is none, and in Setup no check is accepted
  abbrev pub failing_row : SynthesisMode → Option ℕ
  failing_row (Prove true) = failing m row_values
  failing_row other = None

  abbrev pub checking : Result (Option ℕ) Told
  checking = unless_refused (first (check_tests s)) (failing_row s.counts.mode)

  abbrev pub satisfying : Result Bool Told
  satisfying = unless_refused (first (check_tests s)) (is_none (failing_row s.counts.mode))

  abbrev pub asking : Variable → Result (Option V) Told
  asking v = unless_refused (first (question_tests s)) (value_at v)
