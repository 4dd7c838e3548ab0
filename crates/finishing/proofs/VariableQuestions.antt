-- An accepted question of a finished circuit answers a value exactly where one is due. Assumes nothing.
use Rattle.std.proofs.Common.{◌≡◌, [], Some, refl, subst}
use Rattle.field.specs.Laws.{Model, Keeps}
use Rattle.variables.specs.declared.Variable.{Variable}
use Rattle.variables.specs.declared.Variable.TheVariants.{Zero, One, Instance, Witness, SymbolicLc}
use Rattle.account.specs.Account.{Finished, Account, value_of}
use Rattle.account.proofs.Questions.{finished_found}
use Rattle.tables.specs.Held.{State}
use Rattle.tables.specs.Sound.{given_of}
use Rattle.finishing.specs.Sound.{finished_of, instances_of, witnesses_of}
use Rattle.finishing.specs.Checks.{value_at}
use Rattle.finishing.specs.Laws.{ValuesFinished, QuestionsFindFinished}

module _ {V : Type 0} (s : State V) where
  -- an account of a finished circuit that keeps what the tables keep: all values of witnesses count as added
  abbrev done : Finished V
  done = record { lists = finished_of s; combinations = []; added = witnesses_of s }

  abbrev x : Account V
  x = record {
    mode = s.counts.mode;
    goal = s.counts.goal;
    instances = record { count = s.counts.instances; kept = instances_of s };
    witnesses = record { count = s.counts.witnesses; kept = [] };
    given = given_of s;
    constraints = s.counts.constraints;
    finished = Some done;
  }

  same_value : (m : Model V) (v : Variable) → value_of m x v ≡ value_at m s v
  same_value m Zero = refl
  same_value m One = refl
  same_value m (Instance i) = refl
  same_value m (Witness i) = refl
  same_value m (SymbolicLc k) = refl

pub questions_find_finished : {V : Type 0} {m : Model V} (keeps : Keeps m) → QuestionsFindFinished m
questions_find_finished {m = m} keeps s v e = subst (ValuesFinished m s v) (same_value s m v) (finished_found keeps (x s) (done s) refl v)
