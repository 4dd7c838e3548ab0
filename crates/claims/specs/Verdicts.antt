-- What the answers to a claim's calls say of it. Assumes nothing.
use Rattle.std.specs.Prelude.{◌≡◌, ℕ, ◌-◌, List, [], ◌∷◌, map, length, Some, None, Ok, Err, Option, Result}
use Rattle.std.specs.List.{slice_get}
use Rattle.field.specs.Laws.{Model}
use Rattle.variables.specs.declared.Refusal.{Refusal}
use Rattle.variables.specs.Refusals.{Told}
use Rattle.account.specs.declared.OptimizationGoal.{OptimizationGoal}
use Rattle.account.specs.Account.{Account, Finished, opened, changed, matrices_from}
use Rattle.account.specs.Calls as account
use Rattle.account.specs.Calls.{effect_of}
use Rattle.account.specs.Refusals.{Lengths, first}
use Rattle.tables.specs.Held.{Held, lengths}
use Rattle.account.specs.Run.{log_of}
use Rattle.account.specs.Promise.{Promised}
use Rattle.matrices.specs.declared.ConstraintMatrices.{ConstraintMatrices}
use Rattle.matrices.specs.Writing.{Lent}
use Rattle.matrices.specs.Laws.{as_written}
use Rattle.calls.specs.declared.Call.{Call}
use Rattle.calls.specs.declared.Answer.{Answer}
use Rattle.calls.specs.declared.Answer.TheVariants.{Unsatisfied, Written, Refused}
use Rattle.calls.specs.Calls.{Rooms, as_call, log_in}
use Rattle.calls.specs.Promise.{run_tests}
use Rattle.claims.specs.declared.Wall.{Wall}
use Rattle.claims.specs.declared.Claim.{Claim}
use Rattle.claims.specs.Grades.{claim_calls, Judged}

module _ {V : Type 0} where
  -- the refusal of the first call that is refused, if one is
  abbrev pub refusal_in : List (Answer V) → Result (Unit {0}) Refusal
  refusal_in [] = Ok tt
  refusal_in (Refused refusal ∷ rest) = Err refusal
  refusal_in (other ∷ rest) = refusal_in rest

  -- the answer so many places before the end; the row that a check names; and the counts of matrices that were written
  abbrev pub from_end : List (Answer V) → ℕ → Option (Answer V)
  from_end answers back = slice_get answers (length answers - back)

  abbrev pub row_in : Option (Answer V) → Option ℕ
  row_in (Some (Unsatisfied row)) = row
  row_in other = None

  abbrev pub counts_in : Option (Answer V) → Option ConstraintMatrices
  counts_in (Some (Written counts)) = counts
  counts_in other = None

-- what is read of the answers to a run's calls: the rows that the two checks name, and the counts of the matrices
pub record Reading : Type 0 where
  pub before : Option ℕ
  pub after : Option ℕ
  pub matrices : Option ConstraintMatrices

-- a refusal, or else this
abbrev pub unless_refused : {X Y : Type 0} → Result X Refusal → Y → Result Y Refusal
unless_refused (Ok x) y = Ok y
unless_refused (Err refusal) y = Err refusal

module _ {V : Type 0} where
  -- the refusal of the first call that is refused, or else what the last four answers say
  abbrev pub reading_in : List (Answer V) → Result Reading Refusal
  reading_in answers =
      unless_refused (refusal_in answers)
      (record { before = row_in (from_end answers 4); after = row_in (from_end answers 2); matrices = counts_in (from_end answers 1) })

  -- the test before a run that refuses it, if one does
  abbrev pub refused_at_once : List (Call V) → List (Answer V) → Held V → Option Told
  refused_at_once calls answers h = first (run_tests (length calls) (length answers) (lengths h))

module _ {V : Type 0} (m : Model V) where
  -- the account after calls that are all accepted
  abbrev pub after_accepted : Account V → List (account.Call V) → Account V
  after_accepted x [] = x
  after_accepted x (call ∷ calls) = after_accepted (changed m x (effect_of call)) calls

  abbrev pub claim_account : Rooms → OptimizationGoal → Wall V → Claim V → Account V
  claim_account r goal wall claim = after_accepted (opened m) (claim_calls m r goal wall claim)

  -- What is said of a claim whose account is x at the end:
  pub record Said (t : Lent V) (wall : Wall V) (claim : Claim V) (x : Account V) (before after : Option ℕ)
      (counts : Option ConstraintMatrices) : Type 0 where
    -- The check before finalising names none exactly where the claim is honest, and else the first that is wrong; and the check after it
    -- names the same.
    pub judged : Judged m wall claim.squares.now claim.grade before
    pub same : after ≡ before
    -- The circuit is finished, and its matrices are those that lie in the lent tables.
    pub done : Finished V
    pub finished : x.finished ≡ Some done
    pub matrices : as_written t counts ≡ account.written (Some (matrices_from m x done))

  -- So say the answers to the calls of a claim, where none of them is refused and the run of its account keeps the promise.
  abbrev pub AnswersJudge : Type 0
  AnswersJudge = (k : Lengths) (r : Rooms) (t : Lent V) (goal : OptimizationGoal) (wall : Wall V) (claim : Claim V) (calls : List (Call V))
      (answers : List (Answer V))
      → map (as_call r) calls ≡ claim_calls m r goal wall claim → length answers ≡ length calls
      → Promised m (log_in r t calls answers) → log_in r t calls answers ≡ log_of m k (map (as_call r) calls) → refusal_in answers ≡ Ok tt
      → Said t wall claim (claim_account r goal wall claim) (row_in (from_end answers 4)) (row_in (from_end answers 2))
      (counts_in (from_end answers 1))
