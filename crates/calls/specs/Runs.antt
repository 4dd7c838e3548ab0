-- Runs of calls, from any account on. Assumes nothing.
use Rattle.std.specs.Prelude.{◌≡◌, cond, List, [], ◌∷◌, Some, None, Option, Result}
use Rattle.field.specs.Laws.{Model}
use Rattle.variables.specs.Refusals.{Told}
use Rattle.account.specs.Account.{Account, builds}
use Rattle.account.specs.Calls.{Call, Answer, effect_of, after, after_all}
use Rattle.account.specs.Refusals.{Lengths}
use Rattle.account.specs.Run.{due, log_from}
use Rattle.tables.specs.Held.{lengths, KeepsBeyond}
use Rattle.calls.specs.Standing.{Standing, Stands, FreeStays, beside_after, Finalises}

module _ {V : Type 0} (m : Model V) where
  -- what is due to each of some calls, from an account on: none to one that does not build
  abbrev pub dues : Lengths → Account V → List (Call V) → List (Option (Result (Answer V) Told))
  dues k x [] = []
  dues k x (call ∷ calls) =
      let answer = due m k x call in
      cond (builds x (effect_of call)) (Some answer ∷ dues k (after m x (record { call = call; answer = answer })) calls) (None ∷ dues k x calls)

  -- The calls are answered so, and lead from the one standing to the other, where the tables show the account x before.
  pub record Runs (k : Lengths) (x : Account V) (before : Standing V) (calls : List (Call V)) (answers : List (Option (Result (Answer V) Told))) (now : Standing V) : Type 0 where
    -- Each is answered as is due.
    pub answered : answers ≡ dues k x calls
    -- The tables show the account after the calls.
    pub stands : Stands now (after_all m x (log_from m k x calls))
    -- They keep their lengths and what lies past the places that count, and, unless finalising is called where matrices are kept, what is free.
    pub beyond : KeepsBeyond before.circuit.tables now.circuit.tables
    pub free : (Finalises m x (log_from m k x calls) → ⊥) → FreeStays (after_all m x (log_from m k x calls)) before.circuit.tables now.circuit.tables
    -- The work table and what was written are those of the calls.
    pub beside : now.beside ≡ beside_after m x (log_from m k x calls) before.beside

  -- One call, with its answer, leads from the one standing to the other, of whatever account the tables show.
  abbrev pub Goes : Standing V → Call V → Option (Result (Answer V) Told) → Standing V → Type 0
  Goes before call answer now =
      (x : Account V) → Stands before x → Runs (lengths before.circuit.tables) x before (call ∷ []) (answer ∷ []) now
