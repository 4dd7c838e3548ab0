-- The run that calls make, as a function of the calls and of the lengths of the lent tables. Assumes nothing.
use Rattle.std.specs.Prelude.{◌≡◌, true, cond, List, [], ◌∷◌, Some, None, Ok, Err, Option, Result}
use Rattle.field.specs.Laws.{Model}
use Rattle.variables.specs.Refusals.{Told}
use Rattle.account.specs.Account.{Account, builds, Allows, opened}
use Rattle.account.specs.Calls.{Call, Answer, Event, effect_of, answer_of, after}
use Rattle.account.specs.Refusals.{Lengths, refusal}

module _ {V : Type 0} (m : Model V) where
  -- what is due to a call: its refusal, or else its answer
  abbrev pub by_refusal : Option Told → Answer V → Result (Answer V) Told
  by_refusal None answer = Ok answer
  by_refusal (Some refusal) answer = Err refusal

  abbrev pub due : Lengths → Account V → Call V → Result (Answer V) Told
  due k x call = by_refusal (refusal m k x call) (answer_of m x call)

  -- the calls with their answers, from an account on
  abbrev pub log_from : Lengths → Account V → List (Call V) → List (Event V)
  log_from k x [] = []
  log_from k x (call ∷ calls) =
      let e : Event V = record { call = call; answer = due k x call } in
      cond (builds x (effect_of call)) (e ∷ log_from k (after m x e) calls) (log_from k x calls)

  abbrev pub log_of : Lengths → List (Call V) → List (Event V)
  log_of k calls = log_from k (opened m) calls

  -- An accepted call was one that builds and that the circuit allows, and it is answered as it should.
  abbrev pub Lawful : Account V → Call V → Result (Answer V) Told → Type 0
  Lawful x call (Ok answer) = (builds x (effect_of call) ≡ true) × Allows x (effect_of call) × (answer ≡ answer_of m x call)
  Lawful x call (Err refusal) = Unit {0}

  -- A log of such calls. Which calls are refused, and how, is left open here.
  abbrev pub Run : Account V → List (Event V) → Type 0
  Run x [] = Unit {0}
  Run x (e ∷ es) = Lawful x e.call e.answer × Run (after m x e) es
