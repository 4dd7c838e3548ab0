-- From what a function ensures of its answer and of what it leaves to what is said of its call. Assumes nothing.
use Rattle.std.proofs.Common.{◌≡◌, List, Ok, Err, Option, Result, refl, ap, subst}
use Rattle.field.specs.Laws.{Model}
use Rattle.variables.specs.declared.Refusal.{Refusal}
use Rattle.variables.specs.Refusals.{Told, answered}
use Rattle.account.specs.Calls.{Call, Answer}
use Rattle.tables.specs.Held.{State, KeepsBeyond}
use Rattle.tables.specs.Calls.{Outcome}
use Rattle.tables.specs.Follows.{answer_by, answer_as, Follows}

-- an answer whose refusal is told
pub answer_told : {V X : Type 0} (f : X → Answer V) (r : Result X Refusal) → answer_as f (answered r) ≡ answer_by f r
answer_told f (Ok x) = refl
answer_told f (Err e) = refl

module _ {V X : Type 0} (m : Model V) (call : Call V) (f : X → Answer V) where
  follows_told : (answer : Result X Told) (r : Result X Refusal) (s t : State V) → answer ≡ answered r → Follows m call (answer_as f answer) s t
      → Follows m call (answer_by f r) s t
  follows_told answer r s t e h = subst (λ a. Follows m call a s t) (answer_told f r) (subst (λ a. Follows m call (answer_as f a) s t) e h)

  -- of a call that changes the tables
  pub follows_by_outcome : (o : Outcome (State V) X) (r : Result X Refusal) (s t : State V) → o ≡ record { answer = answered r; state = t }
      → Follows m call (answer_as f o.answer) s o.state → Follows m call (answer_by f r) s t
  follows_by_outcome o r s t e h = follows_told (answered r) r s t refl (subst (λ (z : Outcome (State V) X). Follows m call (answer_as f z.answer) s z.state) e h)

  -- of one that changes no more than a work table
  pub follows_by_work : (o : Outcome (List (Option V)) X) (r : Result X Refusal) (s : State V) (w : List (Option V)) → o ≡ record { answer = answered r; state = w }
      → Follows m call (answer_as f o.answer) s s → Follows m call (answer_by f r) s s
  follows_by_work o r s w e h = follows_told o.answer r s s (ap (λ (z : Outcome (List (Option V)) X). z.answer) e) h

-- what it leaves beyond the places that count
pub keeps_by_outcome : {V X : Type 0} (o : Outcome (State V) X) (a : Result X Told) (s t : State V) → o ≡ record { answer = a; state = t } → KeepsBeyond s.tables o.state.tables
    → KeepsBeyond s.tables t.tables
keeps_by_outcome {V} {X} o a s t e h = subst (λ (z : Outcome (State V) X). KeepsBeyond s.tables z.state.tables) e h
