-- What a list under work holds. Assumes nothing.
use Rattle.std.specs.Prelude.{◌≡◌, ◌+◌, ◌-◌, cond, List, ◌++◌, length, take, drop, replicate, Ok, Result, nat_le}
use Rattle.field.specs.Laws.{Model}
use Rattle.variables.specs.declared.Refusal.{Refusal}
use Rattle.variables.specs.declared.Term.{Term}
use Rattle.variables.specs.Terms.{nothing}
use Rattle.variables.specs.Refusals.{Told, answered, refused}
use Rattle.relations.specs.declared.impl_lc.LinearCombination.{LinearCombination}

-- the list: the first `len` places, which the type keeps to be no more than there are
abbrev pub listed : {V : Type 0} → LinearCombination V → List (Term V)
listed c = take c.len c.terms.now

-- what the lent places past it hold
abbrev pub spared : {V : Type 0} → LinearCombination V → List (Term V)
spared c = drop c.len c.terms.now

pub record Held (V : Type 0) : Type 0 where
  pub list : List (Term V)
  pub spare : List (Term V)

abbrev pub held : {V : Type 0} → LinearCombination V → Held V
held c = record { list = listed c; spare = spared c }

-- an answer, and what is held after it
pub record Outcome (V : Type 0) : Type 0 where
  pub answer : Result (Unit {0}) Told
  pub held : Held V

-- The list becomes ts, in the first of its places; those past it keep what they held. Where it finds no place, 19 and nothing changes.
abbrev pub put : {V : Type 0} → List (Term V) → Held V → Outcome V
put ts h =
    cond (nat_le (length ts) (length h.list + length h.spare))
    (record { answer = Ok tt; held = record { list = ts; spare = drop (length ts) (h.list ++ h.spare) } })
    (record { answer = refused 19; held = h })

-- The list becomes ts, which is no longer, and the places that it no longer needs hold zero times Zero.
abbrev pub freed : {V : Type 0} → Model V → List (Term V) → Held V → Held V
freed m ts h = record { list = ts; spare = replicate (length h.list - length ts) (nothing m) ++ h.spare }

-- What a method leaves. It works in the places that were lent, and the list becomes ts:
module _ {V : Type 0} (ts : List (Term V)) (before after : LinearCombination V) where
  -- ts is as long as the list was, and the other places stay
  pub record Changes : Type 0 where
    pub place : after.terms.ghost_name ≡ before.terms.ghost_name
    pub holds : held after ≡ record { list = ts; spare = spared before }

  -- ts is put into the places, or the answer is 19 and nothing changes
  pub record Becomes (r : Result (Unit {0}) Refusal) : Type 0 where
    pub place : after.terms.ghost_name ≡ before.terms.ghost_name
    pub does : put ts (held before) ≡ record { answer = answered r; held = held after }

-- ts is no longer than the list was, and the places between are cleared
pub record Frees {V : Type 0} (m : Model V) (ts : List (Term V)) (before after : LinearCombination V) : Type 0 where
  pub place : after.terms.ghost_name ≡ before.terms.ghost_name
  pub holds : held after ≡ freed m ts (held before)
