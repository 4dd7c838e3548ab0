-- What the functions around the steps ask for and leave. Assumes nothing.
use Rattle.std.specs.Prelude.{◌≡◌, ◌≤◌, true, List, map, length, take, Ok, Err, Result}
use Rattle.std.specs.List.{list_all}
use Rattle.field.specs.Laws.{Model}
use Rattle.variables.specs.declared.Term.{Term}
use Rattle.variables.specs.declared.Refusal.{Refusal}
use Rattle.account.specs.Given.{lists}
use Rattle.account.specs.Refusals.{limit}
use Rattle.tables.specs.declared.Counts.{Counts}
use Rattle.tables.specs.declared.Entry.{Entry}
use Rattle.tables.specs.Held.{State, counted, room, StaysBeyond}
use Rattle.tables.specs.Sound.{given_in, span_fits}
use Rattle.finishing.specs.Steps.{Picks, places_of, started, trimmed, next_entries}
use Rattle.finalising.specs.Lent.{lent, gives, EachBelow, KeepsUsed}

-- the numbers after finalising
abbrev pub counts_after : Counts → Result Counts Refusal → Counts
counts_after before (Ok c) = c
counts_after before (Err e) = before

module _ {V : Type 0} where
  -- what finalising asks of the places that count
  pub record Finishable (s : State V) : Type 0 where
    pub terms : s.counts.terms ≤ length s.tables.terms
    pub few_terms : length s.tables.terms ≤ limit
    pub index : s.counts.entries ≤ length s.tables.index
    pub few_entries : length s.tables.index ≤ limit
    pub constraints : s.counts.constraints ≤ s.counts.entries
    pub given : list_all (span_fits s.counts.terms) (take s.counts.entries s.tables.index) ≡ true
    pub known : EachBelow 0 (lists (map (given_in s.tables.terms) (take s.counts.entries s.tables.index)))

module _ {V : Type 0} (m : Model V) (picks : Picks V) where
  -- the steps over the places that count, and what they leave of the lent tables
  pub record FinishedBy (s : State V) (answer : Result Counts Refusal) (terms : List (Term V)) (index : List Entry) (witnesses : List V) : Type 0 where
    pub steps : next_entries m picks (room s.tables.terms) 0 s.counts.entries (started (places_of s))
        ≡ gives (λ c. trimmed (lent c (counted terms) (counted index) (take s.counts.instances (counted s.tables.instances)) (counted witnesses))) answer
    pub kept : KeepsUsed (places_of s) (lent s.counts (counted terms) (counted index) (take s.counts.instances (counted s.tables.instances)) (counted witnesses))
    pub beyond_terms : StaysBeyond s.tables.terms terms
    pub beyond_index : StaysBeyond s.tables.index index
    pub beyond_witnesses : StaysBeyond s.tables.witnesses witnesses
