-- What the lent tables hold, and what is written into them. Assumes nothing.
use Rattle.std.specs.Prelude.{◌≡◌, ℕ, ◌+◌, List, ◌++◌, length, take, drop, slice_set}
use Rattle.variables.specs.declared.Term.{Term}
use Rattle.account.specs.declared.Mark.{Mark}
use Rattle.account.specs.Refusals.{Lengths, limit, capacity}
use Rattle.tables.specs.declared.Entry.{Entry}
use Rattle.tables.specs.declared.Tables.{Tables}
use Rattle.tables.specs.declared.Counts.{Counts}

-- what the four tables hold, in all their places
pub record Held (V : Type 0) : Type 0 where
  pub terms : List (Term V)
  pub index : List Entry
  pub instances : List V
  pub witnesses : List V

abbrev pub held : {V : Type 0} → Tables V → Held V
held t = record { terms = t.terms.now; index = t.index.now; instances = t.instances.now; witnesses = t.witnesses.now }

abbrev pub lengths : {V : Type 0} → Held V → Lengths
lengths h = record { terms = length h.terms; index = length h.index; instances = length h.instances; witnesses = length h.witnesses }

-- a circuit: its numbers, and what the tables hold
pub record State (V : Type 0) : Type 0 where
  pub counts : Counts
  pub tables : Held V

abbrev pub state : {V : Type 0} → Counts → Tables V → State V
state c t = record { counts = c; tables = held t }

-- the places of a table that count, and how many there are
abbrev pub counted : {X : Type 0} → List X → List X
counted xs = take limit xs

abbrev pub room : {X : Type 0} → List X → ℕ
room xs = capacity (length xs)

-- a table with ys in its places from k on
abbrev pub put : {X : Type 0} → List X → ℕ → List X → List X
put xs k ys = take k xs ++ ys ++ drop (k + length ys) xs

-- an entry as it is made for a given list: nothing is finished
abbrev pub entry : Mark → (start len : ℕ) → Entry
entry mark start len = record { mark = mark; given_start = start; given_len = len; finished_start = 0; finished_len = 0 }

-- one list more: it lies in the next free term places, and the next free entry has its mark and says where it lies
abbrev pub with_list : {V : Type 0} → Mark → List (Term V) → State V → State V
with_list mark ts s = record {
  counts = record s.counts { entries = s.counts.entries + 1; terms = s.counts.terms + length ts };
  tables = record s.tables {
    terms = put s.tables.terms s.counts.terms ts;
    index = slice_set s.tables.index s.counts.entries (entry mark s.counts.terms (length ts));
  };
}

-- these are the slices that were lent
pub record SamePlaces {V : Type 0} (before after : Tables V) : Type 0 where
  pub terms : after.terms.ghost_name ≡ before.terms.ghost_name
  pub index : after.index.ghost_name ≡ before.index.ghost_name
  pub instances : after.instances.ghost_name ≡ before.instances.ghost_name
  pub witnesses : after.witnesses.ghost_name ≡ before.witnesses.ghost_name

-- a table keeps its length, and the places past those that count
pub record StaysBeyond {X : Type 0} (before after : List X) : Type 0 where
  pub length : length after ≡ length before
  pub beyond : drop limit after ≡ drop limit before

-- the tables keep their lengths, and the places past those that count stay
pub record KeepsBeyond {V : Type 0} (before after : Held V) : Type 0 where
  pub terms : StaysBeyond before.terms after.terms
  pub index : StaysBeyond before.index after.index
  pub instances : StaysBeyond before.instances after.instances
  pub witnesses : StaysBeyond before.witnesses after.witnesses
