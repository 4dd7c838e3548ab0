-- Finalising step by step over what is in use, for the functions that take the steps. Assumes nothing.
use Rattle.std.specs.Prelude.{◌≡◌, Err, ℕ, suc, ◌+◌, Bool, cond, List, [], ◌∷◌, ◌++◌, map, length, take, drop, Some, Ok, Option, Result, slice_index_or, slice_set}
use Rattle.field.specs.Laws.{Model}
use Rattle.variables.specs.declared.Variable.TheVariants.{One, Witness}
use Rattle.variables.specs.declared.Term.{Term}
use Rattle.variables.specs.Refusals.{Told}
use Rattle.variables.specs.Terms.{once}
use Rattle.variables.specs.Evaluate.{read, evaluated}
use Rattle.account.specs.declared.Mark.TheVariants.{Plain}
use Rattle.account.specs.declared.SynthesisMode.{SynthesisMode}
use Rattle.account.specs.declared.SynthesisMode.TheVariants.{Prove}
use Rattle.account.specs.Account.{KeepsValues, made_in}
use Rattle.account.specs.Finish.{Rule, Stage, uses, lacks, unless, and_then, expanded, inlined}
use Rattle.account.specs.Given.{lists}
use Rattle.account.specs.Refusals.{value_places}
use Rattle.tables.specs.declared.Entry.{Entry}
use Rattle.tables.specs.Held.{State, put, entry, counted, room}
use Rattle.tables.specs.Sound.{given_in, account_of}
use Rattle.finishing.specs.Layout.{with_finished, row_entries, laid}
use Rattle.finishing.specs.Finalising.{stages_in, finished_counts}
use Rattle.finishing.specs.Sound.{finished_in}

-- which lists are picked to be outlined, by their uses and their merged lists
abbrev pub Picks : Type 0 → Type 0
Picks V = ℕ → List (Term V) → Bool

-- the rule that picks so, for these lists
abbrev pub by_uses : {V : Type 0} → Picks V → List (List (Term V)) → Rule V
by_uses picks lists entry merged = picks (uses lists entry) merged

-- entries, from number k on, whose uses stand in their finished lengths
abbrev pub with_uses : {V : Type 0} → List (List (Term V)) → ℕ → List Entry → List Entry
with_uses lists k [] = []
with_uses lists k (e ∷ es) = with_finished 0 (uses lists k) e ∷ with_uses lists (suc k) es

-- a circuit's tables with no more of the terms than what is in use
abbrev pub trimmed : {V : Type 0} → State V → State V
trimmed s = record s { tables = record s.tables { terms = take s.counts.terms s.tables.terms } }

abbrev pub entry_at : {V : Type 0} → State V → ℕ → Entry
entry_at s at = slice_index_or s.tables.index at (entry Plain 0 0)

-- the value of an added witness lies at its number, where values are kept
abbrev pub with_added : {V : Type 0} → SynthesisMode → Option V → ℕ → List V → List V
with_added (Prove matrices) (Some v) k values = slice_set values k v
with_added mode value k values = values

-- The merged list is in use, and is the finished list of the entry.
abbrev pub kept_at : {V : Type 0} → State V → ℕ → List (Term V) → State V
kept_at s at merged = record {
  counts = record s.counts { terms = s.counts.terms + length merged };
  tables = record s.tables {
    terms = s.tables.terms ++ merged;
    index = slice_set s.tables.index at (with_finished s.counts.terms (length merged) (entry_at s at));
  };
}

module _ {V : Type 0} (m : Model V) where
  -- what the merged list is worked out to at the values so far
  abbrev pub worth_of : State V → List (Term V) → Option V
  worth_of s merged = evaluated m (read m s.tables.instances (take s.counts.witnesses s.tables.witnesses) []) merged

  -- The merged list is in use, and stands as A of a new row; behind it stand B and C, the one times One and the other times the new
  -- witness, and C is the finished list of the entry.
  abbrev pub outlined_at : State V → ℕ → List (Term V) → State V
  outlined_at s at merged =
      let start = s.counts.terms in
      let len = length merged in
      record {
        counts = record s.counts {
          witnesses = s.counts.witnesses + 1;
          constraints = s.counts.constraints + 1;
          entries = s.counts.entries + 3;
          terms = start + len + 2;
        };
        tables = record s.tables {
          terms = s.tables.terms ++ merged ++ once m One ∷ once m (Witness s.counts.witnesses) ∷ [];
          index = put (slice_set s.tables.index at (with_finished (start + len + 1) 1 (entry_at s at))) s.counts.entries (row_entries start len);
          witnesses = with_added s.counts.mode (worth_of s merged) s.counts.witnesses s.tables.witnesses;
        };
      }

  -- An entry's list written out and merged, by what is in use. The entry's uses stand in its finished length.
  abbrev pub finished_before : State V → ℕ → List (List (Term V))
  finished_before s at = map (finished_in s.tables.terms) (take at s.tables.index)

  abbrev pub expanded_at : State V → ℕ → List (Term V)
  expanded_at s at = expanded m (finished_before s at) (given_in s.tables.terms (entry_at s at)).terms

  abbrev pub merged_at : State V → ℕ → List (Term V)
  merged_at s at = inlined m (finished_before s at) (given_in s.tables.terms (entry_at s at)).terms

  module _ (picks : Picks V) (room : ℕ) where
    -- one entry taken, within so many term places
    abbrev pub settle_at : State V → ℕ → List (Term V) → Result (State V) Told
    settle_at s at merged =
        cond (picks (entry_at s at).finished_len merged)
        (unless (lacks (s.counts.terms + length merged + 2) room) 14
        (unless (lacks (s.counts.witnesses + 1) (value_places s.counts.mode (length s.tables.witnesses))) 12
        (unless (lacks (s.counts.entries + 3) (length s.tables.index)) 13
        (Ok (outlined_at s at merged)))))
        (Ok (kept_at s at merged))

    unfoldable pub next_entry : ℕ → State V → Result (State V) Told
    next_entry at s = unless (lacks (s.counts.terms + length (expanded_at s at)) room) 14 (settle_at s at (merged_at s at))

    -- n entries taken in their order, from number `at` on
    abbrev pub next_entries : (at n : ℕ) → State V → Result (State V) Told
    next_entries at ℕ.zero s = Ok s
    next_entries at (suc n) s = and_then (next_entry at s) (λ next. next_entries (suc at) n next)

-- a circuit's tables as the steps begin: of the terms what is in use, and the uses counted into the index
abbrev pub started : {V : Type 0} → State V → State V
started s =
    let es = take s.counts.entries s.tables.index in
    trimmed (record s { tables = record s.tables { index = with_uses (lists (map (given_in s.tables.terms) es)) 0 es ++ drop s.counts.entries s.tables.index } })

-- the places of the tables that count; of the instances, those in use
abbrev pub places_of : {V : Type 0} → State V → State V
places_of s = record s {
  tables = record {
    terms = counted s.tables.terms;
    index = counted s.tables.index;
    instances = take s.counts.instances (counted s.tables.instances);
    witnesses = counted s.tables.witnesses;
  };
}

module _ {V : Type 0} (m : Model V) where
  -- What the steps come to where none is refused: those of the definition over lists, and what is due in use.
  pub record Comes (s t : State V) : Type 0 where
    pub end : Stage V
    pub is : stages_in m s ≡ Ok end
    pub counts : t.counts ≡ finished_counts m s
    pub terms : t.tables.terms ≡ (laid m s).terms
    pub index : take t.counts.entries t.tables.index ≡ (laid m s).taken ++ (laid m s).rows
    pub witnesses : KeepsValues s.counts.mode → let x = account_of s in take t.counts.witnesses t.tables.witnesses ≡ x.witnesses.kept ++ (made_in m x.mode x).added
    pub setup : (KeepsValues s.counts.mode → ⊥) → t.tables.witnesses ≡ counted s.tables.witnesses

  -- the steps over sound tables, by a way to pick that is the goal's
  abbrev pub stepping : Picks V → State V → Result (State V) Told
  stepping picks s = next_entries m picks (room s.tables.terms) 0 s.counts.entries (started (places_of s))

  pub record StepsCome (picks : Picks V) (s : State V) : Type 0 where
    pub accepted : (t : State V) → stepping picks s ≡ Ok t → Comes s t
    pub refused : (r : Told) → stepping picks s ≡ Err r → stages_in m s ≡ Err r
