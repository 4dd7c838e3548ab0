-- Finalising an open circuit over lent tables: when it is refused, and what it leaves. Assumes nothing.
use Rattle.std.specs.Prelude.{◌≡◌, ℕ, ◌+◌, ◌*◌, List, [], ◌∷◌, ◌++◌, map, length, take, Some, None, Option, Result}
use Rattle.std.specs.Result.{result_err}
use Rattle.field.specs.Laws.{Model}
use Rattle.variables.specs.Refusals.{Told}
use Rattle.account.specs.Given.{lists}
use Rattle.account.specs.Finish.{Stage, untaken, finish_within}
use Rattle.account.specs.Account.{KeepsMatrices, KeepsValues, rule_of, finish_of, made_in}
use Rattle.account.specs.Refusals.{first, unless_bare, room_of, start_of}
use Rattle.tables.specs.declared.Counts.{Counts}
use Rattle.tables.specs.declared.Entry.{Entry}
use Rattle.tables.specs.Held.{State, lengths}
use Rattle.tables.specs.Sound.{account_of, entries_of}
use Rattle.tables.specs.Calls.{unsound}
use Rattle.finishing.specs.Layout.{with_finished, laid}
use Rattle.finishing.specs.Sound.{witnesses_of}

-- an entry without its finished columns
abbrev pub as_given : Entry → Entry
as_given e = with_finished 0 0 e

-- What a refusal leaves: the circuit and every place in use as they were. The finished columns of an open circuit are free.
pub record Unfinished {V : Type 0} (before after : State V) : Type 0 where
  pub counts : after.counts ≡ before.counts
  pub terms : take before.counts.terms after.tables.terms ≡ take before.counts.terms before.tables.terms
  pub index : map as_given (entries_of after) ≡ map as_given (entries_of before)
  pub instances : after.tables.instances ≡ before.tables.instances
  pub witnesses : take before.counts.witnesses after.tables.witnesses ≡ take before.counts.witnesses before.tables.witnesses
  pub setup : (KeepsValues before.counts.mode → ⊥) → after.tables.witnesses ≡ before.tables.witnesses

module _ {V : Type 0} (m : Model V) where
  -- the steps within the places that there are
  abbrev pub stages_in : State V → Result (Stage V) Told
  stages_in s =
      let x = account_of s in
      finish_within m (rule_of m x.goal (lists x.given)) (room_of (lengths s.tables) x) (start_of x) (record { lists = untaken; used = s.counts.terms }) (lists x.given)

  -- the tests in their order: 17, and then, unless bare, 14, 12 or 13 at the first step that does not find its places
  abbrev pub finalize_tests : State V → List (Option Told)
  finalize_tests s = unsound s ∷ unless_bare s.counts.mode (result_err (stages_in s)) ∷ []

  -- how many lists are outlined
  abbrev pub outlined_in : State V → ℕ
  outlined_in s = length (finish_of m (account_of s)).outlined

  -- the numbers of the finished circuit: a witness, a constraint and three entries more for each list that is outlined
  abbrev pub finished_counts : State V → Counts
  finished_counts s = record s.counts {
    witnesses = s.counts.witnesses + outlined_in s;
    constraints = s.counts.constraints + outlined_in s;
    entries = s.counts.entries + 3 * outlined_in s;
    terms = length (laid m s).terms;
  }

  -- What accepted finalising leaves in use, where matrices are kept. What is free may hold anything.
  pub record Finalised (before after : State V) : Type 0 where
    pub counts : after.counts ≡ finished_counts before
    pub terms : take after.counts.terms after.tables.terms ≡ (laid m before).terms
    pub index : take after.counts.entries after.tables.index ≡ (laid m before).taken ++ (laid m before).rows
    pub instances : after.tables.instances ≡ before.tables.instances
    -- the kept values stay, and behind them come those of the added witnesses; Setup keeps none, and writes none
    pub witnesses : let x = account_of before in witnesses_of after ≡ x.witnesses.kept ++ (made_in m x.mode x).added
    pub setup : (KeepsValues before.counts.mode → ⊥) → after.tables.witnesses ≡ before.tables.witnesses

  -- Finalising with this refusal, or none, and what it leaves.
  pub record Finalises (before : State V) (refusal : Option Told) (after : State V) : Type 0 where
    pub refuses : refusal ≡ first (finalize_tests before)
    pub accepted : KeepsMatrices before.counts.mode → refusal ≡ None → Finalised before after
    pub refused : (r : Told) → refusal ≡ Some r → Unfinished before after
    -- bare finalising, and one over tables that are not sound, leave all as it was
    pub bare : (KeepsMatrices before.counts.mode → ⊥) → after ≡ before
    pub not_sound : (r : Told) → unsound before ≡ Some r → after ≡ before
