-- The places that count of the lent tables, as the steps of finalising are handed them. Assumes nothing.
use Rattle.std.specs.Prelude.{◌≡◌, ℕ, suc, ◌+◌, ◌≤◌, true, List, [], ◌∷◌, map, length, take, Ok, Err, Option, Result}
use Rattle.std.specs.List.{list_all}
use Rattle.variables.specs.declared.Term.{Term}
use Rattle.variables.specs.declared.Refusal.{Refusal}
use Rattle.variables.specs.Refusals.{Told, told}
use Rattle.account.specs.Refusals.{limit, when, value_places}
use Rattle.account.specs.Finish.{lacks}
use Rattle.account.specs.Account.{KeepsValues}
use Rattle.account.specs.Given.{lists}
use Rattle.tables.specs.declared.Counts.{Counts}
use Rattle.tables.specs.declared.Entry.{Entry}
use Rattle.tables.specs.Held.{State}
use Rattle.tables.specs.Sound.{given_in, span_fits}
use Rattle.finishing.specs.Sound.{finished_fits}
use Rattle.finishing.specs.Finalising.{as_given}
use Rattle.finalising.specs.Uses.{AllBelow}

-- what a step answers, with what it leaves where it is accepted
abbrev pub gives : {X S : Type 0} → (X → S) → Result X Refusal → Result S Told
gives leaves (Ok x) = Ok (leaves x)
gives leaves (Err e) = Err (told e)

module _ {V : Type 0} where
  -- a circuit over these places
  abbrev pub lent : Counts → List (Term V) → List Entry → (instances witnesses : List V) → State V
  lent c terms index instances witnesses = record { counts = c; tables = record { terms = terms; index = index; instances = instances; witnesses = witnesses } }

  -- lists that each name only symbols below their own number, from k on
  abbrev pub EachBelow : ℕ → List (List (Term V)) → Type 0
  EachBelow k [] = Unit {0}
  EachBelow k (l ∷ ls) = AllBelow k l × EachBelow (suc k) ls

  -- what the steps ask for, where so many entries, the first ones, are to be taken and those below `at` are
  pub record Ready (first at : ℕ) (s : State V) : Type 0 where
    pub terms : s.counts.terms ≤ length s.tables.terms
    pub few_terms : length s.tables.terms ≤ limit
    pub index : s.counts.entries ≤ length s.tables.index
    pub few_entries : length s.tables.index ≤ limit
    pub entries : first ≤ s.counts.entries
    pub constraints : s.counts.constraints ≤ s.counts.entries
    pub given : list_all (span_fits s.counts.terms) (take first s.tables.index) ≡ true
    pub known : EachBelow 0 (lists (map (given_in s.tables.terms) (take first s.tables.index)))
    pub finished : list_all (finished_fits s.counts.terms) (take at s.tables.index) ≡ true

  -- What was in use stays: the terms, the marks and given columns of the entries, and the values; Setup writes no value. The tables are as
  -- long as they were.
  pub record KeepsUsed (before after : State V) : Type 0 where
    pub terms : take before.counts.terms after.tables.terms ≡ take before.counts.terms before.tables.terms
    pub index : map as_given (take before.counts.entries after.tables.index) ≡ map as_given (take before.counts.entries before.tables.index)
    pub witnesses : take before.counts.witnesses after.tables.witnesses ≡ take before.counts.witnesses before.tables.witnesses
    pub setup : (KeepsValues before.counts.mode → ⊥) → after.tables.witnesses ≡ before.tables.witnesses
    pub long_terms : length after.tables.terms ≡ length before.tables.terms
    pub long_index : length after.tables.index ≡ length before.tables.index
    pub long_witnesses : length after.tables.witnesses ≡ length before.tables.witnesses

-- the tests of an added row, whose list A ends at `end`, in tables of these lengths: two term places, a witness and three entries
abbrev pub row_tests : Counts → (end terms entries witnesses : ℕ) → List (Option Told)
row_tests c end terms entries witnesses =
    when (lacks (end + 2) terms) 14 ∷ when (lacks (c.witnesses + 1) (value_places c.mode witnesses)) 12 ∷ when (lacks (c.entries + 3) entries) 13 ∷ []
