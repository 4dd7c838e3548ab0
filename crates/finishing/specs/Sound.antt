-- When lent tables are sound for a finished circuit, and what they hold. Assumes nothing.
use Rattle.std.specs.Prelude.{ℕ, ◌+◌, ◌≤◌, Bool, true, false, cond, not, ◌&&◌, List, [], map, take, drop, nat_lt}
use Rattle.std.specs.List.{list_all, AllByRecursion}
use Rattle.variables.specs.declared.Variable.{Variable}
use Rattle.variables.specs.declared.Variable.TheVariants.{Zero, One, Instance, Witness, SymbolicLc}
use Rattle.variables.specs.declared.Term.{Term}
use Rattle.variables.specs.Evaluate.{SymbolFree}
use Rattle.account.specs.Finish.{lacks}
use Rattle.account.specs.Rows.{Row, rows}
use Rattle.account.specs.Account.{KeepsMatrices}
use Rattle.tables.specs.declared.Entry.{Entry}
use Rattle.tables.specs.Held.{State, counted}
use Rattle.tables.specs.Sound.{entries_of, marks_of, kept_instances, kept_witnesses, sound, SoundTables}
use Rattle.tables.specs.Calls.{keeps_matrices}

-- an entry's finished list
abbrev pub finished_in : {V : Type 0} → List (Term V) → Entry → List (Term V)
finished_in terms e = take e.finished_len (drop e.finished_start terms)

-- whether it lies in the used terms
abbrev pub finished_fits : ℕ → Entry → Bool
finished_fits used e = not (lacks (e.finished_start + e.finished_len) used)

-- whether a finished list may name a variable: it is no symbol, and below its count
abbrev pub is_symbol_free : (n w : ℕ) → Variable → Bool
is_symbol_free n w Zero = true
is_symbol_free n w One = true
is_symbol_free n w (Instance i) = nat_lt i n
is_symbol_free n w (Witness i) = nat_lt i w
is_symbol_free n w (SymbolicLc k) = false

abbrev pub all_symbol_free : {V : Type 0} → (n w : ℕ) → List (Term V) → Bool
all_symbol_free n w ts = list_all (λ t. is_symbol_free n w t.variable) ts

module _ {V : Type 0} where
  -- the finished lists of all entries in use, and the rows that they make
  abbrev pub finished_of : State V → List (List (Term V))
  finished_of s = map (finished_in s.tables.terms) (entries_of s)

  abbrev pub rows_of : State V → List (Row (List (Term V)))
  rows_of s = rows [] (marks_of s) (finished_of s)

  -- the values that are kept
  abbrev pub instances_of : State V → List V
  instances_of s = kept_instances s.counts.mode s.counts.instances (counted s.tables.instances)

  abbrev pub witnesses_of : State V → List V
  witnesses_of s = kept_witnesses s.counts.mode s.counts.witnesses (counted s.tables.witnesses)

  -- whether the finished lists lie in the used terms and name only what they may
  abbrev pub lists_finished : State V → Bool
  lists_finished s =
      list_all (finished_fits s.counts.terms) (entries_of s)
      && list_all (all_symbol_free s.counts.instances s.counts.witnesses) (finished_of s)

  -- whether the tables are sound for the finished circuit: as they are for an open one, the lists of the added rows being given too; and
  -- where matrices are kept, so are the finished lists
  unfoldable pub sound_finished : State V → Bool
  sound_finished s = sound s && cond (keeps_matrices s.counts.mode) (lists_finished s) true

  -- they are, exactly where:
  pub record SoundFinished (s : State V) : Type 0 where
    -- they are as for an open circuit;
    pub given : SoundTables s
    -- where matrices are kept, every finished list lies in the used terms, and names no symbol and only what is known.
    pub spans : KeepsMatrices s.counts.mode → AllByRecursion (λ e. e.finished_start + e.finished_len ≤ s.counts.terms) (entries_of s)
    pub symbol_free : KeepsMatrices s.counts.mode
        → AllByRecursion (λ ts. AllByRecursion (λ t. SymbolFree s.counts.instances s.counts.witnesses t.variable) ts) (finished_of s)
