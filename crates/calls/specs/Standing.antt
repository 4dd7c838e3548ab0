-- How a run stands, and what its calls leave in the tables. Assumes nothing.
use Rattle.std.specs.Prelude.{◌≡◌, Bool, true, false, cond, List, [], ◌∷◌, ◌++◌, length, drop, Some, None, Option}
use Rattle.std.specs.Option.{is_none}
use Rattle.field.specs.Laws.{Model}
use Rattle.variables.specs.declared.Variable.{Variable}
use Rattle.variables.specs.declared.Variable.TheVariants.{SymbolicLc}
use Rattle.account.specs.Given.{marks, lists}
use Rattle.account.specs.Evaluate.{filled}
use Rattle.account.specs.Rows.{last_of, Matrices}
use Rattle.account.specs.Account.{Finished, Account, Effect, writes, KeepsMatrices, is_open, added_kept, matrices_of}
use Rattle.account.specs.Calls.{Call, which_is_unsatisfied, assigned_value, finalize, Event, if_accepted, accepted_all, after, after_all}
use Rattle.account.specs.Refusals.{variable_refusal, used_terms, used_entries}
use Rattle.tables.specs.Held.{Held, State}
use Rattle.finishing.specs.Follows.{Presents}
use Rattle.matrices.specs.Writing.{over, with_matrices}
use Rattle.calls.specs.Calls.{Beside}

-- a run: its circuit, which is open or finished, and what lies beside the tables
pub record Standing (V : Type 0) : Type 0 where
  pub unfinished : Bool
  pub circuit : State V
  pub beside : Beside V

-- It stands for this account: the tables show it, and the circuit is open or finished as the account is.
pub record Stands {V : Type 0} (r : Standing V) (x : Account V) : Type 0 where
  pub phase : r.unfinished ≡ is_open x.finished
  pub shows : Presents r.circuit x

-- Past the places that an account takes, each table is as it was.
pub record FreeStays {V : Type 0} (x : Account V) (before now : Held V) : Type 0 where
  pub terms : drop (used_terms x) now.terms ≡ drop (used_terms x) before.terms
  pub index : drop (used_entries x) now.index ≡ drop (used_entries x) before.index
  pub instances : drop (length x.instances.kept) now.instances ≡ drop (length x.instances.kept) before.instances
  pub witnesses : let kept = length (x.witnesses.kept ++ added_kept x.finished) in drop kept now.witnesses ≡ drop kept before.witnesses

-- whether there are any
abbrev pub any : {X : Type 0} → List X → Bool
any [] = false
any (x ∷ xs) = true

-- the accepted writings of a log
abbrev pub writing_in : {V : Type 0} → Effect V → List (Effect V)
writing_in writes = writes ∷ []
writing_in other = []

abbrev pub accepted_writings : {V : Type 0} → List (Event V) → List (Effect V)
accepted_writings log = accepted_all writing_in log

module _ {V : Type 0} (m : Model V) where
  -- whether a call fills the work table, of an open circuit and where it is accepted: a check, and a question of a known symbol
  abbrev pub is_known_symbol : Account V → Variable → Bool
  is_known_symbol x (SymbolicLc k) = is_none (variable_refusal x.instances.count x.witnesses.count (marks x.given) (SymbolicLc k))
  is_known_symbol x other = false

  abbrev pub fills : Account V → Call V → Bool
  fills x (which_is_unsatisfied work) = true
  fills x (assigned_value work v) = is_known_symbol x v
  fills x other = false

  -- what it is filled with: a value for each list, or none
  abbrev pub filling : Option (Finished V) → Account V → Event V → List (List (Option V))
  filling None x e = if_accepted e.answer (cond (fills x e.call) (filled m x.instances.kept x.witnesses.kept (lists x.given) ∷ []) [])
  filling (Some done) x e = []

  -- what the calls of a log fill it with, from an account on and in their order
  abbrev pub fillings : Account V → List (Event V) → List (List (Option V))
  fillings x [] = []
  fillings x (e ∷ es) = filling x.finished x e ++ fillings (after m x e) es

  -- the matrices that the accepted writings of a log have written, if there were any: a finished circuit has the same ones for good
  abbrev pub written_from : Account V → List (Event V) → Option (Matrices V)
  written_from x log = let y = after_all m x log in cond (any (accepted_writings log)) (matrices_of m y y.finished) None

  -- what lies beside the tables after the calls of a log
  abbrev pub beside_after : Account V → List (Event V) → Beside V → Beside V
  beside_after x log b = record { work = over b.work (last_of [] (fillings x log)); written = with_matrices (written_from x log) b.written }

  -- the log finalises where matrices are kept, be it refused or not: only this leaves free places open
  abbrev pub Finalises : Account V → List (Event V) → Type 0
  Finalises x log =
      (past : List (Event V)) × (e : Event V) × (future : List (Event V)) × (log ≡ past ++ e ∷ future) × (e.call ≡ finalize) × KeepsMatrices (after_all m x past).mode
