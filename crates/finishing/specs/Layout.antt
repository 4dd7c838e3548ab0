-- Where finalising puts the lists: the term places and the index entries that it leaves in use. Assumes nothing.
use Rattle.std.specs.Prelude.{ℕ, ◌+◌, cond, List, [], ◌∷◌, ◌++◌, length, take}
use Rattle.field.specs.Laws.{Model}
use Rattle.variables.specs.declared.Variable.TheVariants.{One, Witness}
use Rattle.variables.specs.declared.Term.{Term}
use Rattle.variables.specs.Terms.{once}
use Rattle.account.specs.declared.Mark.{Mark}
use Rattle.account.specs.declared.Mark.TheVariants.{A, B, C}
use Rattle.account.specs.Given.{lists}
use Rattle.account.specs.Finish.{Rule, Finishing, untaken, inlined, taken}
use Rattle.account.specs.Account.{rule_of}
use Rattle.tables.specs.declared.Entry.{Entry}
use Rattle.tables.specs.Held.{State}
use Rattle.tables.specs.Sound.{given_in, entries_of, account_of}

-- an entry whose finished list lies in these places
abbrev pub with_finished : (start len : ℕ) → Entry → Entry
with_finished start len e = record e { finished_start = start; finished_len = len }

-- an entry of an added row: its list lies in these places as given and as finished
abbrev pub row_entry : Mark → (start len : ℕ) → Entry
row_entry mark start len = record { mark = mark; given_start = start; given_len = len; finished_start = start; finished_len = len }

-- the three of a row whose list A has its terms from `start` on, and whose lists B and C are the two terms behind
abbrev pub row_entries : (start len : ℕ) → List Entry
row_entries start len = row_entry A start len ∷ row_entry B (start + len) 1 ∷ row_entry C (start + len + 1) 1 ∷ []

-- what is in use so far: the terms, the entries that were taken, and those of the added rows
pub record Laid (V : Type 0) : Type 0 where
  pub terms : List (Term V)
  pub taken : List Entry
  pub rows : List Entry

module _ {V : Type 0} (m : Model V) (rule : Rule V) (w : ℕ) where
  -- One entry more, whose merged list is given. The list goes behind what is in use. Where it is outlined, so do the two terms of its row,
  -- 1 times One and 1 times the new witness, and the entry's finished list is the latter; else it is the merged list.
  abbrev pub laid_one : Finishing V → Laid V → Entry → List (Term V) → Laid V
  laid_one f d e merged =
      let start = length d.terms in
      let len = length merged in
      cond (rule (length f.finished) merged)
      (record {
        terms = d.terms ++ merged ++ once m One ∷ once m (Witness (w + length f.outlined)) ∷ [];
        taken = d.taken ++ with_finished (start + len + 1) 1 e ∷ [];
        rows = d.rows ++ row_entries start len;
      })
      (record { terms = d.terms ++ merged; taken = d.taken ++ with_finished start len e ∷ []; rows = d.rows })

  -- entries taken in their order, whose given lists lie in the places `given`
  abbrev pub laid_after : List (Term V) → Finishing V → Laid V → List Entry → Laid V
  laid_after given f d [] = d
  laid_after given f d (e ∷ es) =
      let merged = inlined m f.finished (given_in given e).terms in
      laid_after given (taken m rule w f merged) (laid_one f d e merged) es

-- all entries of a circuit, behind the terms that are in use at the start
abbrev pub laid : {V : Type 0} → Model V → State V → Laid V
laid m s =
    let x = account_of s in
    laid_after m (rule_of m x.goal (lists x.given)) x.witnesses.count s.tables.terms untaken
    (record { terms = take s.counts.terms s.tables.terms; taken = []; rows = [] }) (entries_of s)
