-- What tables that are sound for a finished circuit give to one who writes its matrices. Assumes nothing.
use Rattle.std.proofs.Common.{◌≡◌, ℕ, ◌+◌, ◌*◌, ◌<◌, ◌≤◌, true, false, cond, not, List, [], ◌∷◌, ◌++◌, map, length, get_or, take, Some, None, Ok, Err, Option, Result, Bor, sym, refl, ap, ap₂, ◌∙◌, subst, subst₂, arith}
use Rattle.std.specs.Prelude.{◌^◌, nat_lt}
use mathlib.Core.List.{map-map}
use lib.ListN.{length-map}
use Rattle.std.specs.List.{list_all, AllByRecursion}
use Rattle.std.specs.Option.{option_map}
use Rattle.std.proofs.ByRecursion.{All-weaker}
use Rattle.std.proofs.lemmas.Bool.{and_parts, true≢false, lt-ltb, cond-true}
use Rattle.std.proofs.lemmas.List.{take-take}
use Rattle.field.specs.Laws.{Model}
use Rattle.variables.specs.declared.Variable.{Variable}
use Rattle.variables.specs.declared.Variable.TheVariants.{Zero, One, Instance, Witness, SymbolicLc}
use Rattle.variables.specs.declared.Term.{Term}
use Rattle.variables.specs.Evaluate.{SymbolFree}
use Rattle.variables.specs.Questions.{column, column_of}
use Rattle.variables.specs.Refusals.{Told}
use Rattle.account.specs.declared.SynthesisMode.{SynthesisMode}
use Rattle.account.specs.declared.SynthesisMode.TheVariants.{Setup, Prove}
use Rattle.account.specs.Rows.{Row, Cell, Matrices, row_at, starts_from, cells, concatenated, ends_from, matrices}
use Rattle.account.specs.Refusals.{limit, when, first, writing_refusal}
use Rattle.account.proofs.Lists.{all_unmap}
use Rattle.account.proofs.SoundLists.{many_constraints}
use Rattle.tables.specs.declared.Entry.{Entry}
use Rattle.tables.specs.Held.{State, counted}
use Rattle.tables.specs.Sound.{entries_of, marks_of, given_of, sound}
use Rattle.tables.specs.Calls.{Outcome, outcome, keeps_matrices}
use Rattle.tables.proofs.Puts.{counted_long}
use Rattle.tables.proofs.Holds.{same_marks}
use Rattle.finishing.specs.Sound.{finished_in, finished_fits, finished_of, rows_of, lists_finished, sound_finished, SoundFinished}
use Rattle.finishing.proofs.Parts.{finished_same}
use Rattle.finishing.proofs.SoundWhen.{sound_finished_when}
use Rattle.finalising.proofs.Begins.{matrices_kept}
use Rattle.matrices.specs.declared.ConstraintMatrices.{ConstraintMatrices}
use Rattle.matrices.specs.Writing.{Lent, counts_of, with_matrices, matrices_at, writing}
use Rattle.writing.specs.declared.lists.FinishedLists.{FinishedLists}
use Rattle.writing.specs.Lists.{HasColumn, HaveColumns, Lie, Counted, found, matrix_lists, rows_cells, matrices_from, fits_in}

-- a variable that is no symbol has a column of 64 bits, where variables are few
module _ (n w : ℕ) (few : n + w ≤ 2 * limit) where
  word : (j : ℕ) → j < 2 ^ 64 → cond (nat_lt j (2 ^ 64)) (Some j) None ≡ Some j
  word j lt = cond-true (nat_lt j (2 ^ 64)) (Some j) None (lt-ltb j (2 ^ 64) lt)

  has_column : (v : Variable) → SymbolFree n w v → column_of n v ≡ column n v
  has_column Zero h = refl
  has_column One h = word 0 (omega arith)
  has_column (Instance i) h = word i (omega arith)
  has_column (Witness i) h = word (n + i) (omega arith)
  has_column (SymbolicLc k) h = absurd h

module _ {V : Type 0} (m : Model V) (s : State V) where
  abbrev w : Matrices V
  w = matrices m s.counts.instances s.counts.witnesses (rows_of s)

  -- where matrices are kept they are written
  written_here : (mode : SynthesisMode) → keeps_matrices mode ≡ true → matrices_at m s mode ≡ Some w
  written_here Setup k = refl
  written_here (Prove true) k = refl
  written_here (Prove false) k = absurd (true≢false (sym k))

module _ {V : Type 0} (m : Model V) (s : State V) (fine : sound_finished s ≡ true) (kept : keeps_matrices s.counts.mode ≡ true) where
  abbrev n : ℕ
  n = s.counts.instances

  abbrev terms : List (Term V)
  terms = take s.counts.terms (counted s.tables.terms)

  abbrev es : List Entry
  es = entries_of s

  holds : SoundFinished s
  holds = (sound_finished_when s).0 fine

  terms_long : length terms ≡ s.counts.terms
  terms_long = counted_long s.tables.terms s.counts.terms holds.given.terms

  -- the finished lists, which lie in the terms in use
  lists_same : map (finished_in terms) es ≡ finished_of s
  lists_same =
      let c = s.counts.terms in
      let few : c ≤ limit = omega (arith, holds.given.terms) in
      let front : take c terms ≡ take c s.tables.terms
      = take-take c c (counted s.tables.terms) (omega arith) ∙ take-take c limit s.tables.terms few in
      finished_same c terms s.tables.terms front es (holds.spans (matrices_kept s.counts.mode kept))

  spans : list_all (finished_fits s.counts.terms) es ≡ true
  unfolding sound_finished
  spans =
      let parts = and_parts (sound s) _ fine in
      let lists : lists_finished s ≡ true = ap (λ b. cond b (lists_finished s) true) (sym kept) ∙ parts.1 in
      (and_parts (list_all (finished_fits s.counts.terms) es) _ lists).0

  columns : Counted s.counts → AllByRecursion (λ e. HaveColumns n (finished_in terms e)) es
  columns few =
      let few_variables : n + s.counts.witnesses ≤ 2 * limit = omega (arith, few.instances, few.witnesses) in
      let Free : List (Term V) → Type 0 = AllByRecursion (λ t. SymbolFree n s.counts.witnesses t.variable) in
      let free = subst (AllByRecursion Free) (sym lists_same) (holds.symbol_free (matrices_kept s.counts.mode kept)) in
      All-weaker (λ e. Free (finished_in terms e)) (λ e. HaveColumns n (finished_in terms e))
      (λ e. All-weaker _ (HasColumn n) (λ t. has_column n s.counts.witnesses few_variables t.variable) (finished_in terms e))
      es (all_unmap Free (finished_in terms) es free)

  -- so they lie as a writing asks
  pub lie : Counted s.counts → (ts : List (Term V)) (us : List Entry) → ts ≡ terms → us ≡ es → Lie n ts us
  lie few ts us t u =
      subst₂ (Lie n) (sym t) (sym u) (record {
        spans = ap (λ k. list_all (finished_fits k) es) terms_long ∙ spans;
        columns = columns few;
        terms_few = omega (arith, terms_long, holds.given.terms);
        entries_few = omega (arith, counted_long s.tables.index s.counts.entries holds.given.entries, holds.given.entries);
      })

  -- the lists that are handed on
  module _ (ts : Bor (List (Term V))) (us : Bor (List Entry)) (t : ts.now ≡ terms) (u : us.now ≡ es) where
    abbrev l : FinishedLists V
    l = record { terms = ts; entries = us; witness_offset = n }

    starts_same : starts_from 0 (map (λ e. e.mark) us.now) ≡ starts_from 0 (marks_of s)
    starts_same = ap (λ es. starts_from 0 (map (λ (e : Entry). e.mark) es)) u

    -- a row for each constraint
    pub many_rows : length (matrix_lists l 0) ≡ s.counts.constraints
    many_rows =
        length-map (starts_from 0 (map (λ e. e.mark) us.now)) (λ k. get_or (found l) (k + 0) []) ∙ ap length starts_same
        ∙ ap (λ ms. length (starts_from 0 ms)) (same_marks s) ∙ sym (many_constraints (given_of s))
        ∙ holds.given.lists.triples (matrices_kept s.counts.mode kept)

    found_same : found l ≡ finished_of s
    found_same = ap₂ (λ xs es. map (finished_in xs) es) t u ∙ lists_same

    -- the cells of a list of each row
    rows_same : (behind : ℕ) → rows_cells m l behind ≡ map (λ k. cells m n (get_or (finished_of s) (k + behind) [])) (starts_from 0 (marks_of s))
    rows_same behind =
        map-map (cells m n) (λ k. get_or (found l) (k + behind) []) (starts_from 0 (map (λ e. e.mark) us.now))
        ∙ (λ i. map (λ k. cells m n (get_or (found_same i) (k + behind) [])) (starts_same i))

    none_behind : (k : ℕ) → k + 0 ≡ k
    none_behind k = omega arith

    abbrev column_cells : (Row (List (Term V)) → List (Term V)) → List (List (Cell V))
    column_cells f = map (λ r. cells m n (f r)) (rows_of s)

    column_same : (f : Row (List (Term V)) → List (Term V))
        → column_cells f ≡ map (λ k. cells m n (f (row_at [] (finished_of s) k))) (starts_from 0 (marks_of s))
    column_same f = map-map (λ r. cells m n (f r)) (row_at [] (finished_of s)) (starts_from 0 (marks_of s))

    -- the matrices of all rows are those of the rows in the tables
    same : matrices_from m l s.counts ≡ w m s
    same =
        let a : rows_cells m l 0 ≡ column_cells (λ r. r.a)
        = rows_same 0 ∙ (λ i. map (λ k. cells m n (get_or (finished_of s) (none_behind k i) [])) (starts_from 0 (marks_of s)))
        ∙ sym (column_same (λ r. r.a)) in
        let b : rows_cells m l 1 ≡ column_cells (λ r. r.b) = rows_same 1 ∙ sym (column_same (λ r. r.b)) in
        let c : rows_cells m l 2 ≡ column_cells (λ r. r.c) = rows_same 2 ∙ sym (column_same (λ r. r.c)) in
        let many : s.counts.constraints ≡ length (rows_of s)
        = sym many_rows ∙ length-map (starts_from 0 (map (λ e. e.mark) us.now)) (λ k. get_or (found l) (k + 0) []) ∙ ap length starts_same
        ∙ sym (length-map (starts_from 0 (marks_of s)) (row_at [] (finished_of s))) in
        λ i. record {
          cells = concatenated (a i ++ (b i ++ c i));
          ends = ends_from 0 (a i ++ (b i ++ c i));
          instances = n;
          witnesses = s.counts.witnesses;
          row_count = many i;
          cell_counts = (length (concatenated (a i)), length (concatenated (b i)), length (concatenated (c i)));
        }

    -- what is written of them is what is due
    abbrev pub some_of : Result ConstraintMatrices Told → Result (Option ConstraintMatrices) Told
    some_of (Ok x) = Ok (Some x)
    some_of (Err e) = Err e

    abbrev answers_some : Outcome (Lent V) ConstraintMatrices → Outcome (Lent V) (Option ConstraintMatrices)
    answers_some z = record { answer = some_of z.answer; state = z.state }

    some_where : (o : Option Told) (x : ConstraintMatrices) (after before : Lent V) (r : Result ConstraintMatrices Told) (left : Lent V)
        → outcome o x after before ≡ record { answer = r; state = left }
        → outcome (first (o ∷ [])) (Some x) after before ≡ record { answer = some_of r; state = left }
    some_where None x after before r left e = ap answers_some e
    some_where (Some refusal) x after before r left e = ap answers_some e

    pub as_due : (before : Lent V) (r : Result ConstraintMatrices Told) (left : Lent V)
        → fits_in (matrices_from m l s.counts) before ≡ record { answer = r; state = left }
        → (answer : Result (Option ConstraintMatrices) Told) → answer ≡ some_of r → writing m s before ≡ record { answer = answer; state = left }
    as_due before r left e answer is =
        let refusal = writing_refusal (length before.cells) (length before.ends) in
        ap₂ (λ b o. outcome (first (when (not b) 17 ∷ refusal o ∷ [])) (option_map counts_of o) (with_matrices o before) before) fine
        (written_here m s s.counts.mode kept)
        ∙ some_where (refusal (Some (w m s))) (counts_of (w m s)) (with_matrices (Some (w m s)) before) before r left
        (ap (λ x. fits_in x before) (sym same) ∙ e)
        ∙ ap (λ a. record { answer = a; state = left }) (sym is)
