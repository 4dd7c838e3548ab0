-- The rows of a matrix, written one after the other. Assumes nothing.
use Rattle.std.proofs.Common.{◌≡◌, ℕ, zero, suc, ◌+◌, ◌*◌, ◌<◌, ◌≤◌, Bool, true, false, List, [], ◌∷◌, ◌++◌, map, length, get_or, take, drop, Some, None, Option, sym, refl, ap, ◌∙◌, subst, append-nil, arith, length-append, length-drop, take-append-drop}
use Rattle.std.specs.Prelude.{slice_set}
use denote.Enum.Bare.{sameb}
use mathlib.Core.List.{map-append}
use lib.ListN.{length-map}
use Rattle.std.proofs.ByRecursion.{All-map}
use Rattle.std.proofs.lemmas.Bool.{true≢false, cond_both}
use Rattle.std.proofs.lemmas.List.{take_more, length-take}
use Rattle.std.proofs.lemmas.List.Concat.{flat_map-append}
use Rattle.field.specs.Laws.{Model}
use Rattle.variables.specs.declared.Term.{Term}
use Rattle.variables.specs.Questions.{column}
use Rattle.account.specs.contracts.Mark.{the_type}
use Rattle.account.specs.declared.Mark.{Mark}
use Rattle.account.specs.declared.Mark.TheVariants.{Plain, A, B, C}
use Rattle.account.specs.Rows.{Cell, cell_at, cells, starts_from, concatenated, ends_from}
use Rattle.account.specs.Refusals.{limit}
use Rattle.account.proofs.Lists.{all_at}
use Rattle.tables.specs.declared.Entry.{Entry}
use Rattle.tables.specs.Held.{put}
use Rattle.tables.proofs.Puts.{put_long}
use Rattle.finishing.specs.Sound.{finished_in}
use Rattle.matrices.specs.declared.Cell.{Cell as TableCell}
use Rattle.matrices.specs.Writing.{placed}
use Rattle.writing.specs.declared.lists.FinishedLists.{FinishedLists}
use Rattle.writing.specs.Lists.{HasColumn, HaveColumns, Lie, found, rows_cells}
use Rattle.writing.proofs.Places.{put_none, put_behind, put_push, cells_long, ends_long, ends_append}

-- a test for the mark A
abbrev pub is_a : Mark → Bool
is_a mark = sameb the_type mark A

a_is : (mark : Mark) → is_a mark ≡ true → mark ≡ A
a_is A e = refl
a_is Plain e = absurd (true≢false (sym e))
a_is B e = absurd (true≢false (sym e))
a_is C e = absurd (true≢false (sym e))

none_started : (mark : Mark) (k : ℕ) → is_a mark ≡ false → starts_from k (mark ∷ []) ≡ []
none_started A k e = absurd (true≢false e)
none_started Plain k e = refl
none_started B k e = refl
none_started C k e = refl

-- the entries marked A, of some and then others
starts_append : (ms ns : List Mark) (k : ℕ) → starts_from k (ms ++ ns) ≡ starts_from k ms ++ starts_from (k + length ms) ns
starts_append [] ns k = ap (λ j. starts_from j ns) (omega arith)
starts_append (A ∷ ms) ns k = ap (λ js. k ∷ js) (starts_append ms ns (suc k) ∙ ap (λ j. starts_from (suc k) ms ++ starts_from j ns) (omega arith))
starts_append (Plain ∷ ms) ns k = starts_append ms ns (suc k) ∙ ap (λ j. starts_from (suc k) ms ++ starts_from j ns) (omega arith)
starts_append (B ∷ ms) ns k = starts_append ms ns (suc k) ∙ ap (λ j. starts_from (suc k) ms ++ starts_from j ns) (omega arith)
starts_append (C ∷ ms) ns k = starts_append ms ns (suc k) ∙ ap (λ j. starts_from (suc k) ms ++ starts_from j ns) (omega arith)

-- they are no more than there are marks
pub starts_few : (ms : List Mark) (k : ℕ) → length (starts_from k ms) ≤ length ms
starts_few [] k = omega arith
starts_few (A ∷ ms) k = omega (arith, starts_few ms (suc k))
starts_few (Plain ∷ ms) k = omega (arith, starts_few ms (suc k))
starts_few (B ∷ ms) k = omega (arith, starts_few ms (suc k))
starts_few (C ∷ ms) k = omega (arith, starts_few ms (suc k))

module _ {V : Type 0} (m : Model V) where
  -- a list has no more cells than terms
  one_few : (k : V) (o : Option ℕ) → length (cell_at m k o) ≤ 1
  one_few k None = omega arith
  one_few k (Some j) = cond_both (m.same k m.zero) _ _ (λ cs. length cs ≤ 1) (λ e. omega arith) (λ e. omega arith)

  cells_few : (n : ℕ) (ts : List (Term V)) → length (cells m n ts) ≤ length ts
  cells_few n [] = omega arith
  cells_few n (t ∷ ts) =
      omega (
        arith,
        length-append (cell_at m t.number (column n t.variable)) (cells m n ts),
        one_few t.number (column n t.variable),
        cells_few n ts,
      )

-- nor has a finished list more terms than there are
found_few : {V : Type 0} (terms : List (Term V)) (es : List Entry) (k : ℕ) → length (get_or (map (finished_in terms) es) k []) ≤ length terms
found_few terms [] k = omega arith
found_few terms (e ∷ es) zero = omega (arith, length-take e.finished_len (drop e.finished_start terms), length-drop e.finished_start terms)
found_few terms (e ∷ es) (suc k) = found_few terms es k

module _ {V : Type 0} (m : Model V) (l : FinishedLists V) (behind : ℕ) where
  abbrev n : ℕ
  n = l.witness_offset

  abbrev es : List Entry
  es = l.entries.now

  abbrev marks : List Entry → List Mark
  marks = map (λ e. e.mark)

  abbrev all : List (List (Cell V))
  all = rows_cells m l behind

  -- the list of the row at entry j, and the rows at some entries
  abbrev list_of : ℕ → List (Term V)
  list_of j = get_or (found l) (j + behind) []

  abbrev rows_at : List ℕ → List (List (Cell V))
  rows_at js = map (cells m n) (map list_of js)

  -- the rows of the entries before k
  abbrev pub rows_before : ℕ → List (List (Cell V))
  rows_before k = rows_at (starts_from 0 (marks (take k es)))

  rows_append : (is js : List ℕ) → rows_at (is ++ js) ≡ rows_at is ++ rows_at js
  rows_append is js = ap (map (cells m n)) (map-append list_of is js) ∙ map-append (cells m n) (map list_of is) (map list_of js)

  marked_append : (us vs : List Entry)
      → rows_at (starts_from 0 (marks (us ++ vs))) ≡ rows_at (starts_from 0 (marks us)) ++ rows_at (starts_from (0 + length (marks us)) (marks vs))
  marked_append us vs =
      ap (λ ms. rows_at (starts_from 0 ms)) (map-append (λ e. e.mark) us vs) ∙ ap rows_at (starts_append (marks us) (marks vs) 0)
      ∙ rows_append (starts_from 0 (marks us)) (starts_from (0 + length (marks us)) (marks vs))

  -- they come first among all
  rest : ℕ → List (List (Cell V))
  rest k = rows_at (starts_from (0 + length (marks (take k es))) (marks (drop k es)))

  first_rows : (k : ℕ) → all ≡ rows_before k ++ rest k
  unfolding rest
  first_rows k = ap (λ us. rows_at (starts_from 0 (marks us))) (sym (take-append-drop k es)) ∙ marked_append (take k es) (drop k es)

  pub rows_fit : (k : ℕ) → length (rows_before k) ≤ length all
  rows_fit k = omega (arith, ap length (first_rows k), length-append (rows_before k) (rest k))

  pub cells_fit : (k : ℕ) → length (concatenated (rows_before k)) ≤ length (concatenated all)
  cells_fit k = omega (arith, ap (λ ls. length (concatenated ls)) (first_rows k), cells_long (rows_before k) (rest k))

  -- one entry more
  module _ (k : ℕ) (d : Entry) (lt : k < length es) where
    abbrev mark : Mark
    mark = (get_or es k d).mark

    next : rows_before (k + 1) ≡ rows_before k ++ rows_at (starts_from k (mark ∷ []))
    next =
        let long : 0 + length (marks (take k es)) ≡ k = omega (arith, length-map (take k es) (λ (e : Entry). e.mark), length-take k es) in
        ap (λ us. rows_at (starts_from 0 (marks us))) (take_more es k d lt) ∙ marked_append (take k es) (get_or es k d ∷ [])
        ∙ ap (λ j. rows_before k ++ rows_at (starts_from j (mark ∷ []))) long

    pub row_more : is_a mark ≡ true → rows_before (k + 1) ≡ rows_before k ++ cells m n (list_of k) ∷ []
    row_more e = next ∙ ap (λ mk. rows_before k ++ rows_at (starts_from k (mk ∷ []))) (a_is mark e)

    pub no_row : is_a mark ≡ false → rows_before (k + 1) ≡ rows_before k
    no_row e = next ∙ ap (λ js. rows_before k ++ rows_at js) (none_started mark k e) ∙ append-nil (rows_before k)

    -- its cells are counted
    pub cells_more : is_a mark ≡ true → (ts : List (Term V)) → ts ≡ list_of k
        → length (concatenated (rows_before (k + 1))) ≡ length (concatenated (rows_before k)) + length (cells m n ts)
    cells_more e ts is =
        let row = cells m n (list_of k) in
        omega (
          arith,
          ap (λ ls. length (concatenated ls)) (row_more e),
          cells_long (rows_before k) (row ∷ []),
          ap length (append-nil row),
          ap (λ us. length (cells m n us)) is,
        )

  -- what the lists of entries keep
  module _ (lie : Lie n l.terms.now es) where
    pub list_columns : (k : ℕ) (ts : List (Term V)) → ts ≡ list_of k → HaveColumns n ts
    list_columns k ts is =
        subst (HaveColumns n) (sym is)
        (all_at (HasColumn n) (found l) (k + behind) (All-map (HaveColumns n) (finished_in l.terms.now) es lie.columns))

    few : (js : List ℕ) → length (concatenated (rows_at js)) ≤ length js * limit
    few [] = omega arith
    few (j ∷ js) =
        omega (
          arith,
          length-append (cells m n (list_of j)) (concatenated (rows_at js)),
          cells_few m n (list_of j),
          found_few l.terms.now es (j + behind),
          lie.terms_few,
          few js,
        )

    -- a matrix has no more cells than entries times the limit
    pub matrix_few : length (concatenated all) ≤ limit * limit
    matrix_few =
        omega (
          arith,
          few (starts_from 0 (marks es)),
          starts_few (marks es) 0,
          length-map es (λ (e : Entry). e.mark),
          lie.entries_few,
        )

  -- the rows so far in two tables, the cells from `start` on, and the ends from `first` on
  module _ (places : List (TableCell V)) (start : ℕ) (bounds : List ℕ) (first : ℕ) where
    pub record Sofar (k at row : ℕ) (now : List (TableCell V)) (ends : List ℕ) : Type 0 where
      pub end : at ≡ start + length (concatenated (rows_before k))
      pub many : row ≡ first + length (rows_before k)
      pub cells_now : now ≡ put places start (map placed (concatenated (rows_before k)))
      pub ends_now : ends ≡ put bounds first (ends_from start (rows_before k))

    -- before the first entry nothing is written
    pub none_yet : Sofar 0 start first places bounds
    none_yet = record { end = omega arith; many = omega arith; cells_now = sym (put_none places start); ends_now = sym (put_none bounds first) }

    module _ (k at row : ℕ) (now : List (TableCell V)) (ends : List ℕ) (d : Entry) (lt : k < length es) (h : Sofar k at row now ends) where
      -- where the entry starts no row all stays
      pub passed : is_a (mark k d lt) ≡ false → {at' row' : ℕ} {now' : List (TableCell V)} {ends' : List ℕ}
          → at' ≡ at → row' ≡ row → now' ≡ now → ends' ≡ ends
          → Sofar (k + 1) at' row' now' ends'
      passed e p q r s =
          let same = sym (no_row k d lt e) in
          record {
            end = p ∙ h.end ∙ ap (λ ls. start + length (concatenated ls)) same;
            many = q ∙ h.many ∙ ap (λ ls. first + length ls) same;
            cells_now = r ∙ h.cells_now ∙ ap (λ ls. put places start (map placed (concatenated ls))) same;
            ends_now = s ∙ h.ends_now ∙ ap (λ ls. put bounds first (ends_from start ls)) same;
          }

      -- its row has its places
      module _ (e : is_a (mark k d lt) ≡ true) (ts : List (Term V)) (is : ts ≡ list_of k)
          (room : start + length (concatenated all) ≤ length places) (row_room : first + length all ≤ length bounds) where
        abbrev before : List (List (Cell V))
        before = rows_before k

        abbrev row_cells : List (Cell V)
        row_cells = cells m n ts

        more : rows_before (k + 1) ≡ before ++ row_cells ∷ []
        more = row_more k d lt e ∙ ap (λ us. before ++ cells m n us ∷ []) (sym is)

        long : length (map (placed {V = V}) (concatenated before)) ≡ length (concatenated before)
        long = length-map (concatenated before) (placed {V = V})

        fits : start + length (concatenated before) + length row_cells ≤ length places
        fits = omega (arith, cells_more k d lt e ts is, cells_fit (k + 1), room)

        row_fits : first + length before + 1 ≤ length bounds
        row_fits = omega (arith, rows_fit (k + 1), ap length more, length-append before (row_cells ∷ []), row_room)

        now_long : length now ≡ length places
        now_long = ap length h.cells_now ∙ put_long places start (map placed (concatenated before)) (omega (arith, fits, long))

        pub cells_there : at + length row_cells ≤ length now
        cells_there = omega (arith, fits, h.end, now_long)

        ends_fit : first + length (ends_from start before) ≤ length bounds
        ends_fit = omega (arith, row_fits, ends_long before start)

        pub end_there : row < length ends
        end_there = omega (arith, row_fits, h.many, ap length h.ends_now, put_long bounds first (ends_from start before) ends_fit)

        pub written : (past : ℕ) → past ≡ at + length row_cells → {at' row' : ℕ} {now' : List (TableCell V)} {ends' : List ℕ}
            → at' ≡ past → row' ≡ row + 1 → now' ≡ put now at (map placed row_cells)
            → ends' ≡ slice_set ends row past → Sofar (k + 1) at' row' now' ends'
        written past is_past p q r s =
            let in_turn : concatenated (before ++ row_cells ∷ []) ≡ concatenated before ++ row_cells
            = flat_map-append (λ l. l) before (row_cells ∷ []) ∙ ap (λ l. concatenated before ++ l) (append-nil row_cells) in
            let both : map placed (concatenated (rows_before (k + 1))) ≡ map placed (concatenated before) ++ map placed row_cells
            = ap (λ ls. map placed (concatenated ls)) more ∙ ap (map placed) in_turn ∙ map-append placed (concatenated before) row_cells in
            let past_is : past ≡ start + length (concatenated before) + length row_cells = omega (arith, is_past, h.end) in
            record {
              end = omega (arith, p, past_is, cells_more k d lt e ts is);
              many = omega (arith, q, h.many, ap length more, length-append before (row_cells ∷ []));
              cells_now =
                  r ∙ ap (λ l. put l at (map placed row_cells)) h.cells_now
                  ∙ put_behind places start at (map placed (concatenated before)) (map placed row_cells)
                  (omega (arith, fits, long)) (omega (arith, h.end, long))
                  ∙ ap (put places start) (sym both);
              ends_now =
                  s ∙ put_push bounds first row (ends_from start before) past ends h.ends_now end_there ends_fit
                  (omega (arith, h.many, ends_long before start))
                  ∙ ap (λ j. put bounds first (ends_from start before ++ j ∷ [])) past_is
                  ∙ ap (put bounds first) (sym (ap (ends_from start) more ∙ ends_append before (row_cells ∷ []) start));
            }
