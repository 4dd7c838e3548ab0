-- What is promised of finalising. Assumes nothing.
use Rattle.std.proofs.Common.{◌≡◌, ℕ, ◌+◌, ◌<◌, ◌↔◌, List, [], ◌∷◌, ◌++◌, map, length, get_or, sym, refl, ap, ◌∙◌, subst, ap₂, inl, inr, arith, length-append}
use mathlib.Core.List.{map-append, map-map}
use lib.ListN.{length-map, get_or-map}
use Rattle.std.specs.List.{AllByRecursion}
use Rattle.std.proofs.lemmas.List.{ext_get_or, take_at}
use Rattle.std.proofs.ByRecursion.{All-append, All-weaker, All-map}
use Rattle.field.specs.Laws.{Model, Keeps}
use Rattle.variables.specs.declared.Variable.TheVariants.{One, Witness}
use Rattle.variables.specs.declared.Term.{Term}
use Rattle.variables.specs.Worth.{value, worth}
use Rattle.variables.specs.Evaluate.{SymbolFree}
use Rattle.account.specs.declared.Mark.TheVariants.{A, B, C}
use Rattle.account.specs.Given.{Given, marks, lists, Known}
use Rattle.account.specs.Worths.{worths}
use Rattle.account.specs.Finish.{Rule, Outlined, Finishing, finish}
use Rattle.account.specs.Rows.{Row, each, row_at, rows, constraints, starts_from, FirstFailing, Holds, constraints_at, rows_at, added_row, finished_rows, row_marks, row_lists, finished_lists}
use Rattle.account.specs.Laws.{SymbolFreeRow, WellFormed, OneAnswer, MatricesExact, combination_worths, Exact, added_worth, FailsAlike, Finalised}
use Rattle.account.proofs.Lists.{all_split, all_unmap, all_at, all_of, map_same}
use Rattle.account.proofs.Worths.{single_worth, worths_solve}
use Rattle.account.proofs.Indexes.{three_each, index_rows}
use Rattle.account.proofs.Counts.{Only, Counted, lists_counted, list_from_each, each_from_list, AllSymbolFree, finish_numbered, finish_symbol_free, finish_long, finish_taken}
use Rattle.account.proofs.Finishes.{worths_original, row_holds, Meets, Stands, Agrees, finish_agrees}
use Rattle.account.proofs.Matrices.{marlin_holds, marlin_first}
use Rattle.account.proofs.Checks.{one_answer, first_append, rows_each}

pub marks_each : {X Y : Type 0} (f : X → Y) (xs : List X) → row_marks (map f xs) ≡ row_marks xs
marks_each f [] = refl
marks_each f (x ∷ xs) = ap (λ ms. A ∷ B ∷ C ∷ ms) (marks_each f xs)

module _ {V : Type 0} {m : Model V} (keeps : Keeps m) where
  open m.ring use {Member, zero, one, ◌⊗◌ as mul}

  pub one_each : OneAnswer m
  one_each rs r s f g = one_answer (Holds m) rs r s f g

  pub matrices_exact : MatricesExact m
  matrices_exact n w rs s z long first answer = marlin_first keeps n w z long first rs s answer

  module _ (n w : ℕ) (given : List (Given V)) (known : Known n w given) where
    -- the lists of known constraints are worth what the rising order gives at their places
    pub constraints_worths : (z : List Member) → constraints_at m n z (lists given) (constraints given) ≡ rows zero (marks given) (worths m n z (lists given))
    constraints_worths z =
        let ws = worths m n z (lists given) in
        let solved = worths_solve keeps n w z given known.terms in
        let f = worth m (value m n z ws) in
        let table : map f (lists given) ≡ ws
        = ext_get_or zero (map f (lists given)) ws (length-map (lists given) f ∙ sym solved.long)
        (λ k lt. get_or-map f (lists given) k [] ∙ sym (solved.symbols k (omega (arith, length-map (lists given) f)))) in
        rows_each f [] (lists given) (starts_from 0 (marks given)) ∙ ap (λ x. rows zero (marks given) x) table

  module _ (rule : Rule V) (n w : ℕ) (given : List (Given V)) (known : Known n w given) where
    abbrev done : Finishing V
    done = finish m rule w (lists given)

    abbrev entries : List ℕ
    entries = map (λ o. o.entry) done.outlined

    abbrev finished : List (Row (List (Term V)))
    finished = finished_rows given (finished_lists m done) entries

    abbrev starts : List ℕ
    starts = starts_from 0 (marks given)

    abbrev W : ℕ
    W = w + length entries

    abbrev first_rows : List (Row (List (Term V)))
    first_rows = rows [] (marks given) done.finished

    abbrev added_rows : List (Row (List (Term V)))
    added_rows = map (added_row m) done.outlined

    many : length entries ≡ length done.outlined
    many = length-map done.outlined (λ o. o.entry)

    counts : AllByRecursion (Only (Counted n w)) (lists given)
    counts = lists_counted n w [] given known.terms

    as_marked : length (marks given) ≡ length done.finished
    as_marked = length-map given _ ∙ sym (finish_long m rule w (lists given) ∙ length-map given _)

    -- the rows of the constraints, and then the added ones
    in_order : finished ≡ first_rows ++ added_rows
    in_order =
        ap (λ ms. rows [] (marks given ++ ms) (finished_lists m done)) (marks_each (λ o. o.entry) done.outlined ∙ sym (marks_each (added_row m) done.outlined))
        ∙ index_rows [] known.triples done.finished added_rows as_marked

    all_free : AllSymbolFree m rule w n W done
    all_free = subst (λ k. AllSymbolFree m rule w n (w + k) done) (sym many) (finish_symbol_free m rule w n (lists given) counts)

    added_free : AllByRecursion (SymbolFreeRow n W) added_rows
    added_free = All-map (SymbolFreeRow n W) (added_row m) done.outlined (All-weaker _ _ (λ o h. (h.0, (tt, tt), (h.1, tt))) done.outlined all_free.1)

    rows_free : AllByRecursion (SymbolFreeRow n W) finished
    rows_free =
        let at : (k : ℕ) → Only (SymbolFree n W) (get_or done.finished k []) = λ k. all_at (λ t. SymbolFree n W t.variable) done.finished k all_free.0 in
        subst (AllByRecursion (SymbolFreeRow n W)) (sym in_order)
        (All-append (SymbolFreeRow n W) first_rows added_rows
        (All-map (SymbolFreeRow n W) (row_at [] done.finished) starts (all_of (λ k. SymbolFreeRow n W (row_at [] done.finished k)) (λ k. (at k, at (k + 1), at (k + 2))) starts))
        added_free)

    lists_free : (rs : List (Row (List (Term V)))) → AllByRecursion (SymbolFreeRow n W) rs → AllByRecursion (Only (SymbolFree n W)) (row_lists rs)
    lists_free [] h = tt
    lists_free (r ∷ rs) h = (h.0.0, (h.0.1, (h.0.2, lists_free rs h.1)))

    pub well_formed : WellFormed n w given (constraints given) (finished_lists m done) entries
    well_formed = record {
      long =
          let size : length added_rows ≡ length entries = length-map done.outlined (added_row m) ∙ sym many in
          omega (arith, length-append done.finished (row_lists added_rows), three_each added_rows, length-map given (λ g. g.mark), as_marked, size);
      symbol_free = All-append (Only (SymbolFree n W)) done.finished (row_lists added_rows) all_free.0 (lists_free added_rows added_free);
      rows_symbol_free = rows_free;
      rows_counted =
          ap length in_order ∙ length-append first_rows added_rows
          ∙ ap₂ ◌+◌ (length-map starts (row_at [] done.finished) ∙ sym (length-map starts (row_at [] (lists given)))) (length-map done.outlined (added_row m) ∙ sym many);
      standing = All-map (λ k. k < length given) (λ o. o.entry) done.outlined
          (All-weaker _ _ (λ o b. omega (arith, length-map given (λ g. g.terms))) done.outlined (finish_taken m rule w (lists given)));
    }

    module _ (original added : List Member) (long : length original ≡ n + w) where
      abbrev z : List Member
      z = original ++ added

      abbrev valued : List (Row (List (Term V))) → List (Row Member)
      valued rs = rows_at m n z rs

      same_worths : worths m n z (lists given) ≡ worths m n original (lists given)
      same_worths = worths_original keeps n w original added long (lists given) counts

      abbrev Agreed : Type 0
      Agreed = Agrees keeps rule n w z done (worths m n z (lists given))

      -- the rows, valued, are the constraints as written and then the added rows
      valued_rows : Agreed → valued finished ≡ constraints_at m n original (lists given) (constraints given) ++ valued added_rows
      valued_rows h =
          ap valued in_order ∙ map-append (each (worth m (value m n z []))) first_rows added_rows
          ∙ ap (λ x. x ++ valued added_rows)
          (rows_each (worth m (value m n z [])) [] done.finished starts ∙ ap (λ x. rows zero (marks given) x) (h.same ∙ same_worths) ∙ sym (constraints_worths n w given known original))

      added_rows_hold : Agreed → AllByRecursion (Holds m) (valued added_rows)
      added_rows_hold h =
          All-map (Holds m) (each (worth m (value m n z []))) added_rows
          (All-map (λ r. Holds m (each (worth m (value m n z [])) r)) (added_row m) done.outlined
          (All-weaker _ _ (λ o k. (row_holds keeps rule n w z o).1 k.0) done.outlined h.added))

      agreed_from_rows : AllByRecursion (Holds m) (valued finished) → Agreed
      agreed_from_rows h =
          let each_row = all_unmap (Holds m) (each (worth m (value m n z []))) (first_rows ++ added_rows) (subst (λ rs. AllByRecursion (Holds m) (valued rs)) in_order h) in
          let last = (all_split (λ r. Holds m (each (worth m (value m n z [])) r)) first_rows added_rows each_row).1 in
          let os = all_unmap (λ r. Holds m (each (worth m (value m n z [])) r)) (added_row m) done.outlined last in
          finish_agrees keeps rule n w z (lists given) (All-weaker _ _ (λ o k. inl ((row_holds keeps rule n w z o).0 k)) done.outlined os)

      abbrev standing : Outlined V → Member
      standing o = get_or (worths m n original (lists given)) o.entry zero

      stood : combination_worths m n given entries original ≡ map standing done.outlined
      stood = map-map (λ k. get_or (worths m n original (lists given)) k zero) (λ o. o.entry) done.outlined

      stood_from_agreed : Agreed → length added ≡ length entries → added ≡ combination_worths m n given entries original
      stood_from_agreed h la =
          list_from_each standing zero n done.outlined w original added long (finish_numbered m rule w (lists given)) (la ∙ many)
          (All-weaker _ _ (λ o k. k.1 ∙ ap (λ x. get_or x o.entry zero) same_worths) done.outlined h.added) ∙ sym stood

      agreed_from_stood : added ≡ combination_worths m n given entries original → Agreed
      agreed_from_stood e =
          let os = each_from_list standing zero n done.outlined w original long (finish_numbered m rule w (lists given)) in
          finish_agrees keeps rule n w z (lists given)
          (All-weaker _ _ (λ o k. inr (ap (λ x. get_or (original ++ x) (n + o.witness) zero) (e ∙ stood) ∙ k ∙ ap (λ x. get_or x o.entry zero) (sym same_worths))) done.outlined os)

    -- where the added rows hold, the added witnesses are what they stand for
    pub stood_from_rows : (original added : List Member) → length original ≡ n + w → length added ≡ length done.outlined
        → AllByRecursion (Meets keeps rule n w (original ++ added)) done.outlined → added ≡ combination_worths m n given entries original
    stood_from_rows original added long la h =
        let agreed = finish_agrees keeps rule n w (original ++ added) (lists given) (All-weaker _ _ (λ o k. inl k) done.outlined h) in
        stood_from_agreed original added long agreed (la ∙ sym many)

    pub exact : Exact m n w given (constraints given) (finished_lists m done) entries
    exact original added long la first =
        let whole : length (original ++ added) ≡ n + (w + length entries) = omega (arith, length-append original added) in
        let iff = marlin_holds keeps n W (original ++ added) whole first finished rows_free in
        let as_written = constraints_at m n original (lists given) (constraints given) in (
          λ h.
              let agreed = agreed_from_rows original added long (iff.0 h) in
              let parts = all_split (Holds m) as_written _ (subst (AllByRecursion (Holds m)) (valued_rows original added long agreed) (iff.0 h)) in
              (parts.0, stood_from_agreed original added long agreed la),
          λ h.
              let agreed = agreed_from_stood original added long h.1 in
              iff.1 (subst (AllByRecursion (Holds m)) (sym (valued_rows original added long agreed)) (All-append (Holds m) as_written _ h.0 (added_rows_hold original added long agreed))),
        )

    -- what an added row is worth where its witness has the worth of its combination
    row_worth : (original added : List Member) (long : length original ≡ n + w) → Agreed original added long → rows_at m n (original ++ added) added_rows
        ≡ map (added_worth m) (combination_worths m n given entries original)
    row_worth original added long h =
        let z = original ++ added in
        let at = value m n z [] in
        let stand : (o : Outlined V) → Meets keeps rule n w z o × Stands keeps rule n w z (worths m n z (lists given)) o × (o.entry < length (worths m n z (lists given)))
        → each (worth m at) (added_row m o) ≡ added_worth m (standing original added long o)
        = λ o k.
        let is : get_or z (n + o.witness) zero ≡ standing original added long o = k.1 ∙ ap (λ x. get_or x o.entry zero) (same_worths original added long) in
        let a = k.0 ∙ is in
        let b = single_worth keeps at One in
        let c = single_worth keeps at (Witness o.witness) ∙ is in
        λ i. record { a = a i; b = b i; c = c i } in
        map-map (each (worth m at)) (added_row m) done.outlined
        ∙ map_same (λ o. each (worth m at) (added_row m o)) (λ o. added_worth m (standing original added long o)) done.outlined (All-weaker _ _ stand done.outlined h.added)
        ∙ sym (ap (map (added_worth m)) (stood original added long) ∙ map-map (added_worth m) (standing original added long) done.outlined)

    pub fails_alike : FailsAlike m n w given (constraints given) (finished_lists m done) entries
    fails_alike kept long =
        let added = combination_worths m n given entries kept in
        let agreed = agreed_from_stood kept added long refl in
        let as_written = constraints_at m n kept (lists given) (constraints given) in
        let split = valued_rows kept added long agreed in
        let hold = added_rows_hold kept added long agreed in
        record {
          lists_worth =
              ap (map (worth m (value m n (kept ++ added) []))) (take_at done.finished (row_lists added_rows) (length given) (omega (arith, as_marked, length-map given (λ g. g.mark))))
              ∙ agreed.same ∙ same_worths kept added long;
          rows_worth = split ∙ ap (λ l. as_written ++ l) (row_worth kept added long agreed);
          same = λ answer. subst (λ rs. FirstFailing (Holds m) rs answer ↔ FirstFailing (Holds m) as_written answer) (sym split) (first_append (Holds m) as_written _ answer hold);
        }

  pub finalised_formed : Finalised m (λ n w given cs finished entries. WellFormed n w given cs finished entries)
  finalised_formed rule n w given known = well_formed rule n w given known

  pub finalised_exact : Finalised m (Exact m)
  finalised_exact rule n w given known = exact rule n w given known

  pub finalised_alike : Finalised m (FailsAlike m)
  finalised_alike rule n w given known = fails_alike rule n w given known
