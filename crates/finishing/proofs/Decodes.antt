-- What tables hold once finalising is accepted, read as the lists of the finished circuit. Assumes nothing.
use Rattle.std.proofs.Common.{◌≡◌, ℕ, ◌+◌, ◌*◌, ◌≤◌, List, [], ◌++◌, map, length, take, drop, Ok, sym, refl, ap, ◌∙◌, subst, ap₂, arith, length-append}
use mathlib.Core.List.{map-append, map-map}
use lib.ListN.{length-map}
use Rattle.std.specs.List.{AllByRecursion}
use Rattle.std.proofs.Math.Seq.{take-length}
use Rattle.std.proofs.lemmas.List.{length-take-le, take-take, take_at, drop_at}
use Rattle.std.proofs.ByRecursion.{All-append, All-weaker}
use Rattle.field.specs.Laws.{Model}
use Rattle.variables.specs.declared.Term.{Term}
use Rattle.account.specs.Given.{Given, marks, lists}
use Rattle.account.specs.Finish.{Rule, Outlined, Finishing, Stage, untaken, places, finish}
use Rattle.account.specs.Rows.{row_marks, row_lists, added_row, finished_lists}
use Rattle.account.specs.Account.{Account, rule_of, finish_of}
use Rattle.account.specs.Refusals.{limit, room_of, start_of}
use Rattle.account.specs.Laws.{Within}
use Rattle.account.proofs.Counts.{finish_long}
use Rattle.account.proofs.Indexes.{three_each}
use Rattle.account.proofs.Places.{places_taken}
use Rattle.account.proofs.Finalises.{marks_each}
use Rattle.account.proofs.SoundLists.{beside, beside_marks, row_marks_long}
use Rattle.tables.specs.Held.{Held, State, lengths, room}
use Rattle.tables.specs.Sound.{given_in, entries_of, marks_of, given_of, account_of, SoundTables}
use Rattle.tables.proofs.Holds.{many_given, same_marks}
use Rattle.finishing.specs.Layout.{Laid, laid}
use Rattle.finishing.specs.Sound.{finished_in, finished_of}
use Rattle.finishing.specs.Finalising.{as_given, stages_in, outlined_in, finished_counts, Finalised}
use Rattle.finishing.proofs.Lays.{Lies, lies_after, laid_grows, laid_as_given}
use Rattle.finishing.proofs.Parts.{GivenWithin, FinishedWithin, within_as, given_as, given_same, finished_same, laid_takes}

module _ {V : Type 0} (m : Model V) where
  -- a circuit with the counts that finalising leaves, over these tables
  abbrev pub left_in : State V → Held V → State V
  left_in s h = record { counts = finished_counts m s; tables = h }

  -- the entries that are outlined, and all finished lists
  abbrev pub picked : State V → List ℕ
  picked s = map (λ o. o.entry) (finish_of m (account_of s)).outlined

  abbrev pub made : State V → List (List (Term V))
  made s = finished_lists m (finish_of m (account_of s))

module _ {V : Type 0} (m : Model V) (s : State V) where
  abbrev x : Account V
  x = account_of s

  abbrev rule : Rule V
  rule = rule_of m x.goal (lists x.given)

  abbrev f : Finishing V
  f = finish_of m x

  abbrev d : Laid V
  d = laid m s

  -- the terms in use at the start
  abbrev start : List (Term V)
  start = take s.counts.terms s.tables.terms

  abbrev at_start : Laid V
  at_start = record { terms = start; taken = []; rows = [] }

  -- the lists that are taken are those given
  taken_lists : map (λ e. (given_in s.tables.terms e).terms) (entries_of s) ≡ lists x.given
  taken_lists = sym (map-map (λ (g : Given V). g.terms) (given_in s.tables.terms) (entries_of s))

  laid_lies : Lies m (finish_of m (account_of s)) (laid m s)
  laid_lies =
      subst (λ ls. Lies m (finish m rule s.counts.witnesses ls) d) taken_lists
      (lies_after m rule s.counts.witnesses s.tables.terms untaken at_start (entries_of s)
      (record { finished = refl; finished_fit = tt; rows_given = refl; rows_finished = refl; rows_given_fit = tt; rows_finished_fit = tt }))

  -- the entries that were taken are those that were there, but for their finished columns
  laid_as : map as_given (laid m s).taken ≡ map as_given (entries_of s)
  laid_as = laid_as_given m rule s.counts.witnesses s.tables.terms untaken at_start (entries_of s)

  module _ (sound : SoundTables s) (end : Stage V) (e : stages_in m s ≡ Ok end) where
    -- what fits, by the room that the steps found
    pub stages_within : let x = account_of s in
        Within m (rule_of m x.goal (lists x.given)) (room_of (lengths s.tables) x) (start_of x) s.counts.terms (lists x.given) end
    stages_within = places_taken m rule (room_of (lengths s.tables) x) (start_of x) s.counts.terms (lists x.given) end e

    pub same_many : length end.lists.outlined ≡ outlined_in m s
    same_many = ap (λ (g : Finishing V). length g.outlined) stages_within.same

    start_long : length start ≡ s.counts.terms
    start_long = length-take-le s.counts.terms s.tables.terms (omega (arith, sound.terms))

    pub terms_used : length (laid m s).terms ≡ end.used
    terms_used =
        let even = subst (λ ls. let g = finish m rule s.counts.witnesses ls in
        length d.terms + length g.outlined ≡ length start + places (finished_lists m g)) taken_lists
        (laid_takes m rule s.counts.witnesses s.tables.terms (entries_of s) at_start) in
        omega (arith, even, start_long, stages_within.takes, ap (λ (g : Finishing V). places (finished_lists m g)) stages_within.same, same_many)

    module _ (h : Held V) (fin : Finalised m s (left_in m s h)) where
      -- the tables after begin with what was laid down, and that with what was in use before
      front_there : take (length d.terms) h.terms ≡ take (length d.terms) d.terms
      front_there = fin.terms ∙ sym (take-length d.terms)

      more_terms : s.counts.terms ≤ length (laid m s).terms
      more_terms =
          let grows = laid_grows m rule s.counts.witnesses s.tables.terms untaken at_start (entries_of s) in
          omega (arith, ap length grows.1, length-append start grows.0, start_long)

      start_there : take s.counts.terms h.terms ≡ take s.counts.terms s.tables.terms
      start_there =
          let grows = laid_grows m rule s.counts.witnesses s.tables.terms untaken at_start (entries_of s) in
          sym (take-take s.counts.terms (length d.terms) h.terms more_terms) ∙ ap (take s.counts.terms) (fin.terms ∙ grows.1)
          ∙ take_at start grows.0 s.counts.terms start_long

      -- the entries in use
      pub entries_fit : s.counts.entries + 3 * outlined_in m s ≤ room s.tables.index
      entries_fit =
          let many = many_given s sound.entries in
          omega (arith, stages_within.entries_fit (omega (arith, many, sound.entries)), many, same_many)

      pub entries_after : entries_of (left_in m s h) ≡ (laid m s).taken ++ (laid m s).rows
      entries_after = take-take (s.counts.entries + 3 * outlined_in m s) limit h.index (omega (arith, entries_fit)) ∙ fin.index

      -- their finished lists
      finished_all : AllByRecursion (FinishedWithin (length d.terms)) (d.taken ++ d.rows)
      finished_all = All-append (FinishedWithin (length d.terms)) d.taken d.rows laid_lies.finished_fit laid_lies.rows_finished_fit

      pub finished_after : finished_of (left_in m s h) ≡ made m s
      finished_after =
          ap (map (finished_in h.terms)) entries_after
          ∙ finished_same (length d.terms) h.terms d.terms front_there (d.taken ++ d.rows) finished_all
          ∙ map-append (finished_in d.terms) d.taken d.rows ∙ ap₂ ◌++◌ laid_lies.finished laid_lies.rows_finished

      -- their given lists
      finished_long : length f.finished ≡ length x.given
      finished_long = finish_long m rule s.counts.witnesses (lists x.given) ∙ length-map x.given (λ (g : Given V). g.terms)

      abbrev added_lists : List (List (Term V))
      added_lists = row_lists (map (added_row m) f.outlined)

      taken_within : AllByRecursion (GivenWithin (length d.terms)) d.taken
      taken_within =
          within_as (length d.terms) d.taken (entries_of s) laid_as (All-weaker _ _ (λ e k. omega (arith, k, more_terms)) (entries_of s) sound.spans)

      rows_beside : map (given_in d.terms) d.rows ≡ beside (row_marks (picked m s)) (drop (length x.given) (made m s))
      rows_beside =
          laid_lies.rows_given
          ∙ ap₂ beside (sym (marks_each (λ (o : Outlined V). o.entry) f.outlined)) (sym (drop_at f.finished added_lists (length x.given) finished_long))

      pub given_after : given_of (left_in m s h) ≡ given_of s ++ beside (row_marks (picked m s)) (drop (length (given_of s)) (made m s))
      given_after =
          ap (map (given_in h.terms)) entries_after ∙ map-append (given_in h.terms) d.taken d.rows
          ∙ ap₂ ◌++◌
          (given_as h.terms d.taken (entries_of s) laid_as ∙ given_same s.counts.terms h.terms s.tables.terms start_there (entries_of s) sound.spans)
          (given_same (length d.terms) h.terms d.terms front_there d.rows laid_lies.rows_given_fit ∙ rows_beside)

      added_long : length (drop (length x.given) (made m s)) ≡ length (row_marks (picked m s))
      added_long =
          ap length (drop_at f.finished added_lists (length x.given) finished_long)
          ∙ omega (
            arith,
            three_each (map (added_row m) f.outlined),
            length-map f.outlined (added_row m),
            row_marks_long (picked m s),
            length-map f.outlined (λ (o : Outlined V). o.entry),
          )

      pub marks_after : marks_of (left_in m s h) ≡ marks (given_of s) ++ row_marks (picked m s)
      marks_after =
          let more = drop (length x.given) (made m s) in
          same_marks (left_in m s h) ∙ ap marks given_after ∙ map-append (λ (g : Given V). g.mark) x.given (beside (row_marks (picked m s)) more)
          ∙ ap (λ ms. marks x.given ++ ms) (beside_marks (row_marks (picked m s)) more added_long)

      -- where the lists lie
      pub given_within : AllByRecursion (GivenWithin (length (laid m s).terms)) (entries_of (left_in m s h))
      given_within =
          subst (AllByRecursion (GivenWithin (length d.terms))) (sym entries_after)
          (All-append (GivenWithin (length d.terms)) d.taken d.rows taken_within laid_lies.rows_given_fit)

      pub finished_within : AllByRecursion (FinishedWithin (length (laid m s).terms)) (entries_of (left_in m s h))
      finished_within = subst (AllByRecursion (FinishedWithin (length d.terms))) (sym entries_after) finished_all
