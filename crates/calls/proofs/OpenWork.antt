-- What a check and a question on an open circuit leave of the work table. Assumes nothing.
use Rattle.std.proofs.Common.{◌≡◌, ℕ, ◌≤◌, Bool, true, false, cond, ◌&&◌, List, [], ◌∷◌, ◌++◌, length, take, drop, Some, None, Option, Result, sym, refl, ap, ◌∙◌, subst, append_assoc, arith}
use Rattle.std.specs.Option.{is_none}
use lib.ListN.{length-map}
use Rattle.std.proofs.lemmas.List.{take-append-drop, drop-append-le}
use Rattle.field.specs.Laws.{Model}
use Rattle.variables.specs.declared.Variable.{Variable}
use Rattle.variables.specs.declared.Variable.TheVariants.{Zero, One, Instance, Witness, SymbolicLc}
use Rattle.variables.specs.Refusals.{Told}
use Rattle.account.specs.Given.{Given, lists}
use Rattle.account.specs.Evaluate.{filled}
use Rattle.account.specs.Finish.{lacks}
use Rattle.account.specs.Rows.{last_of, Matrices}
use Rattle.account.specs.Account.{Account, checks, failing_of, value_of, matrices_of}
use Rattle.account.specs.Calls.{which_is_unsatisfied, assigned_value, Answer, unsatisfied, assigned, Event, if_accepted, after}
use Rattle.account.specs.Refusals.{when, first, variable_refusal}
use Rattle.account.proofs.Refuses.{enough, first_none}
use Rattle.account.proofs.Finds.{filled_long}
use Rattle.tables.specs.Held.{State}
use Rattle.tables.specs.Sound.{given_of, account_of}
use Rattle.tables.specs.Calls.{outcome, is_known_symbol, which_is_unsatisfied_tests, assigned_value_tests, work_of, checking, asking}
use Rattle.tables.specs.Follows.{Shows, answer_as}
use Rattle.tables.proofs.Holds.{many_given, same_marks}
use Rattle.matrices.specs.Writing.{over, with_matrices}
use Rattle.calls.specs.Calls.{Beside}
use Rattle.calls.specs.Standing.{any, writing_in, beside_after}
use Rattle.calls.specs.Standing as here
use Rattle.calls.specs.Laws.{with_work}

-- where a known symbol is asked for and nothing is refused there are places enough
enough_if : (b : Bool) (due places k : ℕ) → when (b && lacks due places) k ≡ None → b ≡ true → due ≤ places
enough_if true due places k e h = enough due places k e
enough_if false due places k e h = absurd (let z : ◌≡◌ {A = ℕ} 0 1 = cc in omega arith)

module _ {V : Type 0} (m : Model V) (s : State V) where
  abbrev x : Account V
  x = account_of s

  -- what the work table is filled with
  abbrev worked : List (Option V)
  worked = filled m x.instances.kept x.witnesses.kept (lists x.given)

  -- a known symbol by the tables is one by the account that they hold
  known_same : (v : Variable) → is_known_symbol s v ≡ here.is_known_symbol m x v
  known_same Zero = refl
  known_same One = refl
  known_same (Instance i) = refl
  known_same (Witness i) = refl
  known_same (SymbolicLc k) = ap (λ ms. is_none (variable_refusal s.counts.instances s.counts.witnesses ms (SymbolicLc k))) (same_marks s)

  module _ (shows : Shows s x) (b : Beside V) (n : ℕ) where
    abbrev lent : List (Option V)
    lent = take n b.work

    abbrev rest : List (Option V)
    rest = drop n b.work

    -- it has a place for each entry
    worked_long : length worked ≡ s.counts.entries
    worked_long =
        let many = many_given s shows.sound.entries in
        omega (arith, filled_long m x.instances.kept x.witnesses.kept [] (lists x.given), length-map (given_of s) (λ (g : Given V). g.terms))

    -- what is lent and filled lies over the whole work table
    filled_over : s.counts.entries ≤ length lent → work_of m s lent ++ rest ≡ over b.work worked
    unfolding work_of
    filled_over h =
        append_assoc worked (drop s.counts.entries lent) rest
        ∙ ap (λ l. worked ++ l) (sym (drop-append-le s.counts.entries lent rest h) ∙ ap (drop s.counts.entries) (take-append-drop n b.work))
        ∙ ap (λ k. worked ++ drop k b.work) (sym worked_long)

    -- a call that fills, or does not, is refused, or is not
    work_left : {X : Type 0} (f : X → Answer V) (fills : Bool) (o : Option Told) (answer : X)
        → (o ≡ None → fills ≡ true → s.counts.entries ≤ length lent)
        → let z = outcome o answer (cond fills (work_of m s lent) lent) lent in
        z.state ++ rest ≡ over b.work (last_of [] (if_accepted (answer_as f z.answer) (cond fills (worked ∷ []) []) ++ []))
    work_left f true None answer h = filled_over (h refl refl)
    work_left f false None answer h = take-append-drop n b.work
    work_left f fills (Some r) answer h = take-append-drop n b.work

    -- another work table, with what was written as it was
    abbrev with_table : List (Option V) → Beside V
    with_table work = record { work = work; written = b.written }

    -- what then lies beside the tables, by whether the call fills and by its answer, whatever a writing would write
    abbrev left_by : Bool → Result (Answer V) Told → Option (Matrices V) → Beside V
    left_by fills answer written = record {
      work = over b.work (last_of [] (if_accepted answer (cond fills (worked ∷ []) []) ++ []));
      written = with_matrices (cond (any (if_accepted answer (writing_in {V = V} checks) ++ [])) written None) b.written;
    }

    -- such a call leaves that
    beside_left : {X : Type 0} (f : X → Answer V) (fills : Bool) (o : Option Told) (answer : X) (written : Option (Matrices V))
        → (o ≡ None → fills ≡ true → s.counts.entries ≤ length lent)
        → let z = outcome o answer (cond fills (work_of m s lent) lent) lent in with_work b n z.state ≡ left_by fills (answer_as f z.answer) written
    beside_left f fills None answer written h = ap with_table (work_left f fills None answer h)
    beside_left f fills (Some r) answer written h = ap with_table (work_left f fills (Some r) answer h)

    -- a check, and a question
    pub checking_beside : let o = checking m s lent in
        with_work b n o.state
        ≡ beside_after m x (record { call = which_is_unsatisfied (length lent); answer = answer_as unsatisfied o.answer } ∷ []) b
    checking_beside =
        beside_left unsatisfied true (first (which_is_unsatisfied_tests s (length lent))) (failing_of m s.counts.mode x) _
        (λ e _. enough _ _ 19 (first_none (which_is_unsatisfied_tests s (length lent)) e).1.1.0)

    pub asking_beside : (v : Variable) → let o = asking m s v lent in
        with_work b n o.state
        ≡ beside_after m x (record { call = assigned_value (length lent) v; answer = answer_as assigned o.answer } ∷ []) b
    asking_beside v =
        let o = asking m s v lent in
        let e : Event V = record { call = assigned_value (length lent) v; answer = answer_as assigned o.answer } in
        let y = after m x e in
        let written = matrices_of m y y.finished in
        let tests = assigned_value_tests s (length lent) v in
        subst (λ (known : Bool). with_work b n o.state ≡ left_by known e.answer written) (known_same v)
        (beside_left assigned (is_known_symbol s v) (first tests) (value_of m x v) written
        (λ free known. enough_if (is_known_symbol s v) s.counts.entries (length lent) 19 (first_none tests free).1.0 known))
