-- The answers to the calls of a claim judge it. Assumes nothing.
use Rattle.std.proofs.Common.{◌≡◌, ℕ, suc, ◌+◌, ◌-◌, min, true, List, [], ◌∷◌, ◌++◌, map, length, Some, None, Ok, Option, Result, sym, refl, ap, ◌∙◌, subst, subst₂, append_assoc, arith, length-append}
use lib.ListN.{length-map}
use Rattle.std.specs.List.{slice_get}
use Rattle.std.specs.Option.{option_map}
use Rattle.std.proofs.lemmas.List.{map-append, append-nil}
use Rattle.std.proofs.lemmas.Option.{slice_get-map}
use Rattle.field.specs.Laws.{Model, Keeps}
use Rattle.variables.specs.declared.Term.{Term}
use Rattle.variables.specs.Refusals.{Told}
use Rattle.account.specs.declared.OptimizationGoal.{OptimizationGoal}
use Rattle.account.specs.declared.SynthesisMode.TheVariants.{Prove}
use Rattle.account.specs.Rows.{Row, Holds, FirstFailing, Matrices}
use Rattle.account.specs.Account.{Account, Finished, with_finished, opened, made_in, constraints_kept, matrices_from, matrices_in}
use Rattle.account.specs.Calls as account
use Rattle.account.specs.Calls.{Call, which_is_unsatisfied, finalize, to_matrices, Event, accepted, constraint_in, accepted_constraints, after_all}
use Rattle.account.specs.Run.{log_of}
use Rattle.account.specs.Promise.{Promised}
use Rattle.account.proofs.Checks.{one_answer}
use Rattle.matrices.specs.Writing.{Lent}
use Rattle.matrices.specs.Laws.{as_written}
use Rattle.calls.specs.declared.Answer.{Answer}
use Rattle.calls.specs.declared.Answer.TheVariants.{Done, Named, Unsatisfied, Assigned, Written, Refused, OutOfPlace}
use Rattle.calls.specs.Calls.{Rooms, as_call, as_answer, log_in}
use Rattle.claims.specs.declared.Wall.{Wall}
use Rattle.claims.specs.declared.Claim.{Claim}
use Rattle.claims.specs.Grades.{all_places, judging, grading, claim_calls, Judged}
use Rattle.claims.specs.Verdicts.{from_end, row_in, counts_in, after_accepted, claim_account, Said, AnswersJudge}
use Rattle.claims.proofs.Accepted.{AllOk, ok_append, calls_in, all_append, after_append, after_is, opens, closes, all_ok, answers_are}
use Rattle.claims.proofs.Brings.{grading_open}
use Rattle.claims.proofs.Stands.{four, judges, proves}

-- what stands behind a list
get_behind : {X : Type 0} (xs ys : List X) (i j : ℕ) → i ≡ length xs + j → slice_get (xs ++ ys) i ≡ slice_get ys j
get_behind [] ys i j e = let same : i ≡ j = omega arith in ap (slice_get ys) same
get_behind (x ∷ xs) ys ℕ.zero j e = absurd (omega arith)
get_behind (x ∷ xs) ys (suc i) j e = get_behind xs ys i j (omega arith)

module _ {V : Type 0} (t : Lent V) where
  -- an answer that is so is read so
  reads_row : (o : Option (Answer V)) (a : account.Answer V) (row : Option ℕ) → option_map (as_answer t) o ≡ Some (Some (Ok a))
      → a ≡ account.unsatisfied row → row_in o ≡ row
  reads_row None a row e is = let never : ⊥ = cc in absurd never
  reads_row (Some Done) a row e is = let never : ⊥ = cc in absurd never
  reads_row (Some (Named v)) a row e is = let never : ⊥ = cc in absurd never
  reads_row (Some (Unsatisfied named)) a row e is = cc
  reads_row (Some (Assigned value)) a row e is = let never : ⊥ = cc in absurd never
  reads_row (Some (Written counts)) a row e is = let never : ⊥ = cc in absurd never
  reads_row (Some (Refused refusal)) a row e is = let never : ⊥ = cc in absurd never
  reads_row (Some OutOfPlace) a row e is = let never : ⊥ = cc in absurd never

  reads_matrices : (o : Option (Answer V)) (a : account.Answer V) (w : Option (Matrices V)) → option_map (as_answer t) o ≡ Some (Some (Ok a))
      → a ≡ account.written w
      → as_written t (counts_in o) ≡ account.written w
  reads_matrices None a w e is = let never : ⊥ = cc in absurd never
  reads_matrices (Some Done) a w e is = let never : ⊥ = cc in absurd never
  reads_matrices (Some (Named v)) a w e is = let never : ⊥ = cc in absurd never
  reads_matrices (Some (Unsatisfied named)) a w e is = let never : ⊥ = cc in absurd never
  reads_matrices (Some (Assigned value)) a w e is = let never : ⊥ = cc in absurd never
  reads_matrices (Some (Written counts)) a w e is = let same : as_written t counts ≡ a = cc in same ∙ is
  reads_matrices (Some (Refused refusal)) a w e is = let never : ⊥ = cc in absurd never
  reads_matrices (Some OutOfPlace) a w e is = let never : ⊥ = cc in absurd never

  -- the answers are those of the log, and this one is that of the event so many places behind its past
  answer_at : (answers : List (Answer V)) (past behind : List (Event V)) (i j : ℕ)
      → map (as_answer t) answers ≡ map (λ (e : Event V). Some e.answer) (past ++ behind) → i ≡ length past + j
      → option_map (as_answer t) (slice_get answers i) ≡ option_map (λ (e : Event V). Some e.answer) (slice_get behind j)
  answer_at answers past behind i j e is =
      sym (slice_get-map (as_answer t) answers i) ∙ ap (λ (l : List (Option (Result (account.Answer V) Told))). slice_get l i) e
      ∙ slice_get-map (λ (e : Event V). Some e.answer) (past ++ behind) i
      ∙ ap (option_map (λ (e : Event V). Some e.answer)) (get_behind past behind i j is)

module _ {V : Type 0} {m : Model V} (keeps : Keeps m) (goal : OptimizationGoal) (wall : Wall V) (claim : Claim V) (r : Rooms) (t : Lent V) where
  abbrev work : ℕ
  work = min all_places r.work

  abbrev cells : ℕ
  cells = min all_places r.cells

  abbrev ends : ℕ
  ends = min all_places r.ends

  -- the log of a claim's calls, all of which were accepted
  module _ (a b c d : account.Answer V) (past : List (Event V)) (ok : AllOk past) (are : calls_in past ≡ grading m goal wall claim) where
    abbrev last : List (Event V)
    last = four keeps goal wall claim work work cells ends a b c d past

    module _ (promised : Promised m (past ++ last)) where
      abbrev x : Account V
      x = account.account m past

      abbrev made : Finished V
      made = made_in m x.mode x

      abbrev y : Account V
      y = with_finished x (Some made)

      end_is : account.account m (past ++ last) ≡ y
      end_is = after_append m past last (opened m)

      claimed : claim_account m r goal wall claim ≡ y
      claimed =
          ap (after_accepted m (opened m)) (sym (map-append (λ (e : Event V). e.call) past last ∙ ap (λ (l : List (Call V)). l ++ judging r) are))
          ∙ sym (after_is m (past ++ last) (opened m) (ok_append past last ok ((a, refl), ((b, refl), ((c, refl), ((d, refl), tt)))))) ∙ end_is

      said : (answers : List (Answer V)) → length answers ≡ length past + 4
          → map (as_answer t) answers ≡ map (λ (e : Event V). Some e.answer) (past ++ last)
          → Said m t wall claim (claim_account m r goal wall claim) (row_in (from_end answers 4)) (row_in (from_end answers 2))
          (counts_in (from_end answers 1))
      said answers many e =
          let check = accepted (which_is_unsatisfied work) a in
          let finishing = accepted finalize b in
          let again = accepted (which_is_unsatisfied work) c in
          let writing = accepted (to_matrices cells ends) d in
          let one = promised.checks past work a (finishing ∷ again ∷ writing ∷ [], refl) in
          let two = check ∷ finishing ∷ [] in
          let three = check ∷ finishing ∷ again ∷ [] in
          let next = promised.checks (past ++ two) work c (writing ∷ [], sym (append_assoc past two (again ∷ writing ∷ []))) in
          let rows = accepted_constraints past in
          let same_rows : accepted_constraints (past ++ two) ≡ rows = all_append constraint_in past two ∙ append-nil rows in
          let fails_next : FirstFailing (Holds m) (constraints_kept m x rows) next.answer
          = subst₂ (λ (z : Account V) (cs : List (Row (List (Term V)))). FirstFailing (Holds m) (constraints_kept m z cs) next.answer)
          (after_append m past two (opened m)) same_rows next.fails_first in
          let mode : x.mode ≡ Prove true = ap (λ (z : Account V). z.mode) (sym end_is)
          ∙ proves keeps goal wall claim work work cells ends a b c d past promised ok are in
          let writes : d ≡ account.written (matrices_in m x.mode y made)
          = promised.answers (past ++ three) (to_matrices cells ends) d ([], sym (append_assoc past three (writing ∷ [])))
          ∙ ap (λ (z : Account V). account.answer_of m z (to_matrices cells ends)) (after_append m past three (opened m)) in
          let written : d ≡ account.written (Some (matrices_from m y made)) = writes
          ∙ ap (λ mode. account.written (matrices_in m mode y made)) mode in
          let row = reads_row t (from_end answers 4) a one.answer (answer_at t answers past last (length answers - 4) 0 e (omega arith)) one.is in
          let row_next = reads_row t (from_end answers 2) c next.answer
          (answer_at t answers past last (length answers - 2) 2 e (omega arith)) next.is in
          record {
            judged =
                subst (Judged m wall claim.squares.now claim.grade) (sym row)
                (judges keeps goal wall claim work work cells ends a b c d past promised ok are one.answer
                (subst (λ (z : Account V). FirstFailing (Holds m) (constraints_kept m z rows) one.answer) (sym end_is) one.fails_first));
            same = row_next ∙ one_answer (Holds m) (constraints_kept m x rows) next.answer one.answer fails_next one.fails_first ∙ sym row;
            done = made;
            finished = ap (λ (z : Account V). z.finished) claimed;
            matrices =
                reads_matrices t (from_end answers 1) d (Some (matrices_from m y made))
                (answer_at t answers past last (length answers - 1) 3 e (omega arith)) written
                ∙ ap (λ (z : Account V). account.written (Some (matrices_from m z made))) (sym claimed);
          }

module _ {V : Type 0} {m : Model V} (keeps : Keeps m) where
  pub answers_judge : AnswersJudge m
  answers_judge k r t goal wall claim calls answers is long promised run ok =
      let log = log_in r t calls answers in
      let whole : log ≡ log_of m k (claim_calls m r goal wall claim) = run ∙ ap (log_of m k) is in
      let o = opens m k (grading m goal wall claim) (judging r) (opened m) (grading_open m wall goal claim) refl
      (subst AllOk whole (all_ok r t calls answers ok)) in
      let e = closes m k o.then_on (min all_places r.work) (min all_places r.work) (min all_places r.cells)
      (min all_places r.ends) o.still_open o.ok in
      let behind = four keeps goal wall claim (min all_places r.work) (min all_places r.work) (min all_places r.cells)
      (min all_places r.ends) e.before e.finishing e.afterwards e.writing o.past in
      let splits : log ≡ o.past ++ behind = whole ∙ o.splits ∙ ap (λ (l : List (Event _)). o.past ++ l) e.is in
      let many : length calls ≡ length o.past + 4
      = omega (
        arith,
        length-map calls (as_call r),
        ap length is,
        length-append (grading m goal wall claim) (judging r),
        ap length o.they_are,
        length-map o.past (λ (e : Event _). e.call),
      ) in
      said keeps goal wall claim r t e.before e.finishing e.afterwards e.writing o.past o.past_ok o.they_are
      (subst (Promised m) splits promised) answers (omega arith)
      (answers_are r t calls answers (o.past ++ behind) splits (omega (arith, many, length-append o.past behind)) long)
