-- What is read of the answers of a run. Assumes nothing.
use Rattle.std.proofs.Common.{◌≡◌, ℕ, ◌≤◌, Bool, true, false, List, ◌∷◌, [], length, None, Ok, Err, Option, Result, IfOk, sym, refl, subst}
use Rattle.std.proofs.lemmas.Bool.{ltb-false}
use Rattle.variables.specs.declared.Refusal.{Refusal}
use Rattle.account.specs.Finish.{lacks}
use Rattle.account.specs.Refusals.{Lengths, when, first, opening_refusal}
use Rattle.tables.specs.Held.{Held, lengths}
use Rattle.matrices.specs.declared.ConstraintMatrices.{ConstraintMatrices}
use Rattle.calls.specs.declared.Call.{Call}
use Rattle.calls.specs.declared.Answer.{Answer}
use Rattle.calls.specs.Calls.{Beside}
use Rattle.runs.specs.declared.steps.Circuit.{Circuit}
use Rattle.runs.specs.Run.{Opens}
use Rattle.grading.specs.declared.judging.Verdict.{Verdict}
use Rattle.claims.specs.Verdicts.{Reading, unless_refused, refusal_in, from_end, row_in, counts_in, reading_in}
use Rattle.grading.specs.Reading.{read_by}

-- what follows from what a call answers
pub ok_more : {X E : Type 0} (P Q : X → Type 0) (r : Result X E) → IfOk r P → ((x : X) → P x → Q x) → IfOk r Q
ok_more P Q (Ok x) h f = f x h
ok_more P Q (Err e) h f = tt

-- A run that goes has an answer's place for each call.
room_by : (calls answers : ℕ) (k : Lengths) (b : Bool) → lacks calls answers ≡ b → None ≡ first (when b 19 ∷ opening_refusal k ∷ []) → calls ≤ answers
room_by calls answers k true is e = let never : ⊥ = cc in absurd never
room_by calls answers k false is e = ltb-false answers calls is

pub has_room : {V : Type 0} (calls : List (Call V)) (h h' : Held V) (b b' : Beside V) (answers answers' : List (Answer V)) (circuit : Circuit)
    → Opens calls h b answers (Ok circuit) h' b' answers' → length calls ≤ length answers
has_room calls h h' b b' answers answers' circuit o
    = room_by (length calls) (length answers) (lengths h) (lacks (length calls) (length answers)) refl o.refused

-- A verdict says what is read.
was_read : (reading now : Reading) (o : Result (Unit {0}) Refusal) → Ok now ≡ unless_refused o reading → (o ≡ Ok tt) × (reading ≡ now)
was_read reading now (Ok x) e = let same : now ≡ reading = cc in (refl, sym same)
was_read reading now (Err refusal) e = let never : ⊥ = cc in absurd never

pub said_by : {V : Type 0} (P : Option ℕ → Option ℕ → Option ConstraintMatrices → Type 0) (result : Result Verdict Refusal)
    (answers : List (Answer V)) → read_by result ≡ reading_in answers
    → (refusal_in answers ≡ Ok tt → P (row_in (from_end answers 4)) (row_in (from_end answers 2)) (counts_in (from_end answers 1)))
    → IfOk result (λ v. P v.before v.after v.matrices)
said_by P (Err refusal) answers e h = tt
said_by P (Ok v) answers e h =
    let p = was_read (record { before = row_in (from_end answers 4); after = row_in (from_end answers 2); matrices = counts_in (from_end answers 1) })
    (record { before = v.before; after = v.after; matrices = v.matrices }) (refusal_in answers) e in
    subst (λ (q : Reading). P q.before q.after q.matrices) p.1 (h p.0)
