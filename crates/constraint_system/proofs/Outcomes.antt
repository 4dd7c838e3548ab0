-- What follows from what a call answers and leaves. Assumes nothing.
use Rattle.std.proofs.Common.{◌≡◌, ℕ, Bool, true, false, not, List, Some, None, Ok, Err, Option, Result, IfOk, ◌↔◌, sym, refl, ap, subst, subst₂}
use Rattle.std.specs.List.{AllByRecursion}
use Rattle.std.specs.Option.{is_some, is_none}
use Rattle.std.proofs.lemmas.Bool.{true≢false}
use Rattle.field.specs.Laws.{Model}
use Rattle.variables.specs.declared.Refusal.{Refusal}
use Rattle.variables.specs.Refusals.{Told, answered}
use Rattle.account.specs.Calls.{Call, Answer}
use Rattle.account.specs.Rows.{Row, Holds, FirstFailing}
use Rattle.account.specs.Account.{opened}
use Rattle.account.specs.Refusals.{opening_refusal}
use Rattle.account.proofs.Checks.{one_answer}
use Rattle.tables.specs.declared.Counts.{Counts}
use Rattle.tables.specs.Held.{Held, State, lengths, KeepsBeyond}
use Rattle.tables.specs.Follows.{Shows, answer_by, answer_as}
use Rattle.tables.proofs.Clauses.{answer_told}
use Rattle.finishing.specs.Checks.{unless_refused}
use Rattle.finishing.specs.Follows.{FollowsFinished}
use Rattle.tables.proofs.Beyond.{calls_keep_beyond}
use Rattle.tables.proofs.FollowsSetting.{new_shows}
use Rattle.tables.specs.Calls.{Outcome, outcome, opened_counts, opened_tables, opening}

-- what holds of the answer of an accepted call and of what it leaves
pub when_done : {S X : Type 0} (o : Option Told) (a : X) (accepted before : S) (r : Result X Refusal) (t : S) (P : X → S → Type 0)
    → (o ≡ None → P a accepted) → outcome o a accepted before ≡ record { answer = answered r; state = t } → IfOk r (λ x. P x t)
when_done o a accepted before (Err e) t P h is = tt
when_done {S} {X} None a accepted before (Ok x) t P h is =
    let answer = ap (λ (z : Outcome S X). z.answer) is in
    let same : a ≡ x = cc in
    subst₂ P same (ap (λ (z : Outcome S X). z.state) is) (h refl)
when_done {S} {X} (Some refusal) a accepted before (Ok x) t P h is =
    let answer = ap (λ (z : Outcome S X). z.answer) is in let never : ⊥ = cc in absurd never

-- what holds of the answer alone
pub when_ok : {S X : Type 0} (o : Option Told) (a : X) (accepted before : S) (r : Result X Refusal) (t : S) (P : X → Type 0) → (o ≡ None → P a)
    → outcome o a accepted before ≡ record { answer = answered r; state = t } → IfOk r P
when_ok o a accepted before r t P h is = when_done o a accepted before r t (λ x _. P x) h is

-- what a test for nothing answers, by what it says of something
pub none_told : {X : Type 0} (o : Option X) (b : Bool) → is_some o ≡ not b → is_none o ≡ b
none_told None true e = refl
none_told None false e = absurd (true≢false (sym e))
none_told (Some x) true e = absurd (true≢false e)
none_told (Some x) false e = refl

-- calls that are refused alike
pub refused_alike : {S X Y : Type 0} (o : Option Told) (a : X) (b : Y) (accepted before : S) (refusal : Told) (t : S)
    → outcome o a accepted before ≡ record { answer = Err refusal; state = t } → outcome o b accepted before ≡ record { answer = Err refusal; state = t }
refused_alike {S} {X} None a b accepted before refusal t is =
    let answer = ap (λ (z : Outcome S X). z.answer) is in let never : ⊥ = cc in absurd never
refused_alike {S} {X} {Y} (Some r) a b accepted before refusal t is =
    let answer = ap (λ (z : Outcome S X). z.answer) is in
    let same : r ≡ refusal = cc in
    λ i. record { answer = Err (same i); state = (is i).state }

-- a check that names none says that all hold
pub none_satisfies : {V : Type 0} (m : Model V) (rs : List (Row m.ring.Member)) (answer : Option ℕ) → FirstFailing (Holds m) rs answer
    → (is_none answer ≡ true) ↔ AllByRecursion (Holds m) rs
none_satisfies m rs None h = (λ _. h, λ _. refl)
none_satisfies m rs (Some j) h = (
  λ e. absurd (true≢false (sym e)),
  λ all. let same = one_answer (Holds m) rs (Some j) None h all in let never : ⊥ = cc in absurd never,
)

-- calls on a finished circuit: what holds of an accepted answer, a refusal alike, and what follows from the account
pub when_answered : {X : Type 0} (o : Option Told) (a : X) (r : Result X Refusal) (P : X → Type 0) → (o ≡ None → P a) → unless_refused o a ≡ answered r → IfOk r P
when_answered o a (Err e) P h is = tt
when_answered None a (Ok x) P h is = let same : a ≡ x = cc in subst P same (h refl)
when_answered (Some refusal) a (Ok x) P h is = let never : ⊥ = cc in absurd never

pub answered_alike : {X Y : Type 0} (o : Option Told) (a : X) (b : Y) (refusal : Told) → unless_refused o a ≡ Err refusal → unless_refused o b ≡ Err refusal
answered_alike None a b refusal is = let never : ⊥ = cc in absurd never
answered_alike (Some r) a b refusal is = let same : r ≡ refusal = cc in ap Err same

pub follows_answered : {V X : Type 0} (m : Model V) (call : Call V) (f : X → Answer V) (a : Result X Told) (r : Result X Refusal) (s : State V)
    → a ≡ answered r → FollowsFinished m call (answer_as f a) s → FollowsFinished m call (answer_by f r) s
follows_answered m call f a r s is h =
    subst (λ z. FollowsFinished m call z s) (answer_told f r) (subst (λ z. FollowsFinished m call (answer_as f z) s) is h)

-- what opening leaves
module _ {V : Type 0} (m : Model V) (h : Held V) (c : Counts) (left : Held V) where
  opened_as : (o : Option Told) → opening_refusal (lengths h) ≡ o → outcome o opened_counts (opened_tables m h) h ≡ record { answer = Ok c; state = left }
      → KeepsBeyond h left × Shows (record { counts = c; tables = left }) (opened m)
  opened_as None e is =
      let answer = ap (λ (z : Outcome (Held V) Counts). z.answer) is in
      let counts : opened_counts ≡ c = cc in
      let tables : opened_tables m h ≡ left = ap (λ (z : Outcome (Held V) Counts). z.state) is in (
        subst (KeepsBeyond h) tables ((calls_keep_beyond m).new h e),
        subst₂ (λ k t. Shows (record { counts = k; tables = t }) (opened m)) counts tables (new_shows m h e),
      )
  opened_as (Some r) e is = let answer = ap (λ (z : Outcome (Held V) Counts). z.answer) is in let never : ⊥ = cc in absurd never

  pub opened_well : opening m h ≡ record { answer = Ok c; state = left } → KeepsBeyond h left × Shows (record { counts = c; tables = left }) (opened m)
  opened_well is = opened_as (opening_refusal (lengths h)) refl is
