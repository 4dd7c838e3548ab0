-- Steps one after another: what is so where some entries are taken, and what becomes of it as the next one is. Assumes nothing.
use Rattle.std.proofs.Common.{◌≡◌, ℕ, suc, ◌+◌, ◌-◌, ◌<◌, length, Ok, Err, Result, sym, refl, ap, ◌∙◌, subst, arith}
use Rattle.std.specs.Prelude.{OnErr}
use Rattle.field.specs.Laws.{Model}
use Rattle.variables.specs.declared.Refusal.{Refusal}
use Rattle.variables.specs.Refusals.{Told}
use Rattle.account.specs.Finish.{and_then}
use Rattle.tables.specs.Held.{State}
use Rattle.finishing.specs.Steps.{Picks, trimmed, next_entry, next_entries}
use Rattle.finalising.specs.Lent.{gives, Ready, KeepsUsed}
use Rattle.finalising.proofs.Leaves.{took}
use Rattle.finalising.proofs.Keeps.{Grows, grows_same, grows_further, step_grows, step_keeps, step_ready, keeps_further, keeps_terms}

module _ {V : Type 0} (m : Model V) (picks : Picks V) where
  -- a step within the places of a circuit's terms
  abbrev pub step_of : (at : ℕ) → State V → Result (State V) Told
  step_of at s = next_entry m picks (length s.tables.terms) at (trimmed s)

  -- one step, by what it answers
  pub step_answered : (first at : ℕ) (s t : State V) → Ready first at s → at < first → length t.tables.terms ≡ length s.tables.terms
      → step_of at s ≡ Ok (trimmed t) → KeepsUsed s t
  step_answered first at s t ready lt long e =
      step_keeps first at s t ready lt long (took m picks (length s.tables.terms) at (trimmed s) (trimmed t) ready.index e)

  pub outline_keeps : {X : Type 0} (r : Result X Refusal) (first at : ℕ) (s t merged : State V) → Ready first at s → at < first
      → length t.tables.terms ≡ length s.tables.terms → step_of at s ≡ gives (λ _. trimmed t) r → OnErr r (t ≡ merged) → KeepsUsed s merged → KeepsUsed s t
  outline_keeps (Ok x) first at s t merged ready lt long e left kept = step_answered first at s t ready lt long e
  outline_keeps (Err r) first at s t merged ready lt long e left kept = subst (KeepsUsed s) (sym left) kept

  -- what is left to do as one entry more is taken, or refused
  module _ (room at n : ℕ) (lt : at < n) (s : State V) where
    -- the steps after this one
    abbrev later : State V → Result (State V) Told
    later t = next_entries m picks room (suc at) (n - (at + 1)) t

    next_is : next_entries m picks room at (n - at) s ≡ and_then (next_entry m picks room at s) later
    next_is = let more : n - at ≡ suc (n - (at + 1)) = omega arith in ap (λ k. next_entries m picks room at k s) more

    next_more : (t : State V) → next_entry m picks room at s ≡ Ok t
        → next_entries m picks room (at + 1) (n - (at + 1)) t ≡ next_entries m picks room at (n - at) s
    next_more t e =
        let after : at + 1 ≡ suc at = omega arith in
        ap (λ k. next_entries m picks room k (n - (at + 1)) t) after ∙ sym (next_is ∙ ap (λ r. and_then r later) e)

    next_refused : (r : Told) → next_entry m picks room at s ≡ Err r → next_entries m picks room at (n - at) s ≡ Err r
    next_refused r e = next_is ∙ ap (λ r. and_then r later) e

  -- from `start`, where so many entries are to be taken, to `now`, where those below `at` are
  pub record Sofar (first at : ℕ) (start now : State V) : Type 0 where
    pub steps : let room = length start.tables.terms in
        next_entries m picks room at (first - at) (trimmed now) ≡ next_entries m picks room 0 first (trimmed start)
    pub ready : Ready first at now
    pub kept : KeepsUsed start now
    pub grows : Grows start.counts now.counts

  pub sofar_none : (first : ℕ) (s : State V) → Ready first 0 s → Sofar first 0 s s
  sofar_none first s ready =
      let all : first - 0 ≡ first = omega arith in record {
        steps = ap (λ k. next_entries m picks (length s.tables.terms) 0 k (trimmed s)) all;
        ready = ready;
        kept = keeps_terms s s.tables.terms refl refl;
        grows = grows_same s.counts;
      }

  module _ (first at : ℕ) (start now : State V) (sofar : Sofar first at start now) (lt : at < first) where
    abbrev room : ℕ
    room = length start.tables.terms

    -- the tables are as long as they were
    step_here : (r : Result (State V) Told) → step_of at now ≡ r → next_entry m picks room at (trimmed now) ≡ r
    step_here r e = ap (λ k. next_entry m picks k at (trimmed now)) (sym sofar.kept.long_terms) ∙ e

    pub sofar_more : (t : State V) → step_of at now ≡ Ok (trimmed t) → KeepsUsed now t → Sofar first (at + 1) start t
    sofar_more t e kept =
        let all = took m picks (length now.tables.terms) at (trimmed now) (trimmed t) sofar.ready.index e in
        let after : suc at ≡ at + 1 = omega arith in record {
          steps = next_more room at first lt (trimmed now) (trimmed t) (step_here _ e) ∙ sofar.steps;
          ready = subst (λ k. Ready first k t) after (step_ready first at now t sofar.ready lt kept.long_terms all);
          kept = keeps_further start now t sofar.grows sofar.kept kept;
          grows = grows_further start.counts now.counts t.counts sofar.grows (step_grows first at now t sofar.ready lt kept.long_terms all);
        }

    pub sofar_refused : (r : Told) → step_of at now ≡ Err r → next_entries m picks room 0 first (trimmed start) ≡ Err r
    sofar_refused r e = sym sofar.steps ∙ next_refused room at first lt (trimmed now) r (step_here _ e)

  pub sofar_all : (first at : ℕ) (start now : State V) → at ≡ first → Sofar first at start now
      → next_entries m picks (length start.tables.terms) 0 first (trimmed start) ≡ Ok (trimmed now)
  sofar_all first at start now e sofar =
      let none : first - at ≡ 0 = omega arith in
      sym sofar.steps ∙ ap (λ k. next_entries m picks (length start.tables.terms) at k (trimmed now)) none
