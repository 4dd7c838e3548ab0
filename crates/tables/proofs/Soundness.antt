-- The test for sound tables says yes exactly where they are sound. Assumes nothing.
use Rattle.std.proofs.Common.{◌≡◌, ℕ, suc, ◌+◌, ◌≤◌, true, false, not, ◌↔◌, List, [], ◌∷◌, ◌++◌, length, Some, None, Option, sym, refl, ap, ◌∙◌, subst, arith}
use Rattle.std.specs.Prelude.{◌&&◌}
use Rattle.std.specs.List.{list_all, AllByRecursion}
use Rattle.std.specs.Option.{is_none}
use Rattle.std.proofs.lemmas.Bool.{and_parts, and_from, true≢false}
use Rattle.account.specs.declared.Mark.{Mark}
use Rattle.account.specs.declared.Mark.TheVariants.{Plain, A, B, C}
use Rattle.account.specs.declared.SynthesisMode.{SynthesisMode}
use Rattle.account.specs.declared.SynthesisMode.TheVariants.{Setup, Prove}
use Rattle.account.specs.Given.{Given, marks, KnownAfter, Triples, none, plain, triple}
use Rattle.account.specs.Finish.{lacks}
use Rattle.account.specs.Rows.{starts_from}
use Rattle.account.specs.Account.{KeepsMatrices}
use Rattle.account.specs.Refusals.{terms_refusal, values_fit as account_values_fit}
use Rattle.account.specs.Sound.{SoundLists}
use Rattle.account.proofs.Refuses.{some_none, lists_refused}
use Rattle.account.proofs.Accepts.{within, values_iff}
use Rattle.account.proofs.SoundLists.{plain_alone, many_constraints, none_where_plain, open_lists}
use Rattle.tables.specs.declared.Entry.{Entry}
use Rattle.tables.specs.Held.{State, lengths, room}
use Rattle.tables.specs.Sound.{in_triples, triples_due, span_fits, entries_of, given_of, account_of, values_fit, counts_fit, all_known, sound, SoundTables}
use Rattle.tables.specs.Laws.{SoundWhen}
use Rattle.tables.proofs.Holds.{same_marks}

none_iff : {X : Type 0} (o : Option X) → (is_none o ≡ true) ↔ (o ≡ None)
none_iff None = (λ _. refl, λ _. refl)
none_iff (Some x) = (λ e. absurd (true≢false (sym e)), λ e. absurd (some_none x _ refl e))

-- every entry's given list lies in the used terms
pub spans_iff : (used : ℕ) (es : List Entry) → (list_all (span_fits used) es ≡ true) ↔ AllByRecursion (λ e. e.given_start + e.given_len ≤ used) es
spans_iff used [] = (λ _. tt, λ _. refl)
spans_iff used (e ∷ es) =
    let here = within (e.given_start + e.given_len) used in
    let rest = spans_iff used es in (
      λ h. let both = and_parts (span_fits used e) _ h in (here.0 both.0, rest.0 both.1),
      λ h. and_from _ _ (here.1 h.0) (rest.1 h.1),
    )

-- marks in triples, and how many triples
triples_mean : (n : ℕ) (ms : List Mark) → in_triples n ms ≡ true → Triples ms × ((k : ℕ) → length (starts_from k ms) ≡ n)
triples_mean ℕ.zero [] e = (none, λ k. refl)
triples_mean (suc n) [] e = absurd (true≢false (sym e))
triples_mean ℕ.zero (Plain ∷ ms) e = let r = triples_mean 0 ms e in (plain r.0, λ k. r.1 (suc k))
triples_mean (suc n) (Plain ∷ ms) e = let r = triples_mean (suc n) ms e in (plain r.0, λ k. r.1 (suc k))
triples_mean (suc n) (A ∷ B ∷ C ∷ ms) e = let r = triples_mean n ms e in (triple r.0, λ k. ap suc (r.1 (suc (suc (suc k)))))
triples_mean n other e = absurd (true≢false (sym e))

plain_skipped : (n : ℕ) (ms : List Mark) → in_triples n (Plain ∷ ms) ≡ in_triples n ms
plain_skipped ℕ.zero ms = refl
plain_skipped (suc n) ms = refl

triples_test : {ms : List Mark} (k : ℕ) → Triples ms → in_triples (length (starts_from k ms)) ms ≡ true
triples_test k none = refl
triples_test k (plain {ms} t) = plain_skipped (length (starts_from (suc k) ms)) ms ∙ triples_test (suc k) t
triples_test k (triple t) = triples_test (suc (suc (suc k))) t

module _ {V : Type 0} where
  -- the triples that are due, by mode
  sound_lists : (mode : SynthesisMode) (n w count : ℕ) (given : List (Given V)) → KnownAfter n w [] given → in_triples (triples_due mode count) (marks given) ≡ true
      → SoundLists mode n w count given None
  sound_lists mode n w count given known e =
      open_lists mode n w count given (record { terms = known; triples = there.0 }) (λ k. many_constraints given ∙ there.1 0 ∙ due_kept mode k)
      (λ bare. plain_alone 0 there.0 (there.1 0 ∙ due_bare mode bare))
    where
      there : Triples (marks given) × ((k : ℕ) → length (starts_from k (marks given)) ≡ triples_due mode count)
      there = triples_mean (triples_due mode count) (marks given) e

      due_kept : (mode : SynthesisMode) → KeepsMatrices mode → triples_due mode count ≡ count
      due_kept Setup k = refl
      due_kept (Prove true) k = refl
      due_kept (Prove false) k = absurd k

      due_bare : (mode : SynthesisMode) → (KeepsMatrices mode → ⊥) → triples_due mode count ≡ 0
      due_bare Setup k = absurd (k tt)
      due_bare (Prove true) k = absurd (k tt)
      due_bare (Prove false) k = refl

  due_there : (mode : SynthesisMode) (n w count : ℕ) (given : List (Given V)) → SoundLists mode n w count given None → length (starts_from 0 (marks given)) ≡ triples_due mode count
  due_there Setup n w count given h = sym (many_constraints given) ∙ h.triples tt
  due_there (Prove true) n w count given h = sym (many_constraints given) ∙ h.triples tt
  due_there (Prove false) n w count given h = sym (many_constraints given) ∙ ap length (none_where_plain given (h.bare (λ k. k)))

  triples_fit : (mode : SynthesisMode) (n w count : ℕ) (given : List (Given V)) → SoundLists mode n w count given None → in_triples (triples_due mode count) (marks given) ≡ true
  triples_fit mode n w count given h =
      subst (λ due. in_triples due (marks given) ≡ true) (due_there mode n w count given h) (triples_test 0 h.known.triples)

  -- every term is known
  known_iff : (n w : ℕ) (before : List Mark) (given : List (Given V)) → (all_known n w before given ≡ true) ↔ KnownAfter n w before given
  known_iff n w before [] = (λ _. tt, λ _. refl)
  known_iff n w before (g ∷ gs) =
      let none = none_iff (terms_refusal n w before 0 0 g.terms) in
      let here = (lists_refused n w before 0 g.terms).known in
      let rest = known_iff n w (before ++ g.mark ∷ []) gs in (
        λ e. let both = and_parts (is_none (terms_refusal n w before 0 0 g.terms)) _ e in (here.0 (none.0 both.0), rest.0 both.1),
        λ h. and_from _ _ (none.1 (here.1 h.0)) (rest.1 h.1),
      )

  -- the counts of values fit the tables where those of the account do
  values_same : (mode : SynthesisMode) (s : State V) → values_fit mode s ≡ account_values_fit mode (lengths s.tables) (account_of s)
  values_same Setup s = refl
  values_same (Prove matrices) s = ap (λ w. not (lacks s.counts.instances (room s.tables.instances)) && not (lacks w (room s.tables.witnesses))) (omega arith)

  -- each part of the test
  module _ (s : State V) where
    tested : sound s ≡ true → SoundTables s
    unfolding sound
    tested e =
        let one = and_parts (counts_fit s) _ e in
        let two = and_parts (list_all (span_fits s.counts.terms) (entries_of s)) _ one.1 in
        let three = and_parts (all_known s.counts.instances s.counts.witnesses [] (given_of s)) _ two.1 in
        let terms = and_parts (not (lacks s.counts.terms (room s.tables.terms))) _ one.0 in
        let entries = and_parts (not (lacks s.counts.entries (room s.tables.index))) _ terms.1 in
        let values = (values_iff s.counts.mode (lengths s.tables) (account_of s)).0 (sym (values_same s.counts.mode s) ∙ entries.1) in
        let in_marks = subst (λ ms. in_triples (triples_due s.counts.mode s.counts.constraints) ms ≡ true) (same_marks s) three.1 in
        record {
          terms = (within _ _).0 terms.0;
          entries = (within _ _).0 entries.0;
          first = values.first;
          instances = values.instances;
          witnesses = λ k. omega (arith, values.witnesses k);
          spans = (spans_iff s.counts.terms (entries_of s)).0 two.0;
          lists = sound_lists s.counts.mode _ _ s.counts.constraints (given_of s) ((known_iff _ _ [] (given_of s)).0 three.0) in_marks;
        }

    passed : SoundTables s → sound s ≡ true
    unfolding sound
    passed h =
        let fit = (values_iff s.counts.mode (lengths s.tables) (account_of s)).1 (record { first = h.first; instances = h.instances; witnesses = λ k. omega (arith, h.witnesses k) }) in
        let values = values_same s.counts.mode s ∙ fit in
        let in_marks = subst (λ ms. in_triples (triples_due s.counts.mode s.counts.constraints) ms ≡ true) (sym (same_marks s)) (triples_fit s.counts.mode _ _ s.counts.constraints (given_of s) h.lists) in
        and_from _ _ (and_from _ _ ((within _ _).1 h.terms) (and_from _ _ ((within _ _).1 h.entries) values))
        (and_from _ _ ((spans_iff s.counts.terms (entries_of s)).1 h.spans) (and_from _ _ ((known_iff _ _ [] (given_of s)).1 h.lists.known.terms) in_marks))

pub sound_when : {V : Type 0} → SoundWhen V
sound_when s = (tested s, passed s)
