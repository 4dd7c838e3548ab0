-- The test for sound tables of a finished circuit says yes exactly where they are sound. Assumes nothing.
use Rattle.std.proofs.Common.{◌≡◌, ℕ, ◌+◌, ◌≤◌, Bool, true, false, cond, ◌↔◌, List, [], ◌∷◌, sym, refl}
use Rattle.std.specs.List.{list_all, AllByRecursion}
use Rattle.std.proofs.lemmas.Bool.{and_parts, and_from, ltb-true, lt-ltb, true≢false}
use Rattle.variables.specs.declared.Variable.{Variable}
use Rattle.variables.specs.declared.Variable.TheVariants.{Zero, One, Instance, Witness, SymbolicLc}
use Rattle.variables.specs.declared.Term.{Term}
use Rattle.variables.specs.Evaluate.{SymbolFree}
use Rattle.account.specs.declared.SynthesisMode.{SynthesisMode}
use Rattle.account.specs.declared.SynthesisMode.TheVariants.{Setup, Prove}
use Rattle.account.specs.Account.{KeepsMatrices}
use Rattle.account.proofs.Accepts.{within}
use Rattle.tables.specs.Held.{State}
use Rattle.tables.specs.Sound.{entries_of, sound}
use Rattle.tables.specs.Calls.{keeps_matrices}
use Rattle.tables.proofs.Soundness.{sound_when}
use Rattle.finishing.specs.Sound.{finished_fits, is_symbol_free, all_symbol_free, finished_of, lists_finished, sound_finished, SoundFinished}
use Rattle.finishing.specs.Laws.{SoundFinishedWhen}

-- a test that each of a list passes
list_iff : {X : Type 0} (test : X → Bool) (P : X → Type 0) → ((x : X) → (test x ≡ true) ↔ P x) → (xs : List X)
    → (list_all test xs ≡ true) ↔ AllByRecursion P xs
list_iff test P iff [] = (λ _. tt, λ _. refl)
list_iff test P iff (x ∷ xs) =
    let rest = list_iff test P iff xs in (
      λ e. let both = and_parts (test x) _ e in ((iff x).0 both.0, rest.0 both.1),
      λ h. and_from _ _ ((iff x).1 h.0) (rest.1 h.1),
    )

-- one that is made where matrices are kept
kept_iff : (mode : SynthesisMode) (b : Bool) → (cond (keeps_matrices mode) b true ≡ true) ↔ (KeepsMatrices mode → b ≡ true)
kept_iff Setup b = (λ e k. e, λ h. h tt)
kept_iff (Prove true) b = (λ e k. e, λ h. h tt)
kept_iff (Prove false) b = (λ e k. absurd k, λ h. refl)

free_iff : (n w : ℕ) (v : Variable) → (is_symbol_free n w v ≡ true) ↔ SymbolFree n w v
free_iff n w Zero = (λ _. tt, λ _. refl)
free_iff n w One = (λ _. tt, λ _. refl)
free_iff n w (Instance i) = (ltb-true i n, lt-ltb i n)
free_iff n w (Witness i) = (ltb-true i w, lt-ltb i w)
free_iff n w (SymbolicLc k) = (λ e. absurd (true≢false (sym e)), λ h. absurd h)

module _ {V : Type 0} where
  all_free_iff : (n w : ℕ) (ts : List (Term V)) → (all_symbol_free n w ts ≡ true) ↔ AllByRecursion (λ t. SymbolFree n w t.variable) ts
  all_free_iff n w ts = list_iff (λ t. is_symbol_free n w t.variable) (λ t. SymbolFree n w t.variable) (λ t. free_iff n w t.variable) ts

  module _ (s : State V) where
    -- the two tests of the finished lists
    spans_iff : (list_all (finished_fits s.counts.terms) (entries_of s) ≡ true)
        ↔ AllByRecursion (λ e. e.finished_start + e.finished_len ≤ s.counts.terms) (entries_of s)
    spans_iff =
        list_iff (finished_fits s.counts.terms) (λ e. e.finished_start + e.finished_len ≤ s.counts.terms)
        (λ e. within (e.finished_start + e.finished_len) s.counts.terms) (entries_of s)

    frees_iff : (list_all (all_symbol_free s.counts.instances s.counts.witnesses) (finished_of s) ≡ true)
        ↔ AllByRecursion (λ ts. AllByRecursion (λ t. SymbolFree s.counts.instances s.counts.witnesses t.variable) ts) (finished_of s)
    frees_iff = list_iff _ _ (all_free_iff s.counts.instances s.counts.witnesses) (finished_of s)

    tested : sound_finished s ≡ true → SoundFinished s
    unfolding sound_finished
    tested e =
        let both = and_parts (sound s) _ e in
        let lists = (kept_iff s.counts.mode (lists_finished s)).0 both.1 in
        record {
          given = (sound_when s).0 both.0;
          spans = λ k. spans_iff.0 (and_parts (list_all (finished_fits s.counts.terms) (entries_of s)) _ (lists k)).0;
          symbol_free = λ k. frees_iff.0 (and_parts (list_all (finished_fits s.counts.terms) (entries_of s)) _ (lists k)).1;
        }

    passed : SoundFinished s → sound_finished s ≡ true
    unfolding sound_finished
    passed h =
        and_from (sound s) _ ((sound_when s).1 h.given)
        ((kept_iff s.counts.mode (lists_finished s)).1 (λ k. and_from _ _ (spans_iff.1 (h.spans k)) (frees_iff.1 (h.symbol_free k))))

pub sound_finished_when : {V : Type 0} → SoundFinishedWhen V
sound_finished_when s = (tested s, passed s)
