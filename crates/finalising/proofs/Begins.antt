-- Sound tables have what finalising asks for, before and after the uses are counted. Assumes nothing.
use Rattle.std.proofs.Common.{◌≡◌, ℕ, suc, ◌+◌, ◌≤◌, true, false, List, [], ◌∷◌, ◌++◌, map, length, take, drop, sym, refl, ap, ◌∙◌, subst, ap₂, arith, length-append}
use lib.ListN.{length-map}
use Rattle.std.specs.Prelude.{◌&&◌}
use Rattle.std.specs.List.{list_all, AllByRecursion}
use Rattle.std.proofs.ByRecursion.{All-weaker}
use Rattle.std.proofs.lemmas.Bool.{true≢false}
use Rattle.std.proofs.lemmas.List.{length-take-le, length-drop, length-take, take-take, take_at, drop-take}
use Rattle.variables.specs.declared.Variable.{Variable}
use Rattle.variables.specs.declared.Variable.TheVariants.{Zero, One, Instance, Witness, SymbolicLc}
use Rattle.variables.specs.declared.Term.{Term}
use Rattle.account.specs.declared.Mark.{Mark}
use Rattle.account.specs.declared.Mark.TheVariants.{A}
use Rattle.account.specs.declared.SynthesisMode.{SynthesisMode}
use Rattle.account.specs.declared.SynthesisMode.TheVariants.{Setup, Prove}
use Rattle.account.specs.Given.{Given, marks, lists, marked, KnownVariable, KnownAfter}
use Rattle.account.specs.Rows.{starts_from}
use Rattle.account.specs.Account.{KeepsMatrices}
use Rattle.account.specs.Refusals.{limit}
use Rattle.account.proofs.SoundLists.{many_constraints}
use Rattle.tables.specs.declared.Counts.{Counts}
use Rattle.tables.specs.declared.Entry.{Entry}
use Rattle.tables.specs.Held.{State, counted}
use Rattle.tables.specs.Sound.{given_in, span_fits, entries_of, given_of, sound}
use Rattle.tables.specs.Calls.{keeps_matrices}
use Rattle.tables.proofs.Puts.{counted_long}
use Rattle.tables.proofs.Soundness.{spans_iff, sound_when}
use Rattle.finishing.proofs.Turns.{uses_long}
use Rattle.finishing.specs.Steps.{with_uses}
use Rattle.finishing.specs.Finalising.{as_given}
use Rattle.finalising.specs.Uses.{SymbolBelow, ListsBelow}
use Rattle.finalising.specs.Lent.{lent, EachBelow, Ready, KeepsUsed}
use Rattle.finalising.specs.Finishing.{Finishable}

pub matrices_kept : (mode : SynthesisMode) → keeps_matrices mode ≡ true → KeepsMatrices mode
matrices_kept Setup e = tt
matrices_kept (Prove true) e = tt
matrices_kept (Prove false) e = absurd (true≢false (sym e))

-- a known symbol is below the number of the list that names it
symbol_below : (n w : ℕ) (before : List Mark) (k : ℕ) → length before ≡ k → (v : Variable) → KnownVariable n w before v → SymbolBelow k v
symbol_below n w before k e Zero h = tt
symbol_below n w before k e One h = tt
symbol_below n w before k e (Instance i) h = tt
symbol_below n w before k e (Witness i) h = tt
symbol_below n w before k e (SymbolicLc j) h = omega (arith, e, h.0)

symbol_lower : (k n : ℕ) → k ≤ n → (v : Variable) → SymbolBelow k v → SymbolBelow n v
symbol_lower k n le Zero h = tt
symbol_lower k n le One h = tt
symbol_lower k n le (Instance i) h = tt
symbol_lower k n le (Witness i) h = tt
symbol_lower k n le (SymbolicLc j) h = omega (arith, le, h)

few_starts : (ms : List Mark) (k : ℕ) → length (starts_from k ms) ≤ length ms
few_starts [] k = omega arith
few_starts (A ∷ ms) k = omega (arith, few_starts ms (suc k))
few_starts (other ∷ ms) k = omega (arith, few_starts ms (suc k))

module _ {V : Type 0} where
  each_below : (n w : ℕ) (before : List Mark) (k : ℕ) → length before ≡ k → (given : List (Given V)) → KnownAfter n w before given
      → EachBelow k (lists given)
  each_below n w before k e [] h = tt
  each_below n w before k e (g ∷ gs) h = (
    All-weaker _ _ (λ (t : Term V) known. symbol_below n w before k e t.variable known) g.terms h.0,
    each_below n w (before ++ g.mark ∷ []) (suc k) (omega (arith, e, length-append before (g.mark ∷ []))) gs h.1,
  )

  -- so all name only symbols below the number of lists
  lists_below : (k n : ℕ) (ls : List (List (Term V))) → k + length ls ≤ n → EachBelow k ls → ListsBelow n ls
  lists_below k n [] le h = tt
  lists_below k n (l ∷ ls) le h =
      let lower = λ (t : Term V) (below : SymbolBelow k t.variable). symbol_lower k n (omega (arith, le)) t.variable below in
      (All-weaker _ _ lower l h.0, lists_below (suc k) n ls (omega (arith, le)) h.1)

  -- given lists that lie in the places that count
  given_counted : (used : ℕ) → used ≤ limit → (ts : List (Term V)) (es : List Entry) → AllByRecursion (λ e. e.given_start + e.given_len ≤ used) es
      → map (given_in (counted ts)) es ≡ map (given_in ts) es
  given_counted used few ts [] h = refl
  given_counted used few ts (e ∷ es) h =
      let here : take e.given_len (drop e.given_start (counted ts)) ≡ take e.given_len (drop e.given_start ts)
      = sym (drop-take e.given_start e.given_len (counted ts))
      ∙ ap (drop e.given_start) (take-take (e.given_start + e.given_len) limit ts (omega (arith, h.0, few)))
      ∙ drop-take e.given_start e.given_len ts in
      ap₂ (λ l gs. marked e.mark l ∷ gs) here (given_counted used few ts es h.1)

  -- of sound tables, where matrices are kept
  pub finishable : (s : State V) → sound s ≡ true → keeps_matrices s.counts.mode ≡ true → (i w : List V)
      → Finishable (lent s.counts (counted s.tables.terms) (counted s.tables.index) i w)
  finishable s h k i w =
      let t = (sound_when s).0 h in
      let es = entries_of s in
      let starts = few_starts (marks (given_of s)) 0 in
      let many_marks = length-map (given_of s) (λ (g : Given V). g.mark) in
      let many_lists = length-map es (given_in s.tables.terms) in
      let many_entries = counted_long s.tables.index s.counts.entries t.entries in
      let written = t.lists.triples (matrices_kept s.counts.mode k) in
      let known = each_below _ _ [] 0 refl (given_of s) t.lists.known.terms in
      record {
        terms = omega (arith, t.terms, length-take limit s.tables.terms);
        few_terms = omega (arith, length-take limit s.tables.terms);
        index = omega (arith, t.entries, length-take limit s.tables.index);
        few_entries = omega (arith, length-take limit s.tables.index);
        constraints = omega (arith, written, many_constraints (given_of s), starts, many_marks, many_lists, many_entries);
        given = (spans_iff s.counts.terms es).1 t.spans;
        known = subst (λ gs. EachBelow 0 (lists gs)) (sym (given_counted s.counts.terms (omega (arith, t.terms)) s.tables.terms es t.spans)) known;
      }

-- with the uses counted the marks and given columns stay
module _ {V : Type 0} (ls : List (List (Term V))) where
  uses_given : (ts : List (Term V)) (k : ℕ) (es : List Entry) → map (given_in ts) (with_uses ls k es) ≡ map (given_in ts) es
  uses_given ts k [] = refl
  uses_given ts k (e ∷ es) = ap (λ gs. given_in ts e ∷ gs) (uses_given ts (suc k) es)

  uses_spans : (used k : ℕ) (es : List Entry) → list_all (span_fits used) (with_uses ls k es) ≡ list_all (span_fits used) es
  uses_spans used k [] = refl
  uses_spans used k (e ∷ es) = ap (λ b. span_fits used e && b) (uses_spans used (suc k) es)

  uses_as_given : (k : ℕ) (es : List Entry) → map as_given (with_uses ls k es) ≡ map as_given es
  uses_as_given k [] = refl
  uses_as_given k (e ∷ es) = ap (λ r. as_given e ∷ r) (uses_as_given (suc k) es)

module _ {V : Type 0} (c : Counts) (ts : List (Term V)) (index : List Entry) (i w : List V) (f : Finishable (lent c ts index i w)) where
  abbrev es : List Entry
  es = take c.entries index

  es_long : length es ≡ c.entries
  es_long = length-take-le c.entries index f.index

  -- what is asked for to count them
  pub spans_there : list_all (span_fits (length ts)) es ≡ true
  spans_there = (spans_iff (length ts) es).1 (All-weaker _ _ (λ e lies. omega (arith, lies, f.terms)) es ((spans_iff c.terms es).0 f.given))

  pub known_there : ListsBelow (length es) (lists (map (given_in ts) es))
  known_there =
      let gs = map (given_in ts) es in
      lists_below 0 (length es) (lists gs) (omega (arith, length-map gs (λ (g : Given V). g.terms), length-map es (given_in ts))) f.known

  module _ (ls : List (List (Term V))) (us : List Entry) (e : us ≡ with_uses ls 0 es) where
    us_long : length us ≡ c.entries
    us_long = ap length e ∙ uses_long ls 0 es ∙ es_long

    front : take c.entries (us ++ drop c.entries index) ≡ us
    front = take_at us (drop c.entries index) c.entries us_long

    all_long : length (us ++ drop c.entries index) ≡ length index
    all_long = omega (arith, length-append us (drop c.entries index), us_long, length-drop c.entries index, f.index)

    -- and to take the steps then
    pub ready : Ready c.entries 0 (lent c ts (us ++ drop c.entries index) i w)
    ready = record {
      terms = f.terms;
      few_terms = f.few_terms;
      index = omega (arith, all_long, f.index);
      few_entries = omega (arith, all_long, f.few_entries);
      entries = omega arith;
      constraints = f.constraints;
      given = ap (list_all (span_fits c.terms)) (front ∙ e) ∙ uses_spans ls c.terms 0 es ∙ f.given;
      known = subst (λ gs. EachBelow 0 (lists gs)) (sym (ap (map (given_in ts)) (front ∙ e) ∙ uses_given ls ts 0 es)) f.known;
      finished = refl;
    }

    -- what stays from there on was there before
    pub kept_from_start : (after : State V) → KeepsUsed (lent c ts (us ++ drop c.entries index) i w) after → KeepsUsed (lent c ts index i w) after
    kept_from_start after h = record {
      terms = h.terms;
      index = h.index ∙ ap (map as_given) (front ∙ e) ∙ uses_as_given ls 0 es;
      witnesses = h.witnesses;
      setup = h.setup;
      long_terms = h.long_terms;
      long_index = h.long_index ∙ all_long;
      long_witnesses = h.long_witnesses;
    }
