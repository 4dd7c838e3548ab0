-- What steps keep, and that they leave what the next one asks for. Assumes nothing.
use Rattle.std.proofs.Common.{◌≡◌, ℕ, suc, ◌+◌, ◌<◌, ◌≤◌, Bool, true, List, [], ◌∷◌, ◌++◌, map, length, get_or, take, sym, refl, ap, ◌∙◌, subst, arith, length-append}
use Rattle.std.specs.Prelude.{slice_set}
use Rattle.std.specs.List.{list_all}
use Rattle.std.proofs.lemmas.List.{length-set, length-take, length-take-le, take-take, take_at, take-map, map-set, get_or-map, set-get_or, take_more_set}
use Rattle.std.proofs.lemmas.List.Folds.{list_all-append, list_all-map}
use Rattle.std.proofs.lemmas.Bool.{and_parts, and_from}
use Rattle.std.proofs.ByRecursion.{All-weaker}
use Rattle.variables.specs.declared.Term.{Term}
use Rattle.account.specs.Given.{Given, lists, marked}
use Rattle.account.specs.Account.{KeepsValues}
use Rattle.account.proofs.Lists.{map_same}
use Rattle.account.proofs.Accepts.{within}
use Rattle.tables.specs.declared.Counts.{Counts}
use Rattle.tables.specs.declared.Entry.{Entry}
use Rattle.tables.specs.Held.{State}
use Rattle.tables.specs.Sound.{given_in, span_fits}
use Rattle.tables.proofs.Puts.{put_long, part_before}
use Rattle.tables.proofs.Soundness.{spans_iff}
use Rattle.finishing.proofs.Parts.{part_same}
use Rattle.finishing.specs.Layout.{with_finished}
use Rattle.finishing.specs.Sound.{finished_fits}
use Rattle.finishing.specs.Finalising.{as_given}
use Rattle.finishing.specs.Steps.{trimmed, entry_at}
use Rattle.finalising.specs.Uses.{AllBelow}
use Rattle.finalising.specs.Lent.{EachBelow, Ready, KeepsUsed}
use Rattle.finalising.proofs.Leaves.{Took}

-- where a test passes on each item, so does one that passes wherever it does
pub passes_weaker : {X : Type 0} (p q : X → Bool) → ((x : X) → p x ≡ true → q x ≡ true) → (xs : List X) → list_all p xs ≡ true → list_all q xs ≡ true
passes_weaker p q f [] h = refl
passes_weaker p q f (x ∷ xs) h = let both = and_parts (p x) _ h in and_from _ _ (f x both.0) (passes_weaker p q f xs both.1)

-- and it passes on any one of them
passes_at : {X : Type 0} (p : X → Bool) (xs : List X) (n i : ℕ) (d : X) → i < n → i < length xs → list_all p (take n xs) ≡ true
    → p (get_or xs i d) ≡ true
passes_at p [] n i d lt there h = absurd (omega arith)
passes_at p (x ∷ xs) ℕ.zero i d lt there h = absurd (omega arith)
passes_at p (x ∷ xs) (suc n) ℕ.zero d lt there h = (and_parts (p x) _ h).0
passes_at p (x ∷ xs) (suc n) (suc i) d lt there h = passes_at p xs n i d (omega arith) (omega arith) (and_parts (p x) _ h).1

-- an entry that is noted keeps its mark and given columns
noted_given : (es : List Entry) (at start len : ℕ) (d : Entry) → at < length es
    → map as_given (slice_set es at (with_finished start len (get_or es at d))) ≡ map as_given es
noted_given es at start len d lt =
    map-set as_given es at (with_finished start len (get_or es at d))
    ∙ ap (slice_set (map as_given es) at) (sym (get_or-map as_given es at d (as_given d) lt)) ∙ set-get_or (map as_given es) at (as_given d)

-- whether given lists fit goes by the given columns alone
pub spans_alike : (used : ℕ) (es fs : List Entry) → map as_given fs ≡ map as_given es → list_all (span_fits used) es ≡ true
    → list_all (span_fits used) fs ≡ true
spans_alike used es fs alike h =
    sym (list_all-map (span_fits used) as_given fs) ∙ ap (list_all (span_fits used)) alike ∙ list_all-map (span_fits used) as_given es ∙ h

-- so many of the first are the same where more are
pub fewer_same : {X : Type 0} (xs ys : List X) (n k : ℕ) → n ≤ k → take k xs ≡ take k ys → take n xs ≡ take n ys
fewer_same xs ys n k le e = sym (take-take n k xs le) ∙ ap (take n) e ∙ take-take n k ys le

-- and alike but for their finished columns
pub fewer_alike : (es fs : List Entry) (n k : ℕ) → n ≤ k → map as_given (take k es) ≡ map as_given (take k fs)
    → map as_given (take n es) ≡ map as_given (take n fs)
fewer_alike es fs n k le e =
    let more = take-map as_given k es ∙ e ∙ sym (take-map as_given k fs) in
    sym (take-map as_given n es) ∙ fewer_same (map as_given es) (map as_given fs) n k le more ∙ take-map as_given n fs

-- no number is less than it was, and the mode stays
pub record Grows (c d : Counts) : Type 0 where
  pub terms : c.terms ≤ d.terms
  pub entries : c.entries ≤ d.entries
  pub witnesses : c.witnesses ≤ d.witnesses
  pub mode : d.mode ≡ c.mode

module _ {V : Type 0} where
  -- given lists go by the given columns alone
  given_alike : (terms : List (Term V)) (es : List Entry) → map (given_in terms) (map as_given es) ≡ map (given_in terms) es
  given_alike terms [] = refl
  given_alike terms (e ∷ es) = ap (λ l. given_in terms e ∷ l) (given_alike terms es)

  -- the given lists of entries with the same given columns, which lie in places that stay
  pub given_same : (before now : List (Term V)) (es fs : List Entry) (used : ℕ) → take used now ≡ take used before → map as_given fs ≡ map as_given es
      → list_all (span_fits used) es ≡ true → map (given_in now) fs ≡ map (given_in before) es
  given_same before now es fs used same alike fit =
      sym (given_alike now fs) ∙ ap (map (given_in now)) alike ∙ given_alike now es
      ∙ map_same (given_in now) (given_in before) es
      (All-weaker _ _ (λ e h. ap (marked e.mark) (part_same used e.given_start e.given_len now before same h)) es ((spans_iff used es).0 fit))

  -- each list names only symbols below its own number
  below_at : (terms : List (Term V)) (es : List Entry) (n k i : ℕ) (d : Entry) → i < n → i < length es
      → EachBelow k (lists (map (given_in terms) (take n es)))
      → AllBelow (k + i) (given_in terms (get_or es i d)).terms
  below_at terms [] n k i d lt there h = absurd (omega arith)
  below_at terms (e ∷ es) ℕ.zero k i d lt there h = absurd (omega arith)
  below_at terms (e ∷ es) (suc n) k ℕ.zero d lt there h =
      let same : k ≡ k + 0 = omega arith in subst (λ j. AllBelow j (given_in terms e).terms) same h.0
  below_at terms (e ∷ es) (suc n) k (suc i) d lt there h =
      let same : suc k + i ≡ k + suc i = omega arith in
      subst (λ j. AllBelow j (given_in terms (get_or es i d)).terms) same (below_at terms es n (suc k) i d (omega arith) (omega arith) h.1)

  -- a circuit over its places, before and after an entry is taken
  module _ (first at : ℕ) (s t : State V) (ready : Ready first at s) (lt : at < first)
      (long : length t.tables.terms ≡ length s.tables.terms) (took : Took at (trimmed s) (trimmed t)) where
    pub step_grows : Grows s.counts t.counts
    step_grows = record { terms = omega (arith, took.used); entries = omega (arith, took.entries); witnesses = took.count; mode = took.mode }

    abbrev own : Entry
    own = with_finished took.start took.len (entry_at s at)

    abbrev noted : List Entry
    noted = slice_set s.tables.index at own

    there : at < length s.tables.index
    there = omega (arith, ready.entries, ready.index)

    places : s.counts.entries + length took.rows ≤ length noted
    places = omega (arith, took.entries, took.places, length-set s.tables.index at own)

    long_index : length t.tables.index ≡ length s.tables.index
    long_index =
        ap length took.index ∙ put_long noted s.counts.entries took.rows places ∙ length-set s.tables.index at own

    pub step_keeps : KeepsUsed s t
    step_keeps =
        let used = s.counts.terms in
        let n = s.counts.entries in record {
          terms =
              sym (take-take used t.counts.terms t.tables.terms (omega (arith, took.used))) ∙ ap (take used) took.terms
              ∙ take_at (take used s.tables.terms) took.more used (length-take-le used s.tables.terms ready.terms);
          index =
              ap (λ l. map as_given (take n l)) took.index ∙ ap (map as_given) (part_before noted n took.rows places 0 n (omega arith))
              ∙ sym (take-map as_given n noted)
              ∙ ap (take n) (noted_given s.tables.index at took.start took.len _ there) ∙ take-map as_given n s.tables.index;
          witnesses = took.witnesses;
          setup = took.setup;
          long_terms = long;
          long_index = long_index;
          long_witnesses = took.long;
        }

    finished_front : take (suc at) t.tables.index ≡ take at s.tables.index ++ own ∷ []
    finished_front =
        let next : suc at ≡ at + 1 = omega arith in
        ap (take (suc at)) took.index ∙ part_before noted s.counts.entries took.rows places 0 (suc at) (omega (arith, ready.entries))
        ∙ ap (λ i. take i noted) next ∙ take_more_set s.tables.index at own there

    pub step_ready : Ready first (suc at) t
    step_ready =
        let kept = step_keeps in
        let used = s.counts.terms in
        let more = t.counts.terms in
        let longer : used ≤ more = step_grows.terms in
        let alike = fewer_alike t.tables.index s.tables.index first s.counts.entries ready.entries kept.index in
        let span : (e : Entry) → span_fits used e ≡ true → span_fits more e ≡ true
        = λ e h. let end = e.given_start + e.given_len in (within end more).1 (let fits = (within end used).0 h in omega arith) in
        let finished : (e : Entry) → finished_fits used e ≡ true → finished_fits more e ≡ true
        = λ e h. let end = e.finished_start + e.finished_len in (within end more).1 (let fits = (within end used).0 h in omega arith) in
        let given = given_same s.tables.terms t.tables.terms (take first s.tables.index) (take first t.tables.index) used kept.terms alike ready.given in
        let front = take used s.tables.terms in
        let front_long : length front ≡ used = length-take-le used s.tables.terms ready.terms in
        record {
          terms = omega (arith, ap length took.terms, took.used, length-take more t.tables.terms, length-append front took.more);
          few_terms = omega (arith, ready.few_terms);
          index = omega (arith, took.places, long_index);
          few_entries = omega (arith, ready.few_entries, long_index);
          entries = omega (arith, ready.entries, step_grows.entries);
          constraints = omega (arith, ready.constraints, took.constraints, took.entries);
          given =
              passes_weaker (span_fits used) (span_fits more) span (take first t.tables.index)
              (spans_alike used (take first s.tables.index) (take first t.tables.index) alike ready.given);
          known = subst (λ (l : List (Given V)). EachBelow 0 (lists l)) (sym given) ready.known;
          finished =
              ap (list_all (finished_fits more)) finished_front ∙ list_all-append (finished_fits more) (take at s.tables.index) (own ∷ [])
              ∙ and_from _ _ (passes_weaker (finished_fits used) (finished_fits more) finished (take at s.tables.index) ready.finished)
              (and_from _ _ ((within (took.start + took.len) more).1 took.span) refl);
        }

  -- what merging asks for
  module _ (first at : ℕ) (s : State V) (ready : Ready first at s) (lt : at < first) where
    pub given_fits : span_fits s.counts.terms (entry_at s at) ≡ true
    given_fits = passes_at (span_fits s.counts.terms) s.tables.index first at _ lt (omega (arith, ready.entries, ready.index)) ready.given

    pub given_below : AllBelow (length (take at s.tables.index)) (given_in s.tables.terms (entry_at s at)).terms
    given_below =
        let there : at < length s.tables.index = omega (arith, ready.entries, ready.index) in
        let same : 0 + at ≡ length (take at s.tables.index) = omega (arith, length-take-le at s.tables.index (omega arith)) in
        subst (λ k. AllBelow k (given_in s.tables.terms (entry_at s at)).terms) same
        (below_at s.tables.terms s.tables.index first 0 at _ lt there ready.known)

  -- steps one after another
  pub keeps_further : (s t u : State V) → Grows s.counts t.counts → KeepsUsed s t → KeepsUsed t u → KeepsUsed s u
  keeps_further s t u grows h k = record {
    terms = fewer_same u.tables.terms t.tables.terms s.counts.terms t.counts.terms grows.terms k.terms ∙ h.terms;
    index = fewer_alike u.tables.index t.tables.index s.counts.entries t.counts.entries grows.entries k.index ∙ h.index;
    witnesses = fewer_same u.tables.witnesses t.tables.witnesses s.counts.witnesses t.counts.witnesses grows.witnesses k.witnesses ∙ h.witnesses;
    setup = λ none. k.setup (subst (λ mode. KeepsValues mode → ⊥) (sym grows.mode) none) ∙ h.setup none;
    long_terms = k.long_terms ∙ h.long_terms;
    long_index = k.long_index ∙ h.long_index;
    long_witnesses = k.long_witnesses ∙ h.long_witnesses;
  }

  -- the numbers afterwards do not matter
  pub keeps_at : (s t : State V) (c : Counts) → KeepsUsed s t → KeepsUsed s (record t { counts = c })
  keeps_at s t c h = record {
    terms = h.terms;
    index = h.index;
    witnesses = h.witnesses;
    setup = h.setup;
    long_terms = h.long_terms;
    long_index = h.long_index;
    long_witnesses = h.long_witnesses;
  }

  -- other terms behind those in use
  pub keeps_terms : (s : State V) (now : List (Term V)) → take s.counts.terms now ≡ take s.counts.terms s.tables.terms → length now ≡ length s.tables.terms
      → KeepsUsed s (record s { tables = record s.tables { terms = now } })
  keeps_terms s now same long = record {
    terms = same;
    index = refl;
    witnesses = refl;
    setup = λ _. refl;
    long_terms = long;
    long_index = refl;
    long_witnesses = refl;
  }

pub grows_same : (c : Counts) → Grows c c
grows_same c = record { terms = omega arith; entries = omega arith; witnesses = omega arith; mode = refl }

pub grows_further : (c d e : Counts) → Grows c d → Grows d e → Grows c e
grows_further c d e h k = record {
  terms = omega (arith, h.terms, k.terms);
  entries = omega (arith, h.entries, k.entries);
  witnesses = omega (arith, h.witnesses, k.witnesses);
  mode = k.mode ∙ h.mode;
}
