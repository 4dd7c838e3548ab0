-- The lists of every account of a run are sound. Assumes nothing.
use Rattle.std.proofs.Common.{◌≡◌, ℕ, suc, true, false, ◌+◌, ◌*◌, List, [], ◌∷◌, ◌++◌, map, length, Some, None, Option, sym, refl, ap, ◌∙◌, subst, append-nil, arith, length-append}
use Rattle.std.specs.Prelude.{drop}
use mathlib.Core.List.{map-append}
use lib.ListN.{length-map}
use Rattle.std.specs.List.{AllByRecursion, zip}
use Rattle.std.proofs.lemmas.List.{length-drop}
use Rattle.std.proofs.lemmas.Option.{none-some}
use Rattle.std.proofs.ByRecursion.{All-drop, All-weaker}
use Rattle.field.specs.Laws.{Model, Keeps}
use Rattle.variables.specs.declared.Variable.{Variable}
use Rattle.variables.specs.declared.Variable.TheVariants.{Zero, One, Instance, Witness, SymbolicLc}
use Rattle.variables.specs.declared.Term.{Term}
use Rattle.variables.specs.Evaluate.{SymbolFree}
use Rattle.account.specs.declared.Mark.{Mark}
use Rattle.account.specs.declared.Mark.TheVariants.{Plain, A, B, C}
use Rattle.account.specs.declared.SynthesisMode.{SynthesisMode}
use Rattle.account.specs.declared.SynthesisMode.TheVariants.{Setup, Prove}
use Rattle.account.specs.Given.{Given, marks, lists, marked, KnownVariable, KnownAfter, Triples, none, plain, triple, Known}
use Rattle.account.specs.Rows.{Row, row_at, starts_from, row_marks, constraints}
use Rattle.account.specs.Account.{Finished, Account, KeepsMatrices, nothing_made, lists_of, added_count, added_given}
use Rattle.account.specs.Sound.{SoundLists, Sound}
use Rattle.account.specs.Laws.{WellFormed}
use Rattle.account.proofs.Counts.{Only}
use Rattle.account.proofs.Sounds.{Keeping, known_append, known_wider}
use Rattle.account.proofs.Values.{Right}

-- where no triple starts all marks are plain
pub plain_alone : {ms : List Mark} (k : ℕ) → Triples ms → length (starts_from k ms) ≡ 0 → AllByRecursion (λ mark. mark ≡ Plain) ms
plain_alone k none e = tt
plain_alone k (plain t) e = (refl, plain_alone (suc k) t e)
plain_alone k (triple t) e = absurd (omega arith)

no_start : (k : ℕ) (ms : List Mark) → AllByRecursion (λ mark. mark ≡ Plain) ms → starts_from k ms ≡ []
no_start k [] h = refl
no_start k (mark ∷ ms) h = subst (λ first. starts_from k (first ∷ ms) ≡ []) (sym h.0) (no_start (suc k) ms h.1)

starts_moved : (ms : List Mark) (k j : ℕ) → length (starts_from k ms) ≡ length (starts_from j ms)
starts_moved [] k j = refl
starts_moved (Plain ∷ ms) k j = starts_moved ms (suc k) (suc j)
starts_moved (A ∷ ms) k j = ap suc (starts_moved ms (suc k) (suc j))
starts_moved (B ∷ ms) k j = starts_moved ms (suc k) (suc j)
starts_moved (C ∷ ms) k j = starts_moved ms (suc k) (suc j)

starts_append : (ms ns : List Mark) (k j : ℕ) → length (starts_from k (ms ++ ns)) ≡ length (starts_from k ms) + length (starts_from j ns)
starts_append [] ns k j = omega (arith, starts_moved ns k j)
starts_append (Plain ∷ ms) ns k j = starts_append ms ns (suc k) j
starts_append (A ∷ ms) ns k j = omega (arith, starts_append ms ns (suc k) j)
starts_append (B ∷ ms) ns k j = starts_append ms ns (suc k) j
starts_append (C ∷ ms) ns k j = starts_append ms ns (suc k) j

module _ {X : Type 0} where
  pub row_marks_long : (xs : List X) → length (row_marks xs) ≡ 3 * length xs
  row_marks_long [] = refl
  row_marks_long (x ∷ xs) = omega (arith, row_marks_long xs)

  row_starts : (xs : List X) (k : ℕ) → length (starts_from k (row_marks xs)) ≡ length xs
  row_starts [] k = refl
  row_starts (x ∷ xs) k = ap suc (row_starts xs (suc (suc (suc k))))

  row_triples : (xs : List X) → Triples (row_marks xs)
  row_triples [] = none
  row_triples (x ∷ xs) = triple (row_triples xs)

free_known : (n w : ℕ) (before : List Mark) (v : Variable) → SymbolFree n w v → KnownVariable n w before v
free_known n w before Zero h = tt
free_known n w before One h = tt
free_known n w before (Instance i) h = h
free_known n w before (Witness i) h = h
free_known n w before (SymbolicLc k) h = absurd h

module _ {V : Type 0} where
  -- marks beside lists
  abbrev pub beside : List Mark → List (List (Term V)) → List (Given V)
  beside ms ls = map (λ e. marked e.0 e.1) (zip ms ls)

  pub beside_marks : (ms : List Mark) (ls : List (List (Term V))) → length ls ≡ length ms → marks (beside ms ls) ≡ ms
  beside_marks [] ls e = refl
  beside_marks (mark ∷ ms) [] e = absurd (omega arith)
  beside_marks (mark ∷ ms) (l ∷ ls) e = ap (λ r. mark ∷ r) (beside_marks ms ls (omega arith))

  beside_known : (n w : ℕ) (ms : List Mark) (ls : List (List (Term V))) (before : List Mark) → AllByRecursion (Only (SymbolFree n w)) ls → KnownAfter n w before (beside ms ls)
  beside_known n w [] ls before h = tt
  beside_known n w (mark ∷ ms) [] before h = tt
  beside_known n w (mark ∷ ms) (l ∷ ls) before h =
      (All-weaker _ _ (λ t f. free_known n w before t.variable f) l h.0, beside_known n w ms ls (before ++ mark ∷ []) h.1)

  -- a constraint for each triple, and none exactly where all marks are plain
  pub many_constraints : (given : List (Given V)) → length (constraints given) ≡ length (starts_from 0 (marks given))
  many_constraints given = length-map (starts_from 0 (marks given)) (row_at [] (lists given))

  pub plain_where_none : (given : List (Given V)) → Triples (marks given) → constraints given ≡ [] → AllByRecursion (λ mark. mark ≡ Plain) (marks given)
  plain_where_none given t e = plain_alone 0 t (sym (many_constraints given) ∙ ap length e)

  pub none_where_plain : (given : List (Given V)) → AllByRecursion (λ mark. mark ≡ Plain) (marks given) → constraints given ≡ []
  none_where_plain given h = ap (map (row_at [] (lists given))) (no_start 0 (marks given) h)

  counted_append : (given more : List (Given V)) → length (constraints (given ++ more)) ≡ length (constraints given) + length (starts_from 0 (marks more))
  counted_append given more =
      many_constraints (given ++ more) ∙ ap (λ ms. length (starts_from 0 ms)) (map-append (λ (g : Given V). g.mark) given more)
      ∙ starts_append (marks given) (marks more) 0 0 ∙ ap (λ k. k + length (starts_from 0 (marks more))) (sym (many_constraints given))

  -- where nothing is finished the given lists alone decide
  pub open_lists : (mode : SynthesisMode) (n w count : ℕ) (given : List (Given V)) → Known n w given → (KeepsMatrices mode → length (constraints given) ≡ count)
      → ((KeepsMatrices mode → ⊥) → AllByRecursion (λ mark. mark ≡ Plain) (marks given)) → SoundLists mode n w count given None
  open_lists mode n w count given known triples bare =
      record { known = known; triples = triples; bare = bare; long = λ k ls e. absurd (none-some ls e); symbol_free = λ k ls e. absurd (none-some ls e) }

  some_list : (ls us : List (List (Term V))) → Some ls ≡ Some us → ls ≡ us
  some_list ls us e = cc

  -- the lists of added rows, and all finished lists, are sound with those that were given
  pub rows_sound : (mode : SynthesisMode) (n w count : ℕ) (given : List (Given V)) (finished : List (List (Term V))) (combinations : List ℕ) → KeepsMatrices mode
      → SoundLists mode n w count given None → WellFormed n w given (constraints given) finished combinations
      → let k = length combinations in let more = beside (row_marks combinations) (drop (length given) finished) in
      SoundLists mode n (w + k) (count + k) (given ++ more) (Some finished)
  rows_sound mode n w count given finished combinations k sound formed =
      let all = w + length combinations in
      let rest = drop (length given) finished in
      let ms = row_marks combinations in
      let more = beside ms rest in
      let same = beside_marks ms rest (omega (arith, length-drop (length given) finished, formed.long, row_marks_long combinations)) in
      let rest_free = All-drop (Only (SymbolFree n all)) (length given) finished formed.symbol_free in
      let many : length finished ≡ length (given ++ more)
      = omega (arith, formed.long, length-append given more, length-map more (λ g. g.mark), ap length same, row_marks_long combinations) in
      record {
        known = known_append n all given more (known_wider _ _ _ _ (omega arith) (omega arith) given sound.known) (beside_known n all ms rest (marks given) rest_free)
            (subst Triples (sym same) (row_triples combinations));
        triples = λ _. counted_append given more ∙ omega (arith, sound.triples k, ap (λ l. length (starts_from 0 l)) same, row_starts combinations 0);
        bare = λ bare. absurd (bare k);
        long = λ _ us e. subst (λ ls. length ls ≡ length (given ++ more)) (some_list _ us e) many;
        symbol_free = λ _ us e. subst (AllByRecursion (Only (SymbolFree n all))) (some_list _ us e) formed.symbol_free;
      }

  module _ {m : Model V} (keeps : Keeps m) (cs : List (Row (List (Term V)))) (x : Account V) (s : Keeping m cs x) where
    bare_plain : (KeepsMatrices x.mode → ⊥) → AllByRecursion (λ mark. mark ≡ Plain) (marks x.given)
    bare_plain k = plain_where_none x.given s.known.triples (s.bare k)

    abbrev SoundAt : Option (Finished V) → Type 0
    SoundAt o = SoundLists x.mode x.instances.count (x.witnesses.count + added_count o) (x.constraints + added_count o) (x.given ++ added_given (length x.given) o) (lists_of o)

    -- with nothing added
    alone : (ls : Option (List (List (Term V)))) (w count : ℕ) (given : List (Given V)) → w ≡ x.witnesses.count → count ≡ x.constraints → given ≡ x.given
        → (KeepsMatrices x.mode → (us : List (List (Term V))) → ls ≡ Some us → ⊥)
        → SoundLists x.mode x.instances.count w count given ls
    alone ls w count given a b g free = record {
      known = subst (Known x.instances.count w) (sym g) (subst (λ i. Known x.instances.count i x.given) (sym a) s.known);
      triples = λ k. ap (λ l. length (constraints l)) g ∙ ap length (s.as_written k) ∙ sym s.counted ∙ sym b;
      bare = λ k. subst (λ l. AllByRecursion (λ mark. mark ≡ Plain) (marks l)) (sym g) (bare_plain k);
      long = λ k us e. absurd (free k us e);
      symbol_free = λ k us e. absurd (free k us e);
    }

    sound_open : SoundAt None
    sound_open = alone None _ _ _ (omega arith) (omega arith) (append-nil x.given) (λ k us e. none-some us e)

    sound_bare : (KeepsMatrices x.mode → ⊥) → SoundAt (Some nothing_made)
    sound_bare bare = alone (Some []) _ _ _ (omega arith) (omega arith) (append-nil x.given) (λ k. absurd (bare k))

    -- with the added rows
    sound_made : (done : Finished V) → KeepsMatrices x.mode → WellFormed x.instances.count x.witnesses.count x.given (constraints x.given) done.lists done.combinations → SoundAt (Some done)
    sound_made done k formed =
        rows_sound x.mode x.instances.count x.witnesses.count x.constraints x.given done.lists done.combinations k
        (open_lists x.mode _ _ x.constraints x.given s.known (λ k. ap length (s.as_written k) ∙ sym s.counted) bare_plain) formed

  module _ {m : Model V} (keeps : Keeps m) (cs : List (Row (List (Term V)))) where
    by_mode : (x : Account V) (s : Keeping m cs x) → Right keeps x → (mode : SynthesisMode) → x.mode ≡ mode → (o : Option (Finished V)) → x.finished ≡ o → SoundAt keeps cs x s o
    by_mode x s r mode e None f = sound_open keeps cs x s
    by_mode x s r Setup e (Some done) f = let k = subst KeepsMatrices (sym e) tt in sound_made keeps cs x s done k (r.faithful k done f).formed
    by_mode x s r (Prove true) e (Some done) f = let k = subst KeepsMatrices (sym e) tt in sound_made keeps cs x s done k (r.faithful k done f).formed
    by_mode x s r (Prove false) e (Some done) f =
        let bare : KeepsMatrices x.mode → ⊥ = λ k. subst KeepsMatrices e k in
        subst (λ d. SoundAt keeps cs x s (Some d)) (sym (r.bare bare done f)) (sound_bare keeps cs x s bare)

    pub account_sound : (x : Account V) → Keeping m cs x → Right keeps x → Sound x
    account_sound x s r = by_mode x s r x.mode refl x.finished refl
