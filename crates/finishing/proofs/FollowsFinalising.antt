-- Finalising follows the account. Assumes nothing.
use Rattle.std.proofs.Common.{◌≡◌, ℕ, ◌≤◌, true, false, ◌⊎◌, List, [], ◌∷◌, take, Some, None, Option, Result, sym, refl, ap, ◌∙◌, subst, ap₂, inl, inr, ⊎_elim, append-nil, arith}
use Rattle.std.specs.Result.{result_err}
use Rattle.std.proofs.lemmas.List.{take-take}
use Rattle.field.specs.Laws.{Model, Keeps}
use Rattle.variables.specs.Refusals.{Told}
use Rattle.account.specs.declared.SynthesisMode.{SynthesisMode}
use Rattle.account.specs.declared.SynthesisMode.TheVariants.{Setup, Prove}
use Rattle.account.specs.Finish.{Stage}
use Rattle.account.specs.Account.{Finished, Account, KeepsMatrices, KeepsValues, nothing_made, with_finished, made_in}
use Rattle.account.specs.Calls.{Answer, unit, finalize, after}
use Rattle.account.specs.Refusals.{limit, first, unless_bare, used_terms, refusal}
use Rattle.account.specs.Run.{by_refusal, due}
use Rattle.account.specs.Sound.{SoundLists}
use Rattle.account.proofs.Refuses.{some_is}
use Rattle.account.proofs.Values.{closed, bare_made}
use Rattle.tables.specs.Held.{Held, State, lengths, counted, KeepsBeyond}
use Rattle.tables.specs.Sound.{entries_of, given_of, kept_instances, kept_witnesses, account_of}
use Rattle.tables.specs.Follows.{Shows}
use Rattle.tables.proofs.Holds.{many_given}
use Rattle.tables.proofs.Fitting.{tables_sound, account_sound}
use Rattle.finishing.specs.Checks.{unless_refused}
use Rattle.finishing.specs.Finalising.{Unfinished, finalize_tests, Finalised, Finalises}
use Rattle.finishing.specs.Follows.{ShowsFinished, Presents}
use Rattle.finishing.specs.Laws.{FinalisingFollows}
use Rattle.finishing.proofs.Parts.{within_as, given_as, given_same}
use Rattle.finishing.proofs.Admits.{not_refused, counted_after}
use Rattle.finishing.proofs.Leaves.{stages_same, shows_made}

kept_or_bare : (mode : SynthesisMode) → KeepsMatrices mode ⊎ (KeepsMatrices mode → ⊥)
kept_or_bare Setup = inl tt
kept_or_bare (Prove true) = inl tt
kept_or_bare (Prove false) = inr (λ k. k)

module _ {V : Type 0} where
  -- witnesses that are kept, where those in use are the same
  witnesses_same : (mode : SynthesisMode) (w : ℕ) (xs ys : List V) → (KeepsValues mode → w ≤ limit) → take w xs ≡ take w ys
      → kept_witnesses mode w (counted xs) ≡ kept_witnesses mode w (counted ys)
  witnesses_same Setup w xs ys h e = refl
  witnesses_same (Prove matrices) w xs ys h e = take-take w limit xs (h tt) ∙ e ∙ sym (take-take w limit ys (h tt))

  -- what a refusal leaves shows the account as it was
  module _ (s : State V) (shows : Shows s (account_of s)) (h : Held V) (beyond : KeepsBeyond s.tables h)
      (left : Unfinished s (record { counts = s.counts; tables = h })) where
    abbrev t : State V
    t = record { counts = s.counts; tables = h }

    given_left : given_of t ≡ given_of s
    given_left =
        given_as h.terms (entries_of t) (entries_of s) left.index
        ∙ given_same s.counts.terms h.terms s.tables.terms left.terms (entries_of s) shows.sound.spans

    account_left : account_of t ≡ account_of s
    account_left =
        let instances = ap (λ l. kept_instances s.counts.mode s.counts.instances (counted l)) left.instances in
        let fits : KeepsValues s.counts.mode → s.counts.witnesses ≤ limit = λ v. omega (arith, shows.sound.witnesses v) in
        let witnesses = witnesses_same s.counts.mode s.counts.witnesses h.witnesses s.tables.witnesses fits left.witnesses in
        λ i. record {
          mode = s.counts.mode;
          goal = s.counts.goal;
          instances = record { count = s.counts.instances; kept = instances i };
          witnesses = record { count = s.counts.witnesses; kept = witnesses i };
          given = given_left i;
          constraints = s.counts.constraints;
          finished = None;
        }

    shows_left : Shows t (account_of s)
    shows_left = record {
      sound = record {
        terms = omega (arith, shows.sound.terms, beyond.terms.length);
        entries = omega (arith, shows.sound.entries, beyond.index.length);
        first = λ setup. omega (arith, shows.sound.first setup, beyond.instances.length);
        instances = λ v. omega (arith, shows.sound.instances v, beyond.instances.length);
        witnesses = λ v. omega (arith, shows.sound.witnesses v, beyond.witnesses.length);
        spans = within_as s.counts.terms (entries_of t) (entries_of s) left.index shows.sound.spans;
        lists = subst (λ g. SoundLists s.counts.mode s.counts.instances s.counts.witnesses s.counts.constraints g None) (sym given_left) shows.sound.lists;
      };
      account = account_left;
      terms = shows.terms;
    }

  -- bare finalising makes nothing, and leaves all as it was
  bare_shows : (s : State V) → Shows s (account_of s) → (KeepsMatrices s.counts.mode → ⊥)
      → ShowsFinished s (with_finished (account_of s) (Some nothing_made)) nothing_made
  bare_shows s shows bare = record {
    sound = record { given = shows.sound; spans = λ k. absurd (bare k); symbol_free = λ k. absurd (bare k) };
    mode = refl;
    goal = refl;
    instance_count = refl;
    witnesses_counted = omega arith;
    constraints = omega arith;
    entries = omega (arith, many_given s shows.sound.entries);
    terms = omega (arith, shows.terms);
    instances = refl;
    witnesses = sym (append-nil _);
    given = sym (append-nil (given_of s));
    finished = λ k. absurd (bare k);
    bare = λ _. refl;
  }

  -- an open account, and a finished one
  presents_open : (s : State V) (x : Account V) → x.finished ≡ None → Shows s x → Presents s x
  presents_open s x o shows = (λ _. shows, λ done e. absurd (closed x.finished done o e))

  presents_finished : (s : State V) (x : Account V) (done : Finished V) → ShowsFinished s (with_finished x (Some done)) done
      → Presents s (with_finished x (Some done))
  presents_finished s x done shows =
      (λ o. absurd (closed (Some done) done o refl), λ other e. subst (ShowsFinished s (with_finished x (Some done))) (some_is done other e) shows)

module _ {V : Type 0} {m : Model V} (keeps : Keeps m) where
  -- the refusal is that of the account
  told : (s : State V) → Shows s (account_of s) → first (finalize_tests m s) ≡ refusal m (lengths s.tables) (account_of s) finalize
  told s shows =
      ap₂ (λ (o : Option Told) (r : Result (Stage V) Told). first (o ∷ unless_bare s.counts.mode (result_err r) ∷ []))
      (tables_sound s shows ∙ sym (account_sound s shows)) (stages_same m s shows)

  -- what accepted finalising leaves
  accepted_shows : (before now : State V) → Shows before (account_of before) → KeepsBeyond before.tables now.tables → Finalises m before None now
      → let done = made_in m before.counts.mode (account_of before) in ShowsFinished now (with_finished (account_of before) (Some done)) done
  accepted_shows before now shows beyond h =
      let x = account_of before in
      ⊎_elim
      (λ (k : KeepsMatrices before.counts.mode).
      let passed = not_refused m before k (sym h.refuses) in
      let fin = h.accepted k refl in
      let same = counted_after m before now fin in
      let done = made_in m before.counts.mode x in
      subst (λ t. ShowsFinished t (with_finished x (Some done)) done) (sym same)
      (shows_made keeps before shows passed.1.0 passed.1.1 now.tables beyond (subst (Finalised m before) same fin) k))
      (λ (bare : KeepsMatrices before.counts.mode → ⊥).
      subst (λ done. ShowsFinished now (with_finished x (Some done)) done) (sym (bare_made keeps before.counts.mode x bare))
      (subst (λ t. ShowsFinished t (with_finished x (Some nothing_made)) nothing_made) (sym (h.bare bare)) (bare_shows before shows bare)))
      (kept_or_bare before.counts.mode)

  -- what refused finalising leaves
  refused_shows : (before now : State V) (r : Told) → Shows before (account_of before) → KeepsBeyond before.tables now.tables → Finalises m before (Some r) now
      → Shows now (account_of before)
  refused_shows before now r shows beyond h =
      let left = h.refused r refl in
      let same : now ≡ record { counts = before.counts; tables = now.tables } = λ i. record { counts = left.counts i; tables = now.tables } in
      subst (λ t. Shows t (account_of before)) (sym same) (shows_left before shows now.tables beyond (subst (Unfinished before) same left))

  abbrev FollowsOwn : (answer : Result (Answer V) Told) (before now : State V) → Type 0
  FollowsOwn answer before now =
      let x = account_of before in
      (answer ≡ due m (lengths before.tables) x finalize) × Presents now (after m x (record { call = finalize; answer = answer }))

  own : (before now : State V) (refusal : Option Told) → KeepsBeyond before.tables now.tables → Finalises m before refusal now
      → Shows before (account_of before) → FollowsOwn (unless_refused refusal unit) before now
  own before now None beyond h shows =
      let x = account_of before in
      let done = made_in m x.mode x in
      (ap (λ o. by_refusal m o unit) (h.refuses ∙ told before shows), presents_finished now x done (accepted_shows before now shows beyond h))
  own before now (Some r) beyond h shows =
      let x = account_of before in
      (ap (λ o. by_refusal m o unit) (h.refuses ∙ told before shows), presents_open now x refl (refused_shows before now r shows beyond h))

  pub finalising_follows : FinalisingFollows m
  finalising_follows before now refusal beyond h x shows =
      let answer = unless_refused refusal unit in
      subst (λ y. (answer ≡ due m (lengths before.tables) y finalize) × Presents now (after m y (record { call = finalize; answer = answer }))) shows.account
      (own before now refusal beyond h (record { sound = shows.sound; account = refl; terms = shows.terms ∙ ap used_terms (sym shows.account) }))
