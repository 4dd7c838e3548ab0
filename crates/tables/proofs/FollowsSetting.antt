-- Opening a circuit and setting its mode and goal go as the account says. Assumes nothing.
use Rattle.std.proofs.Common.{◌≡◌, ℕ, ◌≤◌, true, List, [], ◌∷◌, length, take, None, sym, refl, ap, ◌∙◌, subst, arith}
use Rattle.std.specs.Prelude.{not, ◌&&◌, ◌==◌, slice_set}
use Rattle.std.proofs.lemmas.List.{length-set}
use Rattle.field.specs.Laws.{Model}
use Rattle.account.specs.declared.SynthesisMode.{SynthesisMode}
use Rattle.account.specs.declared.SynthesisMode.TheVariants.{Setup, Prove}
use Rattle.account.specs.declared.OptimizationGoal.{OptimizationGoal}
use Rattle.account.specs.Account.{fresh, opened, KeepsValues, with_mode as account_with_mode}
use Rattle.account.specs.Calls as calls
use Rattle.account.specs.Calls.{Call}
use Rattle.account.specs.Conditions.{Fresh}
use Rattle.account.specs.Refusals.{first, capacity, when, opening_refusal}
use Rattle.account.specs.Sound.{SoundLists}
use Rattle.account.proofs.Refuses.{enough, when_not, first_alone}
use Rattle.account.proofs.Sounds.{fresh_means}
use Rattle.tables.specs.Held.{Held, State, lengths, room, counted}
use Rattle.tables.specs.Sound.{kept_instances, kept_witnesses, given_of, account_of, SoundTables}
use Rattle.tables.specs.Calls.{fresh as fresh_counts, set_refusal, with_mode, with_goal, setting_mode, setting_goal, opened_in}
use Rattle.tables.specs.Follows.{Shows, answer_as, Follows}
use Rattle.tables.proofs.Puts.{counted_more}
use Rattle.tables.proofs.Holds.{reads}
use Rattle.tables.proofs.Dues.{outcome_follows}
use Rattle.tables.proofs.MoreLists.{no_lists}

-- there is a place for the first instance in every mode
place_for_one : (mode : SynthesisMode) (count places : ℕ) → count ≡ 1 → ((KeepsValues mode → ⊥) → 1 ≤ places) → (KeepsValues mode → count ≤ places) → 1 ≤ places
place_for_one Setup count places e first all = first (λ k. k)
place_for_one (Prove matrices) count places e first all = let h = all tt in omega arith

module _ {V : Type 0} where
  -- a circuit is fresh by its numbers where it is by its account
  fresh_same : (s : State V) → Shows s (account_of s) → fresh_counts s.counts ≡ fresh (account_of s)
  fresh_same s shows =
      ap (λ (k : ℕ). s.counts.instances == 1 && (s.counts.witnesses == 0 && (k == 0 && s.counts.constraints == 0))) (reads s shows).lists

  set_test : (s : State V) → Shows s (account_of s) → set_refusal s.counts ≡ first (when (not (fresh (account_of s))) 10 ∷ [])
  set_test s shows = ap (λ b. when (not b) 10) (fresh_same s shows) ∙ sym (first_alone (when (not (fresh (account_of s))) 10))

  set_fresh : (s : State V) → Shows s (account_of s) → set_refusal s.counts ≡ None → Fresh (account_of s)
  set_fresh s shows e = fresh_means (account_of s) (sym (fresh_same s shows) ∙ when_not (fresh_counts s.counts) 10 e)

  -- of one instance and no witness every mode keeps the same values
  one_kept : (mode : SynthesisMode) (n : ℕ) (values : List V) → n ≡ 1 → kept_instances mode n values ≡ take 1 values
  one_kept Setup n values e = refl
  one_kept (Prove matrices) n values e = ap (λ k. take k values) e

  none_kept : (mode : SynthesisMode) (w : ℕ) (values : List V) → w ≡ 0 → kept_witnesses mode w values ≡ []
  none_kept Setup w values e = refl
  none_kept (Prove matrices) w values e = ap (λ k. take k values) e

  mode_sound : (s : State V) (mode : SynthesisMode) → SoundTables s → Fresh (account_of s) → SoundTables (record s { counts = with_mode mode s.counts })
  mode_sound s mode sound new =
      let one = place_for_one s.counts.mode s.counts.instances (room s.tables.instances) new.one_instance sound.first sound.instances in
      record {
        terms = sound.terms;
        entries = sound.entries;
        first = λ _. one;
        instances = λ _. omega (arith, new.one_instance);
        witnesses = λ _. omega (arith, new.no_witness);
        spans = sound.spans;
        lists =
            subst (λ g. SoundLists mode s.counts.instances s.counts.witnesses s.counts.constraints g None) (sym new.no_list)
            (subst (λ k. SoundLists {V = V} mode s.counts.instances s.counts.witnesses k [] None) (sym new.no_constraint) (no_lists mode s.counts.instances s.counts.witnesses));
      }

  mode_account : (s : State V) (mode : SynthesisMode) → Fresh (account_of s) → account_of (record s { counts = with_mode mode s.counts }) ≡ account_with_mode (account_of s) mode
  mode_account s mode new =
      let values = counted s.tables.instances in
      let others = counted s.tables.witnesses in
      let instances : kept_instances mode s.counts.instances values ≡ kept_instances s.counts.mode s.counts.instances values
      = one_kept mode s.counts.instances values new.one_instance ∙ sym (one_kept s.counts.mode s.counts.instances values new.one_instance) in
      let witnesses : kept_witnesses mode s.counts.witnesses others ≡ kept_witnesses s.counts.mode s.counts.witnesses others
      = none_kept mode s.counts.witnesses others new.no_witness ∙ sym (none_kept s.counts.mode s.counts.witnesses others new.no_witness) in
      λ i. record {
        mode = mode;
        goal = s.counts.goal;
        instances = record { count = s.counts.instances; kept = instances i };
        witnesses = record { count = s.counts.witnesses; kept = witnesses i };
        given = given_of s;
        constraints = s.counts.constraints;
        finished = None;
      }

  mode_shown : (s : State V) (mode : SynthesisMode) → Shows s (account_of s) → set_refusal s.counts ≡ None → Shows (record s { counts = with_mode mode s.counts }) (account_with_mode (account_of s) mode)
  mode_shown s mode shows e =
      let new = set_fresh s shows e in record { sound = mode_sound s mode shows.sound new; account = mode_account s mode new; terms = shows.terms }

  goal_shown : (s : State V) (goal : OptimizationGoal) → Shows s (account_of s) → Shows (record s { counts = with_goal goal s.counts }) (account_of (record s { counts = with_goal goal s.counts }))
  goal_shown s goal shows =
      let sound = shows.sound in
      record {
        sound = record {
          terms = sound.terms;
          entries = sound.entries;
          first = sound.first;
          instances = sound.instances;
          witnesses = sound.witnesses;
          spans = sound.spans;
          lists = sound.lists;
        };
        account = refl;
        terms = shows.terms;
      }

  module _ (m : Model V) where
    pub new_shows : (h : Held V) → opening_refusal (lengths h) ≡ None → Shows (opened_in m h) (opened m)
    new_shows h e =
        let place = enough 1 (capacity (length h.instances)) 11 e in
        let place_after : 1 ≤ room (slice_set h.instances 0 m.one) = omega (arith, length-set h.instances 0 m.one) in
        let kept : take 1 (counted (slice_set h.instances 0 m.one)) ≡ m.one ∷ [] = counted_more h.instances 0 m.one place in
        record {
          sound = record {
            terms = omega arith;
            entries = omega arith;
            first = λ _. place_after;
            instances = λ _. place_after;
            witnesses = λ _. omega arith;
            spans = tt;
            lists = no_lists (Prove true) 1 0;
          };
          account = λ i. record {
            mode = Prove true;
            goal = (opened m).goal;
            instances = record { count = 1; kept = kept i };
            witnesses = record { count = 0; kept = [] };
            given = [];
            constraints = 0;
            finished = None;
          };
          terms = refl;
        }

    pub set_mode_follows : (s : State V) (mode : SynthesisMode)
        → let o = setting_mode s.counts mode in Follows m (calls.set_mode mode) (answer_as (λ _. calls.unit) o.answer) s (record s { counts = o.state })
    set_mode_follows s mode =
        outcome_follows m (calls.set_mode mode) (λ _. calls.unit) (λ c. record s { counts = c }) (set_refusal s.counts) tt (with_mode mode s.counts) s.counts
        (λ shows. set_test s shows) (λ shows. refl) (λ shows e. mode_shown s mode shows e)

    pub set_goal_follows : (s : State V) (goal : OptimizationGoal)
        → let o = setting_goal s.counts goal in Follows m (calls.set_optimization_goal goal) (answer_as (λ _. calls.unit) o.answer) s (record s { counts = o.state })
    set_goal_follows s goal =
        outcome_follows m (calls.set_optimization_goal goal) (λ _. calls.unit) (λ c. record s { counts = c }) (set_refusal s.counts) tt (with_goal goal s.counts) s.counts
        (λ shows. set_test s shows) (λ shows. refl) (λ shows e. goal_shown s goal shows)
