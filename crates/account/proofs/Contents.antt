-- The account is what the accepted calls brought. Assumes nothing.
use Rattle.std.proofs.Common.{◌≡◌, ℕ, ◌+◌, ◌↔◌, true, List, [], ◌∷◌, ◌++◌, map, length, Some, None, Ok, Err, Option, Result, sym, refl, ap, ◌∙◌, subst, ap₂, append_assoc, append-nil, arith, length-append}
use mathlib.Core.List.{map-append}
use lib.ListN.{length-map}
use Rattle.std.proofs.lemmas.List.{length_push, nil_from_length}
use Rattle.field.specs.Laws.{Model}
use Rattle.variables.specs.declared.Term.{Term}
use Rattle.variables.specs.Refusals.{Told}
use Rattle.account.specs.declared.SynthesisMode.{SynthesisMode}
use Rattle.account.specs.declared.SynthesisMode.TheVariants.{Setup, Prove}
use Rattle.account.specs.declared.OptimizationGoal.{OptimizationGoal}
use Rattle.account.specs.declared.OptimizationGoal.TheVariants.{Constraints}
use Rattle.account.specs.Given.{Given, marks, Triples, none, Known}
use Rattle.account.specs.Rows.{Row, constraints as constraints_of, last_of}
use Rattle.account.specs.Account.{Finished, Account, Effect, asks, checks, writes, sets_mode, sets_goal, names_instance, names_witness, names_lists, constrains, finalises, KeepsMatrices, KeepsValues, HasValue, Allows, kept_value, plain_lists, fresh, opened, made_in, changed}
use Rattle.account.specs.Calls.{Call, Answer, Event, effect_of, after_answer, after, after_all, if_accepted, accepted_all, constraint_in, accepted_constraints, lists_in, accepted_lists, instance_in, witness_in, accepted_instances, accepted_witnesses, mode_in, goal_in, accepted_modes, accepted_goals, finalising_in, accepted_finalisings}
use Rattle.account.specs.Run.{Lawful, Run}
use Rattle.account.proofs.Indexes.{triples_append}
use Rattle.account.proofs.Sounds.{Keeping, fresh_means, none_kept, known_changed, triples_in, written_in, bare_in}

-- the last, where one more comes
last_push : {X : Type 0} (before : X) (xs : List X) (x : X) → last_of before (xs ++ x ∷ []) ≡ x
last_push before [] x = refl
last_push before (y ∷ xs) x = last_push y xs x

-- both of two lists are empty where their sum is
both_nil : {X : Type 0} (xs ys : List X) → xs ++ ys ≡ [] → (xs ≡ []) × (ys ≡ [])
both_nil xs ys e =
    let long : length xs + length ys ≡ 0 = sym (length-append xs ys) ∙ ap length e in
    (nil_from_length xs (omega arith), nil_from_length ys (omega arith))

none_more : {X : Type 0} (xs ys : List X) → xs ≡ ys → xs ≡ ys ++ []
none_more xs ys e = e ∙ sym (append-nil ys)

-- what was brought so far
pub record Totals (V : Type 0) : Type 0 where
  pub lists : SynthesisMode → List (Given V)
  pub constraints : List (Row (List (Term V)))
  pub instances : List (Option V)
  pub witnesses : List (Option V)
  pub modes : List SynthesisMode
  pub goals : List OptimizationGoal
  pub finalisings : List (Effect V)

module _ {V : Type 0} where
  -- what one call more brings
  all_push : {X : Type 0} (f : Effect V → List X) (past : List (Event V)) (e : Event V) → accepted_all f (past ++ e ∷ []) ≡ accepted_all f past ++ if_accepted e.answer (f (effect_of e.call))
  all_push f [] e = append-nil (if_accepted e.answer (f (effect_of e.call)))
  all_push f (p ∷ past) e = ap (λ l. if_accepted p.answer (f (effect_of p.call)) ++ l) (all_push f past e) ∙ sym (append_assoc _ (accepted_all f past) _)

  -- where nothing was written, nothing was in any mode
  no_lists_in : (mode also : SynthesisMode) (e : Effect V) → lists_in mode e ≡ [] → constraint_in e ≡ [] → lists_in also e ≡ []
  no_lists_in mode also (names_lists ls) h k = h
  no_lists_in mode also (constrains p q r) h k = absurd (let z = ap length k in omega arith)
  no_lists_in mode also other h k = refl

  abbrev pub totals : List (Event V) → Totals V
  totals log = record {
    lists = λ mode. accepted_lists mode log;
    constraints = accepted_constraints log;
    instances = accepted_instances log;
    witnesses = accepted_witnesses log;
    modes = accepted_modes log;
    goals = accepted_goals log;
    finalisings = accepted_finalisings log;
  }

  abbrev plus : Totals V → Effect V → Totals V
  plus t e = record {
    lists = λ mode. t.lists mode ++ lists_in mode e;
    constraints = t.constraints ++ constraint_in e;
    instances = t.instances ++ instance_in e;
    witnesses = t.witnesses ++ witness_in e;
    modes = t.modes ++ mode_in e;
    goals = t.goals ++ goal_in e;
    finalisings = t.finalisings ++ finalising_in e;
  }

  accepted_totals : (past : List (Event V)) (call : Call V) (a : Answer V) → totals (past ++ record { call = call; answer = Ok a } ∷ []) ≡ plus (totals past) (effect_of call)
  accepted_totals past call a = λ i. record {
    lists = λ mode. all_push (lists_in mode) past (record { call = call; answer = Ok a }) i;
    constraints = all_push constraint_in past (record { call = call; answer = Ok a }) i;
    instances = all_push instance_in past (record { call = call; answer = Ok a }) i;
    witnesses = all_push witness_in past (record { call = call; answer = Ok a }) i;
    modes = all_push mode_in past (record { call = call; answer = Ok a }) i;
    goals = all_push goal_in past (record { call = call; answer = Ok a }) i;
    finalisings = all_push finalising_in past (record { call = call; answer = Ok a }) i;
  }

  refused_all : {X : Type 0} (f : Effect V → List X) (past : List (Event V)) (call : Call V) (r : Told) → accepted_all f (past ++ record { call = call; answer = Err r } ∷ []) ≡ accepted_all f past
  refused_all f past call r = all_push f past (record { call = call; answer = Err r }) ∙ append-nil (accepted_all f past)

  refused_totals : (past : List (Event V)) (call : Call V) (r : Told) → totals (past ++ record { call = call; answer = Err r } ∷ []) ≡ totals past
  refused_totals past call r = λ i. record {
    lists = λ mode. refused_all (lists_in mode) past call r i;
    constraints = refused_all constraint_in past call r i;
    instances = refused_all instance_in past call r i;
    witnesses = refused_all witness_in past call r i;
    modes = refused_all mode_in past call r i;
    goals = refused_all goal_in past call r i;
    finalisings = refused_all finalising_in past call r i;
  }

  module _ (m : Model V) where
    -- it is what the account has
    pub record Brought (t : Totals V) (x : Account V) : Type 0 where
      pub given : x.given ≡ t.lists x.mode
      pub known : Known x.instances.count x.witnesses.count x.given
      pub triples : (mode : SynthesisMode) → Triples (marks (t.lists mode))
      pub as_written : (mode : SynthesisMode) → KeepsMatrices mode → constraints_of (t.lists mode) ≡ t.constraints
      pub bare : (mode : SynthesisMode) → (KeepsMatrices mode → ⊥) → constraints_of (t.lists mode) ≡ []
      pub in_setup : (KeepsValues x.mode → ⊥) → (x.instances.kept ≡ m.one ∷ []) × (x.witnesses.kept ≡ [])
      pub unlisted : (mode also : SynthesisMode) → t.lists mode ≡ [] → t.constraints ≡ [] → t.lists also ≡ []
      pub constraints : x.constraints ≡ length t.constraints
      pub instances : x.instances.count ≡ 1 + length t.instances
      pub witnesses : x.witnesses.count ≡ length t.witnesses
      pub kept_instances : KeepsValues x.mode → map Some x.instances.kept ≡ Some m.one ∷ t.instances
      pub kept_witnesses : KeepsValues x.mode → map Some x.witnesses.kept ≡ t.witnesses
      pub first_instance : t.instances ≡ [] → x.instances.kept ≡ m.one ∷ []
      pub no_witness : t.witnesses ≡ [] → x.witnesses.kept ≡ []
      pub mode : x.mode ≡ last_of (Prove true) t.modes
      pub goal : x.goal ≡ last_of Constraints t.goals
      pub unfinished : (x.finished ≡ None) ↔ (t.finalisings ≡ [])

    pub opened_brought : Brought (totals []) (opened m)
    opened_brought = record {
      given = refl;
      known = record { terms = tt; triples = none };
      triples = λ mode. none;
      as_written = λ mode k. refl;
      bare = λ mode k. refl;
      in_setup = λ _. (refl, refl);
      unlisted = λ mode also h k. refl;
      constraints = refl;
      instances = refl;
      witnesses = refl;
      kept_instances = λ _. refl;
      kept_witnesses = λ _. refl;
      first_instance = λ _. refl;
      no_witness = λ _. refl;
      mode = refl;
      goal = refl;
      unfinished = (λ _. refl, λ _. refl);
    }

    module _ (t : Totals V) (x : Account V) (b : Brought t x) where
      unlisted_more : (e : Effect V) (mode also : SynthesisMode) → t.lists mode ++ lists_in mode e ≡ [] → t.constraints ++ constraint_in e ≡ [] → t.lists also ++ lists_in also e ≡ []
      unlisted_more e mode also h k =
          let lists = both_nil (t.lists mode) (lists_in mode e) h in
          let written = both_nil t.constraints (constraint_in e) k in
          ap₂ ◌++◌ (b.unlisted mode also lists.0 written.0) (no_lists_in mode also e lists.1 written.1)

      triples_more : (e : Effect V) (mode : SynthesisMode) → Triples (marks (t.lists mode ++ lists_in mode e))
      triples_more e mode = subst Triples (sym (map-append (λ (g : Given V). g.mark) (t.lists mode) (lists_in mode e))) (triples_append (b.triples mode) (triples_in mode e))

      written_more : (e : Effect V) (mode : SynthesisMode) → KeepsMatrices mode → constraints_of (t.lists mode ++ lists_in mode e) ≡ t.constraints ++ constraint_in e
      written_more e mode k = written_in mode (t.lists mode) e (b.triples mode) k ∙ ap (λ cs. cs ++ constraint_in e) (b.as_written mode k)

      bare_more : (e : Effect V) (mode : SynthesisMode) → (KeepsMatrices mode → ⊥) → constraints_of (t.lists mode ++ lists_in mode e) ≡ []
      bare_more e mode k = bare_in mode (t.lists mode) e (b.triples mode) k ∙ b.bare mode k

      less : {X : Type 0} (xs : List X) → xs ++ [] ≡ [] → xs ≡ []
      less xs e = sym (append-nil xs) ∙ e

      open_still : (o : Option (Finished V)) → x.finished ≡ o → (o ≡ None) ↔ (t.finalisings ++ [] ≡ [])
      open_still o f = (λ e. append-nil t.finalisings ∙ b.unfinished.0 (f ∙ e), λ e. sym f ∙ b.unfinished.1 (less t.finalisings e))

      -- a mode may be set where nothing was brought
      mode_set : (mode : SynthesisMode) → fresh x ≡ true → Brought (plus t (sets_mode mode)) (changed m x (sets_mode mode))
      mode_set mode ok =
          let new = fresh_means x ok in
          let no_instances : t.instances ≡ [] = nil_from_length t.instances (let e = new.one_instance in let k = b.instances in omega arith) in
          let no_witnesses : t.witnesses ≡ [] = nil_from_length t.witnesses (sym b.witnesses ∙ new.no_witness) in
          let no_constraints : t.constraints ≡ [] = nil_from_length t.constraints (sym b.constraints ∙ new.no_constraint) in
          record {
            given = none_more x.given (t.lists mode) (new.no_list ∙ sym (b.unlisted x.mode mode (sym b.given ∙ new.no_list) no_constraints));
            known = b.known;
            triples = triples_more (sets_mode mode);
            as_written = written_more (sets_mode mode);
            bare = bare_more (sets_mode mode);
            in_setup = λ _. (b.first_instance no_instances, b.no_witness no_witnesses);
            unlisted = unlisted_more (sets_mode mode);
            constraints = b.constraints ∙ ap length (sym (append-nil t.constraints));
            instances = b.instances ∙ ap (λ (l : List (Option V)). 1 + length l) (sym (append-nil t.instances));
            witnesses = b.witnesses ∙ ap length (sym (append-nil t.witnesses));
            kept_instances = λ _. ap (map Some) (b.first_instance no_instances) ∙ ap (λ l. Some m.one ∷ l) (sym no_instances ∙ sym (append-nil t.instances));
            kept_witnesses = λ _. ap (map Some) (b.no_witness no_witnesses) ∙ sym no_witnesses ∙ sym (append-nil t.witnesses);
            first_instance = λ _. b.first_instance no_instances;
            no_witness = λ _. b.no_witness no_witnesses;
            mode = sym (last_push (Prove true) t.modes mode);
            goal = b.goal ∙ ap (last_of Constraints) (sym (append-nil t.goals));
            unfinished = open_still x.finished refl;
          }

      -- an effect that leaves the mode alone
      module _ (e : Effect V) (y : Account V) where
        rest : y.mode ≡ x.mode → (y.goal ≡ last_of Constraints (t.goals ++ goal_in e)) → mode_in e ≡ []
            → (y.given ≡ t.lists x.mode ++ lists_in x.mode e) → Known y.instances.count y.witnesses.count y.given
            → ((KeepsValues x.mode → ⊥) → (y.instances.kept ≡ m.one ∷ []) × (y.witnesses.kept ≡ []))
            → (y.constraints ≡ length (t.constraints ++ constraint_in e))
            → (y.instances.count ≡ 1 + length (t.instances ++ instance_in e)) → (y.witnesses.count ≡ length (t.witnesses ++ witness_in e))
            → (KeepsValues x.mode → map Some y.instances.kept ≡ Some m.one ∷ (t.instances ++ instance_in e))
            → (KeepsValues x.mode → map Some y.witnesses.kept ≡ t.witnesses ++ witness_in e)
            → (t.instances ++ instance_in e ≡ [] → y.instances.kept ≡ m.one ∷ []) → (t.witnesses ++ witness_in e ≡ [] → y.witnesses.kept ≡ [])
            → ((y.finished ≡ None) ↔ (t.finalisings ++ finalising_in e ≡ [])) → Brought (plus t e) y
        rest mode goal modes given known alone constraints instances witnesses ki kw fi nw still = record {
          given = given ∙ ap (λ i. t.lists i ++ lists_in i e) (sym mode);
          known = known;
          triples = triples_more e;
          as_written = written_more e;
          bare = bare_more e;
          in_setup = λ k. alone (λ v. k (subst KeepsValues (sym mode) v));
          unlisted = unlisted_more e;
          constraints = constraints;
          instances = instances;
          witnesses = witnesses;
          kept_instances = λ k. ki (subst KeepsValues mode k);
          kept_witnesses = λ k. kw (subst KeepsValues mode k);
          first_instance = fi;
          no_witness = nw;
          mode = mode ∙ b.mode ∙ ap (last_of (Prove true)) (sym (append-nil t.modes) ∙ ap (λ l. t.modes ++ l) (sym modes));
          goal = goal;
          unfinished = still;
        }

      abbrev same_goal : x.goal ≡ last_of Constraints (t.goals ++ [])
      same_goal = b.goal ∙ ap (last_of Constraints) (sym (append-nil t.goals))

      abbrev same_given : x.given ≡ t.lists x.mode ++ []
      same_given = none_more x.given (t.lists x.mode) b.given

      abbrev same_constraints : x.constraints ≡ length (t.constraints ++ [])
      same_constraints = b.constraints ∙ ap length (sym (append-nil t.constraints))

      abbrev same_instances : x.instances.count ≡ 1 + length (t.instances ++ [])
      same_instances = b.instances ∙ ap (λ (l : List (Option V)). 1 + length l) (sym (append-nil t.instances))

      abbrev same_witnesses : x.witnesses.count ≡ length (t.witnesses ++ [])
      same_witnesses = b.witnesses ∙ ap length (sym (append-nil t.witnesses))

      abbrev same_kept_instances : KeepsValues x.mode → map Some x.instances.kept ≡ Some m.one ∷ (t.instances ++ [])
      same_kept_instances k = b.kept_instances k ∙ ap (λ l. Some m.one ∷ l) (sym (append-nil t.instances))

      abbrev same_kept_witnesses : KeepsValues x.mode → map Some x.witnesses.kept ≡ t.witnesses ++ []
      same_kept_witnesses k = b.kept_witnesses k ∙ sym (append-nil t.witnesses)

      abbrev same_first : t.instances ++ [] ≡ [] → x.instances.kept ≡ m.one ∷ []
      same_first e = b.first_instance (less t.instances e)

      abbrev same_no_witness : t.witnesses ++ [] ≡ [] → x.witnesses.kept ≡ []
      same_no_witness e = b.no_witness (less t.witnesses e)

      -- a value more is kept
      kept_more : (mode : SynthesisMode) (v : Option V) (kept : List V) → HasValue mode v → KeepsValues mode → map Some (kept ++ kept_value mode v) ≡ map Some kept ++ v ∷ []
      kept_more Setup v kept h k = absurd k
      kept_more (Prove matrices) None kept h k = absurd h
      kept_more (Prove matrices) (Some v) kept h k = map-append Some kept (v ∷ [])

      not_nil : {X : Type 0} (xs : List X) (a : X) → xs ++ a ∷ [] ≡ [] → ⊥
      not_nil xs a e = let z = both_nil xs (a ∷ []) e in let w = ap length z.1 in omega arith

      nothing_changed : (e : Effect V) → ((mode : SynthesisMode) → lists_in mode e ≡ []) → constraint_in e ≡ [] → instance_in e ≡ [] → witness_in e ≡ [] → mode_in e ≡ [] → goal_in e ≡ []
          → finalising_in e ≡ [] → plus t e ≡ t
      nothing_changed e ls cs is ws ms gs fs = λ i. record {
        lists = λ mode. (ap (λ l. t.lists mode ++ l) (ls mode) ∙ append-nil (t.lists mode)) i;
        constraints = (ap (λ l. t.constraints ++ l) cs ∙ append-nil t.constraints) i;
        instances = (ap (λ l. t.instances ++ l) is ∙ append-nil t.instances) i;
        witnesses = (ap (λ l. t.witnesses ++ l) ws ∙ append-nil t.witnesses) i;
        modes = (ap (λ l. t.modes ++ l) ms ∙ append-nil t.modes) i;
        goals = (ap (λ l. t.goals ++ l) gs ∙ append-nil t.goals) i;
        finalisings = (ap (λ l. t.finalisings ++ l) fs ∙ append-nil t.finalisings) i;
      }

      finished_now : (done : Finished V) → (◌≡◌ {A = Option (Finished V)} (Some done) None) ↔ (t.finalisings ++ finalises ∷ [] ≡ [])
      finished_now done = (λ e. absurd (let z : ◌≡◌ {A = ℕ} 0 1 = cc in omega arith), λ e. absurd (not_nil t.finalisings finalises e))

      -- one effect more
      changed_brought : (e : Effect V) → Allows x e → Brought (plus t e) (changed m x e)
      changed_brought asks ok = subst (λ u. Brought u x) (sym (nothing_changed asks (λ _. refl) refl refl refl refl refl refl)) b
      changed_brought checks ok = subst (λ u. Brought u x) (sym (nothing_changed checks (λ _. refl) refl refl refl refl refl refl)) b
      changed_brought writes ok = subst (λ u. Brought u x) (sym (nothing_changed writes (λ _. refl) refl refl refl refl refl refl)) b
      changed_brought (sets_mode mode) ok = mode_set mode ok
      changed_brought (sets_goal goal) ok =
          rest (sets_goal goal) (changed m x (sets_goal goal)) refl (sym (last_push Constraints t.goals goal)) refl same_given
          (known_changed m x (sets_goal goal) ok b.known) b.in_setup same_constraints same_instances same_witnesses
          same_kept_instances same_kept_witnesses same_first same_no_witness (open_still x.finished refl)
      changed_brought (names_instance v) ok =
          rest (names_instance v) (changed m x (names_instance v)) refl same_goal refl same_given (known_changed m x (names_instance v) ok b.known)
          (λ k. let alone = b.in_setup k in (ap₂ ◌++◌ alone.0 (none_kept x.mode v k), alone.1)) same_constraints
          (omega (arith, b.instances, length_push t.instances v)) same_witnesses (λ k. kept_more x.mode v x.instances.kept ok k ∙ ap (λ l. l ++ v ∷ []) (b.kept_instances k))
          same_kept_witnesses (λ e. absurd (not_nil t.instances v e)) same_no_witness (open_still x.finished refl)
      changed_brought (names_witness v) ok =
          rest (names_witness v) (changed m x (names_witness v)) refl same_goal refl same_given (known_changed m x (names_witness v) ok b.known)
          (λ k. let alone = b.in_setup k in (alone.0, ap₂ ◌++◌ alone.1 (none_kept x.mode v k))) same_constraints same_instances
          (omega (arith, b.witnesses, length_push t.witnesses v)) same_kept_instances (λ k. kept_more x.mode v x.witnesses.kept ok k ∙ ap (λ l. l ++ v ∷ []) (b.kept_witnesses k))
          same_first (λ e. absurd (not_nil t.witnesses v e)) (open_still x.finished refl)
      changed_brought (names_lists ls) ok =
          rest (names_lists ls) (changed m x (names_lists ls)) refl same_goal refl (ap (λ l. l ++ plain_lists ls) b.given)
          (known_changed m x (names_lists ls) ok b.known) b.in_setup same_constraints same_instances same_witnesses
          same_kept_instances same_kept_witnesses same_first same_no_witness (open_still x.finished refl)
      changed_brought (constrains p q r) ok =
          rest (constrains p q r) (changed m x (constrains p q r)) refl same_goal refl (ap (λ l. l ++ lists_in x.mode (constrains p q r)) b.given)
          (known_changed m x (constrains p q r) ok b.known) b.in_setup
          (omega (arith, b.constraints, length_push t.constraints (record { a = p; b = q; c = r }))) same_instances same_witnesses
          same_kept_instances same_kept_witnesses same_first same_no_witness (open_still x.finished refl)
      changed_brought finalises ok =
          rest finalises (changed m x finalises) refl same_goal refl same_given
          (known_changed m x finalises ok b.known) b.in_setup same_constraints same_instances same_witnesses
          same_kept_instances same_kept_witnesses same_first same_no_witness (finished_now (made_in m x.mode x))

    pub event_brought : (past : List (Event V)) (x : Account V) (call : Call V) (answer : Result (Answer V) Told) → Lawful m x call answer → Brought (totals past) x
        → Brought (totals (past ++ record { call = call; answer = answer } ∷ [])) (after_answer m answer x (effect_of call))
    event_brought past x call (Ok a) ok b =
        subst (λ t. Brought t (changed m x (effect_of call))) (sym (accepted_totals past call a)) (changed_brought (totals past) x b (effect_of call) ok.1)
    event_brought past x call (Err r) ok b = subst (λ t. Brought t x) (sym (refused_totals past call r)) b

    brought_run : (log past : List (Event V)) (x : Account V) → Run m x log → Brought (totals past) x → Brought (totals (past ++ log)) (after_all m x log)
    brought_run [] past x run b = subst (λ l. Brought (totals l) x) (sym (append-nil past)) b
    brought_run (e ∷ es) past x run b =
        subst (λ l. Brought (totals l) (after_all m (after m x e) es)) (append_assoc past (e ∷ []) es)
        (brought_run es (past ++ e ∷ []) (after m x e) run.1 (event_brought past x e.call e.answer run.0 b))

    pub log_brought : (log : List (Event V)) → Run m (opened m) log → Brought (totals log) (after_all m (opened m) log)
    log_brought log run = brought_run log [] (opened m) run opened_brought

    -- what the promise needs of an account is read off what was brought
    first_kept : (xs : List V) (a : V) (rest : List (Option V)) → map Some xs ≡ Some a ∷ rest → (more : List V) × (xs ≡ a ∷ more)
    first_kept [] a rest e = absurd (let z = ap length e in omega arith)
    first_kept (x ∷ xs) a rest e = (xs, ap (λ y. y ∷ xs) (let z : Some x ≡ Some a = cc in cc))

    begins_by : (mode : SynthesisMode) (t : Totals V) (x : Account V) → x.mode ≡ mode → Brought t x → (rest : List V) × (x.instances.kept ≡ m.one ∷ rest)
    begins_by Setup t x e b = ([], (b.in_setup (λ k. subst KeepsValues e k)).0)
    begins_by (Prove matrices) t x e b = first_kept x.instances.kept m.one t.instances (b.kept_instances (subst KeepsValues (sym e) tt))

    pub kept_so : (t : Totals V) (x : Account V) → Brought t x → Keeping m t.constraints x
    kept_so t x b = record {
      known = b.known;
      as_written = λ k. ap (λ g. constraints_of g) b.given ∙ b.as_written x.mode k;
      bare = λ k. ap (λ g. constraints_of g) b.given ∙ b.bare x.mode k;
      counted = b.constraints;
      begins = begins_by x.mode t x refl b;
      in_setup = b.in_setup;
      instances_kept = λ k. sym (length-map x.instances.kept Some) ∙ ap length (b.kept_instances k) ∙ omega (arith, b.instances);
      witnesses_kept = λ k. sym (length-map x.witnesses.kept Some) ∙ ap length (b.kept_witnesses k) ∙ sym b.witnesses;
      some_instance = omega (arith, b.instances);
    }
