-- Tables that fit a circuit fit it after every accepted call. Assumes nothing.
use Rattle.std.proofs.Common.{◌≡◌, ℕ, ◌+◌, ◌-◌, ◌*◌, ◌≤◌, true, false, List, [], ◌∷◌, ◌++◌, map, length, Some, None, Ok, Err, Option, sym, refl, ap, ◌∙◌, subst, append-nil, arith, length-append}
use lib.ListN.{length-map}
use Rattle.std.proofs.lemmas.Bool.{cond_both}
use Rattle.field.specs.Laws.{Model, Keeps}
use Rattle.variables.specs.declared.Term.{Term}
use Rattle.variables.specs.Refusals.{Told}
use Rattle.account.specs.declared.SynthesisMode.{SynthesisMode}
use Rattle.account.specs.declared.SynthesisMode.TheVariants.{Setup, Prove}
use Rattle.account.specs.Given.{Given, lists}
use Rattle.account.specs.Finish.{Finishing, Stage, places}
use Rattle.account.specs.Rows.{finished_lists}
use Rattle.account.specs.Account.{Finished, Account, KeepsMatrices, KeepsValues, builds, plain_lists, constraint_lists, added_count, rule_of, opened, finish_of, made_in, changed}
use Rattle.account.specs.Calls.{Call, set_mode, set_optimization_goal, new_input_variable, new_witness_variable, new_lc, enforce_constraint, which_is_unsatisfied, assigned_value, finalize, to_matrices, Event, effect_of, answer_of, after, after_all, account}
use Rattle.account.specs.Refusals.{Lengths, capacity, finished_places, used_terms, used_entries, fits, room_of, start_of, stages_of, refusal}
use Rattle.account.specs.Laws.{FindsPlaces}
use Rattle.account.specs.Conditions.{Conditions, Fits}
use Rattle.account.specs.Run.{by_refusal, due, log_from, log_of, Run}
use Rattle.account.specs.Promise.{TablesFit}
use Rattle.account.proofs.Refuses.{enough}
use Rattle.account.proofs.Accepts.{for_values, with_values, fits_iff, conditions}
use Rattle.account.proofs.Places.{given_places, places_taken}
use Rattle.account.proofs.Suffices.{places_suffice}
use Rattle.account.proofs.Values.{open_means}
use Rattle.account.proofs.Causes.{refused_for_cause}
use Rattle.account.proofs.CausesRefuse.{told_other}
use Rattle.account.proofs.Runs.{run_past, any_refusals}
use Rattle.account.proofs.Calls.{calls_run, log_due}

module _ {V : Type 0} where
  -- what a run keeps: the counts fit, and there is a place for the first instance
  record Fit (k : Lengths) (x : Account V) : Type 0 where
    terms_fit : used_terms x ≤ capacity k.terms
    index_fit : used_entries x ≤ capacity k.index
    first_fits : 1 ≤ capacity k.instances
    instances_fit : KeepsValues x.mode → x.instances.count ≤ capacity k.instances
    witnesses_fit : KeepsValues x.mode → x.witnesses.count + added_count x.finished ≤ capacity k.witnesses

  fit_from : (k : Lengths) (x : Account V) → Fit k x → fits k x ≡ true
  fit_from k x f = (fits_iff k x).1 (record { terms = f.terms_fit; entries = f.index_fit; first = λ _. f.first_fits; instances = f.instances_fit; witnesses = f.witnesses_fit })

  -- some lists more
  more_terms : (k : Lengths) (x : Account V) (more : List (Given V)) → used_terms x + places (lists more) ≤ capacity k.terms
      → places (lists (x.given ++ more)) + finished_places x.finished ≤ capacity k.terms
  more_terms k x more h = omega (arith, given_places x.given more)

  more_entries : (k : Lengths) (x : Account V) (more : List (Given V)) → used_entries x + length more ≤ capacity k.index
      → length (x.given ++ more) + 3 * added_count x.finished ≤ capacity k.index
  more_entries k x more h = omega (arith, length-append x.given more)

  constraint_fits : (mode : SynthesisMode) (k : Lengths) (x : Account V) (a b c : List (Term V)) → Fit k x
      → (KeepsMatrices mode → (used_entries x + 3 ≤ capacity k.index) × (used_terms x + (length a + length b + length c) ≤ capacity k.terms))
      → (places (lists (x.given ++ constraint_lists mode a b c)) + finished_places x.finished ≤ capacity k.terms)
      × (length (x.given ++ constraint_lists mode a b c) + 3 * added_count x.finished ≤ capacity k.index)
  constraint_fits Setup k x a b c f h =
      let room = h tt in (more_terms k x (constraint_lists Setup a b c) (let free = room.1 in omega arith), more_entries k x (constraint_lists Setup a b c) room.0)
  constraint_fits (Prove true) k x a b c f h =
      let room = h tt in (more_terms k x (constraint_lists Setup a b c) (let free = room.1 in omega arith), more_entries k x (constraint_lists Setup a b c) room.0)
  constraint_fits (Prove false) k x a b c f h = (
    subst (λ g. places (lists g) + finished_places x.finished ≤ capacity k.terms) (sym (append-nil x.given)) f.terms_fit,
    subst (λ g. length g + 3 * added_count x.finished ≤ capacity k.index) (sym (append-nil x.given)) f.index_fit,
  )

  no_added : (x : Account V) → x.finished ≡ None → (added_count x.finished ≡ 0) × (finished_places x.finished ≡ 0)
  no_added x e = (ap added_count e, ap finished_places e)

  module _ (m : Model V) (k : Lengths) where
    -- what finalising leaves fits
    record MadeFits (mode : SynthesisMode) (x : Account V) (done : Finished V) : Type 0 where
      terms_fit : places (lists x.given) + (places done.lists - length done.combinations) ≤ capacity k.terms
      index_fit : length x.given + 3 * length done.combinations ≤ capacity k.index
      witnesses_fit : KeepsValues mode → x.witnesses.count + length done.combinations ≤ capacity k.witnesses

    module _ (x : Account V) (terms : places (lists x.given) ≤ capacity k.terms) (index : length x.given ≤ capacity k.index)
        (witnesses : KeepsValues x.mode → x.witnesses.count ≤ capacity k.witnesses) where
      ended : (end : Stage V) → stages_of m k x ≡ Ok end → (done : Finished V) → done.lists ≡ finished_lists m (finish_of m x) → done.combinations ≡ map (λ o. o.entry) (finish_of m x).outlined
          → MadeFits x.mode x done
      ended end e done ls es =
          let within = places_taken m (rule_of m x.goal (lists x.given)) (room_of k x) (start_of x) (places (lists x.given)) (lists x.given) end e in
          let s = finish_of m x in
          let many : length done.combinations ≡ length end.lists.outlined
          = ap length es ∙ length-map s.outlined (λ o. o.entry) ∙ ap (λ (f : Finishing V). length f.outlined) (sym within.same) in
          let all : places done.lists ≡ places (finished_lists m end.lists) = ap places ls ∙ ap (λ f. places (finished_lists m f)) (sym within.same) in
          record {
            terms_fit = omega (arith, within.takes, within.terms_fit terms);
            index_fit = omega (arith, within.entries_fit index);
            witnesses_fit = λ v.
                let room = with_values x.mode x.witnesses.count k.witnesses (witnesses v) v in
                let free = for_values x.mode _ k.witnesses (within.witnesses_fit room) v in
                omega arith;
          }

      -- the stage that finalising ends in
      end_found : FindsPlaces m (rule_of m x.goal (lists x.given)) (room_of k x) (start_of x) (places (lists x.given)) (lists x.given) → (end : Stage V) × (stages_of m k x ≡ Ok end)
      end_found h = (places_suffice m (rule_of m x.goal (lists x.given)) (room_of k x) (start_of x) (places (lists x.given)) (lists x.given) terms).1 h

      made_fits : (mode : SynthesisMode)
          → (KeepsMatrices mode → FindsPlaces m (rule_of m x.goal (lists x.given)) (room_of k x) (start_of x) (places (lists x.given)) (lists x.given))
          → MadeFits x.mode x (made_in m mode x)
      made_fits Setup h = let found = end_found (h tt) in ended found.0 found.1 (made_in m Setup x) refl refl
      made_fits (Prove true) h = let found = end_found (h tt) in ended found.0 found.1 (made_in m (Prove true) x) refl refl
      made_fits (Prove false) h = record { terms_fit = omega arith; index_fit = omega arith; witnesses_fit = λ v. omega (arith, witnesses v) }

    fit_after : (x : Account V) (call : Call V) → builds x (effect_of call) ≡ true → Conditions m k x call → Fit k x → Fit k (changed m x (effect_of call))
    fit_after x (set_mode mode) b new f =
        let none = no_added x (open_means x.finished b) in
        record {
          terms_fit = f.terms_fit;
          index_fit = f.index_fit;
          first_fits = f.first_fits;
          instances_fit = λ _. omega (arith, new.one_instance, f.first_fits);
          witnesses_fit = λ _. omega (arith, new.no_witness, none.0);
        }
    fit_after x (set_optimization_goal goal) b h f =
        record { terms_fit = f.terms_fit; index_fit = f.index_fit; first_fits = f.first_fits; instances_fit = f.instances_fit; witnesses_fit = f.witnesses_fit }
    fit_after x (new_input_variable handed) b h f = record {
      terms_fit = f.terms_fit;
      index_fit = f.index_fit;
      first_fits = f.first_fits;
      instances_fit = for_values x.mode (x.instances.count + 1) k.instances h.0;
      witnesses_fit = f.witnesses_fit;
    }
    fit_after x (new_witness_variable handed) b h f =
        let none = no_added x (open_means x.finished b) in
        record {
          terms_fit = f.terms_fit;
          index_fit = f.index_fit;
          first_fits = f.first_fits;
          instances_fit = f.instances_fit;
          witnesses_fit = λ v. omega (arith, for_values x.mode (x.witnesses.count + 1) k.witnesses h.0 v, none.0);
        }
    fit_after x (new_lc ts) b h f =
        let free = h.1 in
        record {
          terms_fit = more_terms k x (plain_lists (ts ∷ [])) (omega arith);
          index_fit = more_entries k x (plain_lists (ts ∷ [])) h.0;
          first_fits = f.first_fits;
          instances_fit = f.instances_fit;
          witnesses_fit = f.witnesses_fit;
        }
    fit_after x (enforce_constraint p q r) b h f =
        let both = constraint_fits x.mode k x p q r f h.1 in
        record { terms_fit = both.0; index_fit = both.1; first_fits = f.first_fits; instances_fit = f.instances_fit; witnesses_fit = f.witnesses_fit }
    fit_after x (which_is_unsatisfied work) b h f = f
    fit_after x (assigned_value work v) b h f = f
    fit_after x finalize b h f =
        let none = no_added x (open_means x.finished b) in
        let terms = f.terms_fit in
        let index = f.index_fit in
        let made = made_fits x (omega (arith, none.1)) (omega (arith, none.0)) (λ v. omega (arith, f.witnesses_fit v, none.0)) x.mode h.1 in
        record { terms_fit = made.terms_fit; index_fit = made.index_fit; first_fits = f.first_fits; instances_fit = f.instances_fit; witnesses_fit = made.witnesses_fit }
    fit_after x (to_matrices cells ends) b h f = f

    -- one call more, refused or not
    fit_event : (x : Account V) (call : Call V) (o : Option Told) → (o ≡ None → Fit k (changed m x (effect_of call))) → Fit k x
        → Fit k (after m x (record { call = call; answer = by_refusal m o (answer_of m x call) }))
    fit_event x call None ok f = ok refl
    fit_event x call (Some r) ok f = f

    -- at every moment of a log
    AllFit : Account V → List (Event V) → Type 0
    AllFit x [] = Fit k x
    AllFit x (e ∷ es) = Fit k x × AllFit (after m x e) es

    calls_fit : (calls : List (Call V)) (x : Account V) → Fit k x → AllFit x (log_from m k x calls)
    unfolding AllFit
    calls_fit [] x f = f
    calls_fit (call ∷ calls) x f =
        let e : Event V = record { call = call; answer = due m k x call } in
        cond_both (builds x (effect_of call)) _ _ (AllFit x)
        (λ b. (f, calls_fit calls (after m x e) (fit_event x call (refusal m k x call) (λ h. fit_after x call b (conditions m k x call h) f) f))) (λ _. calls_fit calls x f)

    fit_at : (past future : List (Event V)) (x : Account V) → AllFit x (past ++ future) → Fit k (after_all m x past)
    unfolding AllFit
    fit_at [] [] x h = h
    fit_at [] (e ∷ future) x h = h.0
    fit_at (e ∷ past) future x h = fit_at past future (after m x e) h.1

    -- a call that is answered by its due is not refused by 17
    due_other : (x : Account V) (call : Call V) → Fits k x → (o : Option Told) → refusal m k x call ≡ o → (r : Told) → by_refusal m o (answer_of m x call) ≡ Err r → r.number ≡ 17 → ⊥
    due_other x call f None e r d = absurd (let z : ◌≡◌ {A = ℕ} 0 1 = cc in omega arith)
    due_other x call f (Some told) e r d = let same : told ≡ r = cc in told_other m k x call r (refused_for_cause m k x call r (e ∙ ap Some same)) f

  pub tables_fit : {m : Model V} → Keeps m → TablesFit m
  tables_fit {m} keeps k open-ok calls =
      let first : 1 ≤ capacity k.instances = enough 1 (capacity k.instances) 11 open-ok in
      let at_start : Fit k (opened m) = record { terms_fit = omega arith; index_fit = omega arith; first_fits = first; instances_fit = λ _. first; witnesses_fit = λ _. omega arith } in
      let all = calls_fit m k calls (opened m) at_start in
      let at : (past future : List (Event V)) → log_of m k calls ≡ past ++ future → fits k (account m past) ≡ true
      = λ past future e. fit_from k _ (fit_at m k past future (opened m) (subst (AllFit m k (opened m)) e all)) in
      record {
        fitting = λ past future e.
            let run = run_past keeps past future (opened m) (subst (Run m (opened m)) e (calls_run m k calls (opened m))) in
            ((fits_iff k (account m past)).0 (at past future e), (any_refusals keeps past run).sound);
        never_17 = λ past future e here r is.
            let x = account m past in
            due_other m k x e.call ((fits_iff k x).0 (at past (e ∷ future) here)) (refusal m k x e.call) refl r (sym (log_due m k calls past future e here).1 ∙ is);
      }
