-- An account only grows: what was named and kept stays. Assumes nothing.
use Rattle.std.proofs.Common.{◌≡◌, ◌≤◌, true, ◌⊎◌, List, [], ◌∷◌, ◌++◌, length, Some, None, Ok, Err, Result, sym, refl, ap, ◌∙◌, inl, inr, ⊎_elim, append_assoc, append-nil, arith, length-append}
use Rattle.std.specs.List.{slice_get}
use Rattle.std.proofs.lemmas.List.{get_or_at}
use Rattle.std.proofs.lemmas.Option.{slice_get-get_or}
use Rattle.field.specs.Laws.{Model}
use Rattle.variables.specs.Refusals.{Told}
use Rattle.account.specs.Given.{Given}
use Rattle.account.specs.Account.{Finished, Account, Effect, asks, checks, writes, sets_mode, sets_goal, names_instance, names_witness, names_lists, constrains, finalises, kept_value, plain_lists, constraint_lists, builds, Allows, changed}
use Rattle.account.specs.Calls.{Call, Answer, Event, effect_of, after_answer, after, after_all}
use Rattle.account.specs.Run.{Lawful, Run}
use Rattle.account.proofs.Sounds.{fresh_means}
use Rattle.account.proofs.Values.{open_means, closed}

-- an element, wherever the list goes on
pub slice_get_there : {X : Type 0} (xs : List X) (x : X) (ys : List X) → slice_get (xs ++ x ∷ ys) (length xs) ≡ Some x
slice_get_there xs x ys = slice_get-get_or (xs ++ x ∷ ys) (length xs) x (omega (arith, length-append xs (x ∷ ys))) ∙ ap Some (get_or_at xs x ys x (length xs) refl)

-- a list goes on
more_same : {X : Type 0} (xs : List X) → (more : List X) × (xs ≡ xs ++ more)
more_same xs = ([], sym (append-nil xs))

more_more : {X : Type 0} (xs ys zs : List X) → (more : List X) × (ys ≡ xs ++ more) → (more : List X) × (zs ≡ ys ++ more) → (more : List X) × (zs ≡ xs ++ more)
more_more xs ys zs a b = (a.0 ++ b.0, b.1 ∙ ap (λ l. l ++ b.0) a.1 ∙ append_assoc xs a.0 b.0)

module _ {V : Type 0} where
  -- a variable was named
  abbrev Begun : Account V → Type 0
  Begun x = (2 ≤ x.instances.count) ⊎ (1 ≤ x.witnesses.count)

  pub record Extends (x y : Account V) : Type 0 where
    pub given : (more : List (Given V)) × (y.given ≡ x.given ++ more)
    pub instances : (more : List V) × (y.instances.kept ≡ x.instances.kept ++ more)
    pub witnesses : (more : List V) × (y.witnesses.kept ≡ x.witnesses.kept ++ more)
    pub instance_count : x.instances.count ≤ y.instances.count
    pub witness_count : x.witnesses.count ≤ y.witnesses.count
    pub mode : Begun x → y.mode ≡ x.mode
    pub finished : (done : Finished V) → x.finished ≡ Some done → y.finished ≡ Some done

  pub extends_same : (x : Account V) → Extends x x
  extends_same x = record {
    given = more_same x.given;
    instances = more_same x.instances.kept;
    witnesses = more_same x.witnesses.kept;
    instance_count = omega arith;
    witness_count = omega arith;
    mode = λ _. refl;
    finished = λ done e. e;
  }

  extends_on : (x y z : Account V) → Extends x y → Extends y z → Extends x z
  extends_on x y z a b = record {
    given = more_more x.given y.given z.given a.given b.given;
    instances = more_more x.instances.kept y.instances.kept z.instances.kept a.instances b.instances;
    witnesses = more_more x.witnesses.kept y.witnesses.kept z.witnesses.kept a.witnesses b.witnesses;
    instance_count = omega (arith, a.instance_count, b.instance_count);
    witness_count = omega (arith, a.witness_count, b.witness_count);
    mode = λ begun.
        let still : Begun y = ⊎_elim (λ (l : 2 ≤ x.instances.count). inl (omega (arith, a.instance_count))) (λ (l : 1 ≤ x.witnesses.count). inr (omega (arith, a.witness_count))) begun in
        b.mode still ∙ a.mode begun;
    finished = λ done e. b.finished done (a.finished done e);
  }

  module _ (m : Model V) where
    never : (x : Account V) → x.finished ≡ None → {P : Type 0} (done : Finished V) → x.finished ≡ Some done → P
    never x unfinished done e = absurd (closed x.finished done unfinished e)

    changed_extends : (x : Account V) (e : Effect V) → builds x e ≡ true → Allows x e → Extends x (changed m x e)
    changed_extends x asks b ok = extends_same x
    changed_extends x checks b ok = extends_same x
    changed_extends x writes b ok = extends_same x
    changed_extends x (sets_mode mode) b ok =
        let new = fresh_means x ok in
        record {
          given = more_same x.given;
          instances = more_same x.instances.kept;
          witnesses = more_same x.witnesses.kept;
          instance_count = omega arith;
          witness_count = omega arith;
          mode = λ begun. absurd (⊎_elim (λ (l : 2 ≤ x.instances.count). omega (arith, new.one_instance)) (λ (l : 1 ≤ x.witnesses.count). omega (arith, new.no_witness)) begun);
          finished = λ done e. e;
        }
    changed_extends x (sets_goal goal) b ok = record {
      given = more_same x.given;
      instances = more_same x.instances.kept;
      witnesses = more_same x.witnesses.kept;
      instance_count = omega arith;
      witness_count = omega arith;
      mode = λ _. refl;
      finished = λ done e. e;
    }
    changed_extends x (names_instance v) b ok = record {
      given = more_same x.given;
      instances = (kept_value x.mode v, refl);
      witnesses = more_same x.witnesses.kept;
      instance_count = omega arith;
      witness_count = omega arith;
      mode = λ _. refl;
      finished = λ done e. e;
    }
    changed_extends x (names_witness v) b ok = record {
      given = more_same x.given;
      instances = more_same x.instances.kept;
      witnesses = (kept_value x.mode v, refl);
      instance_count = omega arith;
      witness_count = omega arith;
      mode = λ _. refl;
      finished = λ done e. e;
    }
    changed_extends x (names_lists ls) b ok = record {
      given = (plain_lists ls, refl);
      instances = more_same x.instances.kept;
      witnesses = more_same x.witnesses.kept;
      instance_count = omega arith;
      witness_count = omega arith;
      mode = λ _. refl;
      finished = λ done e. e;
    }
    changed_extends x (constrains p q r) b ok = record {
      given = (constraint_lists x.mode p q r, refl);
      instances = more_same x.instances.kept;
      witnesses = more_same x.witnesses.kept;
      instance_count = omega arith;
      witness_count = omega arith;
      mode = λ _. refl;
      finished = λ done e. e;
    }
    changed_extends x finalises b ok = record {
      given = more_same x.given;
      instances = more_same x.instances.kept;
      witnesses = more_same x.witnesses.kept;
      instance_count = omega arith;
      witness_count = omega arith;
      mode = λ _. refl;
      finished = λ done e. never x (open_means x.finished b) done e;
    }

    event_extends : (x : Account V) (call : Call V) (answer : Result (Answer V) Told) → Lawful m x call answer → Extends x (after_answer m answer x (effect_of call))
    event_extends x call (Ok a) ok = changed_extends x (effect_of call) ok.0 ok.1
    event_extends x call (Err r) ok = extends_same x

    pub run_extends : (log : List (Event V)) (x : Account V) → Run m x log → Extends x (after_all m x log)
    run_extends [] x run = extends_same x
    run_extends (e ∷ es) x run = extends_on x (after m x e) _ (event_extends x e.call e.answer run.0) (run_extends es (after m x e) run.1)
