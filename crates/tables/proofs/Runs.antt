-- A run of calls on a circuit just opened, over lent tables, is the run of the account. Assumes nothing.
use Rattle.std.proofs.Common.{◌≡◌, true, cond, List, [], ◌∷◌, ◌++◌, map, None, Result, sym, refl, ap, ◌∙◌, subst}
use Rattle.std.proofs.lemmas.Bool.{cond-true}
use Rattle.std.proofs.lemmas.List.{map_push}
use Rattle.field.specs.Laws.{Model, Keeps}
use Rattle.variables.specs.Refusals.{Told}
use Rattle.account.specs.Account.{Account, is_open, builds}
use Rattle.account.specs.Calls.{Call, Answer, Event, effect_of, after, account}
use Rattle.account.specs.Refusals.{Lengths, opening_refusal}
use Rattle.account.specs.Run.{due, log_of}
use Rattle.account.specs.Promise.{Promised}
use Rattle.account.proofs.Runs.{after_append}
use Rattle.account.proofs.Calls.{every_run}
use Rattle.tables.specs.Held.{Held, State, lengths, KeepsBeyond}
use Rattle.tables.specs.Calls.{opened_in}
use Rattle.tables.specs.Follows.{Shows, Follows}
use Rattle.tables.specs.Runs.{Makes, sets_mode, sets_goal, names_instance, names_witness, names_list, constrains, checks, asks, RunOn, none, more, RunsFollow}
use Rattle.tables.proofs.Beyond.{same_beyond, further_beyond, calls_keep_beyond}
use Rattle.tables.proofs.Calls.{calls_follow}

module _ {V : Type 0} where
  -- tables that keep their lengths
  long_as : (a b : Held V) → KeepsBeyond a b → lengths b ≡ lengths a
  long_as a b h i = record { terms = h.terms.length i; index = h.index.length i; instances = h.instances.length i; witnesses = h.witnesses.length i }

  module _ (m : Model V) where
    -- what a call of a run does: it follows the account, it keeps lengths and what lies beyond, and it builds while the circuit is open
    record Steps (s : State V) (call : Call V) (answer : Result (Answer V) Told) (t : State V) : Type 0 where
      follows : Follows m call answer s t
      beyond : KeepsBeyond s.tables t.tables
      built : (x : Account V) → is_open x.finished ≡ true → builds x (effect_of call) ≡ true

    steps : (s : State V) {call : Call V} {answer : Result (Answer V) Told} {t : State V} → Makes m s call answer t → Steps s call answer t
    steps s (sets_mode mode) = record { follows = (calls_follow m).set_mode s mode; beyond = same_beyond s.tables; built = λ x o. o }
    steps s (sets_goal goal) = record { follows = (calls_follow m).set_optimization_goal s goal; beyond = same_beyond s.tables; built = λ x o. o }
    steps s (names_instance handed) = record {
      follows = (calls_follow m).new_input_variable s handed;
      beyond = (calls_keep_beyond m).new_input_variable s handed;
      built = λ x o. o;
    }
    steps s (names_witness handed) = record {
      follows = (calls_follow m).new_witness_variable s handed;
      beyond = (calls_keep_beyond m).new_witness_variable s handed;
      built = λ x o. o;
    }
    steps s (names_list ts) = record { follows = (calls_follow m).new_lc s ts; beyond = (calls_keep_beyond m).new_lc s ts; built = λ x o. o }
    steps s (constrains a b c) = record {
      follows = (calls_follow m).enforce_constraint s a b c;
      beyond = (calls_keep_beyond m).enforce_constraint s a b c;
      built = λ x o. o;
    }
    steps s (checks work) = record { follows = (calls_follow m).which_is_unsatisfied s work; beyond = same_beyond s.tables; built = λ x o. refl }
    steps s (asks work v) = record { follows = (calls_follow m).assigned_value s v work; beyond = same_beyond s.tables; built = λ x o. refl }

module _ {V : Type 0} {m : Model V} (keeps : Keeps m) (h : Held V) where
  abbrev k : Lengths
  k = lengths h

  abbrev calls_of : List (Event V) → List (Call V)
  calls_of log = map (λ e. e.call) log

  -- what holds after some calls
  record SoFar (log : List (Event V)) (t : State V) : Type 0 where
    answers : log ≡ log_of m k (calls_of log)
    shows : Shows t (account m log)
    beyond : KeepsBeyond h t.tables

  -- one call more
  module _ (log : List (Event V)) (t u : State V) (call : Call V) (answer : Result (Answer V) Told) (far : SoFar log t) (step : Steps m t call answer u) where
    abbrev x : Account V
    x = account m log

    abbrev made : Event V
    made = record { call = call; answer = answer }

    follows : (answer ≡ due m (lengths t.tables) x call) × Shows u (after m x made)
    follows = step.follows x far.shows

    is_due : answer ≡ due m k x call
    is_due = follows.0 ∙ ap (λ lens. due m lens x call) (long_as h t.tables far.beyond)

    built : builds x (effect_of call) ≡ true
    built = step.built x (ap (λ (y : Account V). is_open y.finished) (sym far.shows.account))

    grown : log_of m k (calls_of log ++ call ∷ []) ≡ log ++ made ∷ []
    grown =
        subst (λ (l : List (Event V)). log_of m k (calls_of log ++ call ∷ []) ≡ cond (builds (account m l) (effect_of call)) (l ++ record { call = call; answer = due m k (account m l) call } ∷ []) l)
        (sym far.answers) ((every_run keeps k (calls_of log)).grows call)
        ∙ cond-true (builds x (effect_of call)) _ _ built ∙ ap (λ a. log ++ record { call = call; answer = a } ∷ []) (sym is_due)

    far_more : SoFar (log ++ made ∷ []) u
    far_more = record {
      answers = sym (ap (log_of m k) (map_push (λ (e : Event V). e.call) log made) ∙ grown);
      shows = subst (Shows u) (sym (after_append keeps log (made ∷ []) _)) follows.1;
      beyond = further_beyond h t.tables u.tables far.beyond step.beyond;
    }

  module _ (opens : opening_refusal k ≡ None) where
    far : {log : List (Event V)} {t : State V} → RunOn m (opened_in m h) log t → SoFar log t
    far none = record { answers = refl; shows = (calls_follow m).new h opens; beyond = (calls_keep_beyond m).new h opens }
    far (more {log} {t} {u} {call} {answer} run makes) = far_more log t u call answer (far run) (steps m t makes)

pub runs_follow : {V : Type 0} {m : Model V} → Keeps m → RunsFollow m
runs_follow {V} {m} keeps h opens log t run =
    let end = far keeps h opens run in
    record {
      answers = end.answers;
      promised = subst (Promised m) (sym end.answers) (every_run keeps (lengths h) (map (λ (e : Event V). e.call) log)).promised;
      shows = end.shows;
      same_lengths = long_as h t.tables end.beyond;
      beyond = end.beyond;
    }
