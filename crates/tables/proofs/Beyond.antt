-- No call changes the length of a table, or a place past those that count. Assumes nothing.
use Rattle.std.proofs.Common.{◌≡◌, ℕ, ◌+◌, ◌<◌, ◌≤◌, true, false, List, length, Some, None, Ok, Err, Option, Result, refl, ◌∙◌, arith}
use Rattle.std.specs.Prelude.{slice_set}
use Rattle.std.proofs.lemmas.List.{length-set, drop-set-lt}
use Rattle.field.specs.Laws.{Model}
use Rattle.variables.specs.declared.SynthesisError.{SynthesisError}
use Rattle.variables.specs.declared.Term.{Term}
use Rattle.variables.specs.Refusals.{Told}
use Rattle.account.specs.declared.Mark.{Mark}
use Rattle.account.specs.declared.Mark.TheVariants.{Plain, A, B, C}
use Rattle.account.specs.declared.SynthesisMode.{SynthesisMode}
use Rattle.account.specs.declared.SynthesisMode.TheVariants.{Setup, Prove}
use Rattle.account.specs.Account.{KeepsMatrices}
use Rattle.account.specs.Refusals.{first, limit, value_places}
use Rattle.account.proofs.Refuses.{enough, first_none}
use Rattle.tables.specs.Held.{Held, State, room, put, entry, with_list, StaysBeyond, KeepsBeyond}
use Rattle.tables.specs.Calls.{outcome, with_value, new_input_variable_tests, new_witness_variable_tests, new_lc_tests, enforce_constraint_tests, with_instance, with_witness, with_constraint_lists, with_constraint, naming_instance, naming_witness, naming_list, constraining}
use Rattle.tables.specs.Laws.{CallsKeepBeyond}
use Rattle.tables.proofs.Puts.{put_long, put_after}
use Rattle.tables.proofs.Rooms.{HasRoom, room_for_three, room_for_list, room_for_constraint}

module _ {X : Type 0} where
  stays : (xs : List X) → StaysBeyond xs xs
  stays xs = record { length = refl; beyond = refl }

  stays_further : (a b c : List X) → StaysBeyond a b → StaysBeyond b c → StaysBeyond a c
  stays_further a b c h k = record { length = k.length ∙ h.length; beyond = k.beyond ∙ h.beyond }

  -- an element written among the places that count
  set_stays : (xs : List X) (k : ℕ) (y : X) → k < limit → StaysBeyond xs (slice_set xs k y)
  set_stays xs k y h = record { length = length-set xs k y; beyond = drop-set-lt limit xs k y h }

  -- a list written among them
  put_stays : (xs : List X) (k : ℕ) (ys : List X) → k + length ys ≤ room xs → StaysBeyond xs (put xs k ys)
  put_stays xs k ys h = record { length = put_long xs k ys (omega arith); beyond = put_after xs k ys (omega arith) limit (omega arith) }

module _ {V : Type 0} where
  pub same_beyond : (h : Held V) → KeepsBeyond h h
  same_beyond h = record { terms = stays h.terms; index = stays h.index; instances = stays h.instances; witnesses = stays h.witnesses }

  pub further_beyond : (a b c : Held V) → KeepsBeyond a b → KeepsBeyond b c → KeepsBeyond a c
  further_beyond a b c h k = record {
    terms = stays_further a.terms b.terms c.terms h.terms k.terms;
    index = stays_further a.index b.index c.index h.index k.index;
    instances = stays_further a.instances b.instances c.instances h.instances k.instances;
    witnesses = stays_further a.witnesses b.witnesses c.witnesses h.witnesses k.witnesses;
  }

  -- a refused call leaves all
  outcome_beyond : {X : Type 0} (o : Option Told) (answer : X) (accepted before : State V) → (o ≡ None → KeepsBeyond before.tables accepted.tables)
      → KeepsBeyond before.tables (outcome o answer accepted before).state.tables
  outcome_beyond None answer accepted before h = h refl
  outcome_beyond (Some r) answer accepted before h = same_beyond before.tables

  -- a value more
  value_beyond : (mode : SynthesisMode) (handed : Result V SynthesisError) (n : ℕ) (values : List V) → n + 1 ≤ value_places mode (length values)
      → StaysBeyond values (with_value mode handed n values)
  value_beyond Setup handed n values h = stays values
  value_beyond (Prove matrices) (Ok v) n values h = set_stays values n v (omega arith)
  value_beyond (Prove matrices) (Err e) n values h = stays values

  -- a list more
  list_beyond : (mark : Mark) (ts : List (Term V)) (s : State V) → HasRoom 1 (length ts) s → KeepsBeyond s.tables (with_list mark ts s).tables
  list_beyond mark ts s r = record {
    terms = put_stays s.tables.terms s.counts.terms ts r.terms;
    index = set_stays s.tables.index s.counts.entries (entry mark s.counts.terms (length ts)) (omega (arith, r.entries));
    instances = stays s.tables.instances;
    witnesses = stays s.tables.witnesses;
  }

  three_beyond : (a b c : List (Term V)) (s : State V) → HasRoom 3 (length a + length b + length c) s
      → KeepsBeyond s.tables (with_list C c (with_list B b (with_list A a s))).tables
  three_beyond a b c s r =
      let rooms = room_for_three a b c s r in
      let one = with_list A a s in
      let two = with_list B b one in
      let three = with_list C c two in
      further_beyond s.tables two.tables three.tables (further_beyond s.tables one.tables two.tables (list_beyond A a s rooms.0) (list_beyond B b one rooms.1))
      (list_beyond C c two rooms.2)

  constraint_beyond : (mode : SynthesisMode) (a b c : List (Term V)) (s : State V) → (KeepsMatrices mode → HasRoom 3 (length a + length b + length c) s)
      → KeepsBeyond s.tables (with_constraint_lists mode a b c s).tables
  constraint_beyond Setup a b c s r = three_beyond a b c s (r tt)
  constraint_beyond (Prove true) a b c s r = three_beyond a b c s (r tt)
  constraint_beyond (Prove false) a b c s r = same_beyond s.tables

  module _ (s : State V) where
    instance_beyond : (handed : Result V SynthesisError) → KeepsBeyond s.tables (naming_instance s handed).state.tables
    instance_beyond handed =
        outcome_beyond (first (new_input_variable_tests s handed)) _ (with_instance handed s) s
        (λ e.
        let free = enough _ _ 11 (first_none (new_input_variable_tests s handed) e).0 in
        record {
          terms = stays s.tables.terms;
          index = stays s.tables.index;
          instances = value_beyond s.counts.mode handed s.counts.instances s.tables.instances free;
          witnesses = stays s.tables.witnesses;
        })

    witness_beyond : (handed : Result V SynthesisError) → KeepsBeyond s.tables (naming_witness s handed).state.tables
    witness_beyond handed =
        outcome_beyond (first (new_witness_variable_tests s handed)) _ (with_witness handed s) s
        (λ e.
        let free = enough _ _ 12 (first_none (new_witness_variable_tests s handed) e).0 in
        record {
          terms = stays s.tables.terms;
          index = stays s.tables.index;
          instances = stays s.tables.instances;
          witnesses = value_beyond s.counts.mode handed s.counts.witnesses s.tables.witnesses free;
        })

    new_lc_beyond : (ts : List (Term V)) → KeepsBeyond s.tables (naming_list s ts).state.tables
    new_lc_beyond ts = outcome_beyond (first (new_lc_tests s ts)) _ (with_list Plain ts s) s (λ e. list_beyond Plain ts s (room_for_list s ts e))

    enforce_constraint_beyond : (a b c : List (Term V)) → KeepsBeyond s.tables (constraining s a b c).state.tables
    enforce_constraint_beyond a b c =
        outcome_beyond (first (enforce_constraint_tests s a b c)) tt (with_constraint a b c s) s
        (λ e. constraint_beyond s.counts.mode a b c s (room_for_constraint s a b c e))

  pub calls_keep_beyond : (m : Model V) → CallsKeepBeyond m
  calls_keep_beyond m = record {
    new = λ h e.
        record { terms = stays h.terms; index = stays h.index; instances = set_stays h.instances 0 m.one (omega arith); witnesses = stays h.witnesses };
    new_input_variable = λ s handed. instance_beyond s handed;
    new_witness_variable = λ s handed. witness_beyond s handed;
    new_lc = λ s ts. new_lc_beyond s ts;
    enforce_constraint = λ s a b c. enforce_constraint_beyond s a b c;
  }
