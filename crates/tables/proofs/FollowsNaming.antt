-- Naming an instance and a witness goes as the account says. Assumes nothing.
use Rattle.std.proofs.Common.{◌≡◌, ℕ, ◌+◌, ◌≤◌, List, ◌++◌, length, None, Ok, Err, Result, sym, refl, ap, append-nil, arith}
use Rattle.std.specs.Result.{result_ok}
use Rattle.std.proofs.lemmas.List.{length-set}
use Rattle.field.specs.Laws.{Model}
use Rattle.variables.specs.declared.SynthesisError.{SynthesisError}
use Rattle.variables.specs.declared.Variable.TheVariants.{Instance, Witness}
use Rattle.account.specs.declared.SynthesisMode.{SynthesisMode}
use Rattle.account.specs.declared.SynthesisMode.TheVariants.{Setup, Prove}
use Rattle.account.specs.Account.{kept_value, one_more, with_instances, with_witnesses}
use Rattle.account.specs.Calls as calls
use Rattle.account.specs.Refusals.{first, value_places, value_refusal}
use Rattle.account.proofs.Refuses.{some_none, enough, first_none}
use Rattle.account.proofs.Accepts.{for_values}
use Rattle.tables.specs.Held.{State, counted}
use Rattle.tables.specs.Sound.{kept_instances, kept_witnesses, given_of, account_of, SoundTables}
use Rattle.tables.specs.Calls.{with_value, new_input_variable_tests, new_witness_variable_tests, with_instance, with_witness, naming_instance, naming_witness}
use Rattle.tables.specs.Follows.{Shows, answer_as, Follows}
use Rattle.tables.proofs.Puts.{counted_more}
use Rattle.tables.proofs.Dues.{outcome_follows}
use Rattle.tables.proofs.MoreLists.{lists_wider}

module _ {V : Type 0} where
  value_long : (mode : SynthesisMode) (handed : Result V SynthesisError) (n : ℕ) (values : List V) → length (with_value mode handed n values) ≡ length values
  value_long Setup handed n values = refl
  value_long (Prove matrices) (Ok v) n values = length-set values n v
  value_long (Prove matrices) (Err e) n values = refl

  -- a value more is kept where values are
  instance_kept : (mode : SynthesisMode) (handed : Result V SynthesisError) (n : ℕ) (values : List V) → value_refusal mode handed ≡ None
      → n + 1 ≤ value_places mode (length values)
      → kept_instances mode (n + 1) (counted (with_value mode handed n values)) ≡ kept_instances mode n (counted values) ++ kept_value mode (result_ok handed)
  instance_kept Setup handed n values e h = sym (append-nil _)
  instance_kept (Prove matrices) (Ok v) n values e h = counted_more values n v h
  instance_kept (Prove matrices) (Err f) n values e h = absurd (some_none _ _ refl e)

  witness_kept : (mode : SynthesisMode) (handed : Result V SynthesisError) (n : ℕ) (values : List V) → value_refusal mode handed ≡ None
      → n + 1 ≤ value_places mode (length values)
      → kept_witnesses mode (n + 1) (counted (with_value mode handed n values)) ≡ kept_witnesses mode n (counted values) ++ kept_value mode (result_ok handed)
  witness_kept Setup handed n values e h = refl
  witness_kept (Prove matrices) (Ok v) n values e h = counted_more values n v h
  witness_kept (Prove matrices) (Err f) n values e h = absurd (some_none _ _ refl e)

  module _ (s : State V) (handed : Result V SynthesisError) (shows : Shows s (account_of s)) where
    abbrev sound : SoundTables s
    sound = shows.sound

    abbrev mode : SynthesisMode
    mode = s.counts.mode

    -- an instance more
    instance_sound : s.counts.instances + 1 ≤ value_places mode (length s.tables.instances) → SoundTables (with_instance handed s)
    instance_sound h =
        let long = value_long mode handed s.counts.instances s.tables.instances in
        record {
          terms = sound.terms;
          entries = sound.entries;
          first = λ k. omega (arith, sound.first k);
          instances = λ k. omega (arith, for_values mode (s.counts.instances + 1) (length s.tables.instances) h k);
          witnesses = sound.witnesses;
          spans = sound.spans;
          lists = lists_wider mode s.counts.instances s.counts.witnesses s.counts.constraints _ _ (given_of s) (omega arith) (omega arith) sound.lists;
        }

    instance_account : value_refusal mode handed ≡ None → s.counts.instances + 1 ≤ value_places mode (length s.tables.instances)
        → account_of (with_instance handed s) ≡ with_instances (account_of s) (one_more mode (result_ok handed) (account_of s).instances)
    instance_account e h =
        ap (λ kept. with_instances (account_of s) (record { count = s.counts.instances + 1; kept = kept })) (instance_kept mode handed s.counts.instances s.tables.instances e h)

    instance_shown : first (new_input_variable_tests s handed) ≡ None
        → Shows (with_instance handed s) (with_instances (account_of s) (one_more mode (result_ok handed) (account_of s).instances))
    instance_shown e =
        let tests = first_none (new_input_variable_tests s handed) e in
        let free = enough _ _ 11 tests.0 in
        record { sound = instance_sound free; account = instance_account tests.1.0 free; terms = shows.terms }

    -- a witness more
    witness_sound : s.counts.witnesses + 1 ≤ value_places mode (length s.tables.witnesses) → SoundTables (with_witness handed s)
    witness_sound h =
        let long = value_long mode handed s.counts.witnesses s.tables.witnesses in
        record {
          terms = sound.terms;
          entries = sound.entries;
          first = sound.first;
          instances = sound.instances;
          witnesses = λ k. omega (arith, for_values mode (s.counts.witnesses + 1) (length s.tables.witnesses) h k);
          spans = sound.spans;
          lists = lists_wider mode s.counts.instances s.counts.witnesses s.counts.constraints _ _ (given_of s) (omega arith) (omega arith) sound.lists;
        }

    witness_account : value_refusal mode handed ≡ None → s.counts.witnesses + 1 ≤ value_places mode (length s.tables.witnesses)
        → account_of (with_witness handed s) ≡ with_witnesses (account_of s) (one_more mode (result_ok handed) (account_of s).witnesses)
    witness_account e h =
        ap (λ kept. with_witnesses (account_of s) (record { count = s.counts.witnesses + 1; kept = kept })) (witness_kept mode handed s.counts.witnesses s.tables.witnesses e h)

    witness_shown : first (new_witness_variable_tests s handed) ≡ None
        → Shows (with_witness handed s) (with_witnesses (account_of s) (one_more mode (result_ok handed) (account_of s).witnesses))
    witness_shown e =
        let tests = first_none (new_witness_variable_tests s handed) e in
        let free = enough _ _ 12 tests.0 in
        record { sound = witness_sound free; account = witness_account tests.1.0 free; terms = shows.terms }

  module _ (m : Model V) (s : State V) (handed : Result V SynthesisError) where
    pub new_input_variable_follows : let o = naming_instance s handed in Follows m (calls.new_input_variable handed) (answer_as calls.named o.answer) s o.state
    new_input_variable_follows =
        outcome_follows m (calls.new_input_variable handed) calls.named (λ t. t) (first (new_input_variable_tests s handed)) (Instance s.counts.instances) (with_instance handed s) s
        (λ shows. refl) (λ shows. refl) (λ shows e. instance_shown s handed shows e)

    pub new_witness_variable_follows : let o = naming_witness s handed in Follows m (calls.new_witness_variable handed) (answer_as calls.named o.answer) s o.state
    new_witness_variable_follows =
        outcome_follows m (calls.new_witness_variable handed) calls.named (λ t. t) (first (new_witness_variable_tests s handed)) (Witness s.counts.witnesses) (with_witness handed s) s
        (λ shows. refl) (λ shows. refl) (λ shows e. witness_shown s handed shows e)
