-- How many values sound tables keep, and that an account which tables show fits them. Assumes nothing.
use Rattle.std.proofs.Common.{◌≡◌, ℕ, ◌≤◌, not, List, length, None, ap, arith}
use Rattle.account.specs.declared.SynthesisMode.{SynthesisMode}
use Rattle.account.specs.declared.SynthesisMode.TheVariants.{Setup, Prove}
use Rattle.account.specs.Account.{KeepsValues}
use Rattle.account.specs.Refusals.{limit, when, used_terms, used_entries}
use Rattle.account.specs.Refusals as account
use Rattle.account.specs.Conditions.{Fits}
use Rattle.account.proofs.Accepts.{unsound_iff}
use Rattle.tables.specs.Held.{State, lengths, counted, room}
use Rattle.tables.specs.Sound.{kept_instances, kept_witnesses, account_of, SoundTables}
use Rattle.tables.specs.Calls.{unsound}
use Rattle.tables.specs.Follows.{Shows}
use Rattle.tables.proofs.Puts.{counted_long}
use Rattle.tables.proofs.Holds.{reads}
use Rattle.tables.proofs.Soundness.{sound_when}

module _ {V : Type 0} where
  -- values, where they are kept
  instances_taken : (mode : SynthesisMode) (n : ℕ) (xs : List V) → KeepsValues mode → n ≤ room xs → length (kept_instances mode n (counted xs)) ≡ n
  instances_taken Setup n xs k h = absurd k
  instances_taken (Prove matrices) n xs k h = counted_long xs n h

  witnesses_taken : (mode : SynthesisMode) (w : ℕ) (xs : List V) → KeepsValues mode → w ≤ room xs → length (kept_witnesses mode w (counted xs)) ≡ w
  witnesses_taken Setup w xs k h = absurd k
  witnesses_taken (Prove matrices) w xs k h = counted_long xs w h

  module _ (s : State V) (sound : SoundTables s) where
    pub many_instances : KeepsValues s.counts.mode → length (kept_instances s.counts.mode s.counts.instances (counted s.tables.instances)) ≡ s.counts.instances
    many_instances k = instances_taken s.counts.mode s.counts.instances s.tables.instances k (sound.instances k)

    pub many_witnesses : KeepsValues s.counts.mode → length (kept_witnesses s.counts.mode s.counts.witnesses (counted s.tables.witnesses)) ≡ s.counts.witnesses
    many_witnesses k = witnesses_taken s.counts.mode s.counts.witnesses s.tables.witnesses k (sound.witnesses k)

  -- the counts of an account that tables show fit them
  module _ (s : State V) (shows : Shows s (account_of s)) where
    pub account_fits : Fits (lengths s.tables) (account_of s)
    account_fits = record {
      terms = omega (arith, shows.terms, shows.sound.terms);
      entries = omega (arith, (reads s shows).entries, shows.sound.entries);
      first = shows.sound.first;
      instances = shows.sound.instances;
      witnesses = λ k. omega (arith, shows.sound.witnesses k);
    }

    -- so neither is refused by 17
    pub tables_sound : unsound s ≡ None
    tables_sound = ap (λ b. when (not b) 17) ((sound_when s).1 shows.sound)

    pub account_sound : account.unsound (lengths s.tables) (account_of s) ≡ None
    account_sound = (unsound_iff (lengths s.tables) (account_of s)).1 account_fits
