-- That finalising and the calls on a finished circuit are those of the account. Assumes nothing.
use Rattle.std.specs.Prelude.{◌≡◌, ◌++◌, Some, None, Result}
use Rattle.field.specs.Laws.{Model}
use Rattle.variables.specs.Refusals.{Told}
use Rattle.account.specs.Account.{Finished, Account, KeepsMatrices, nothing_made, witness_count, constraint_count, all_given}
use Rattle.account.specs.Calls.{Call, Answer, finalize, after}
use Rattle.account.specs.Refusals.{used_terms, used_entries}
use Rattle.account.specs.Run.{due}
use Rattle.tables.specs.Held.{State, lengths}
use Rattle.tables.specs.Sound.{given_of}
use Rattle.tables.specs.Follows.{Shows}
use Rattle.finishing.specs.Sound.{finished_of, instances_of, witnesses_of, SoundFinished}

-- The tables show this account of a finished circuit, of which finalising made `done`: they are sound, its counts are those of the
-- account, and they hold its lists, as given and as finished, and its values.
pub record ShowsFinished {V : Type 0} (s : State V) (x : Account V) (done : Finished V) : Type 0 where
  pub sound : SoundFinished s
  pub mode : s.counts.mode ≡ x.mode
  pub goal : s.counts.goal ≡ x.goal
  pub instance_count : s.counts.instances ≡ x.instances.count
  pub witnesses_counted : s.counts.witnesses ≡ witness_count x
  pub constraints : s.counts.constraints ≡ constraint_count x
  pub entries : s.counts.entries ≡ used_entries x
  pub terms : s.counts.terms ≡ used_terms x
  pub instances : instances_of s ≡ x.instances.kept
  pub witnesses : witnesses_of s ≡ x.witnesses.kept ++ done.added
  pub given : given_of s ≡ all_given x
  pub finished : KeepsMatrices x.mode → finished_of s ≡ done.lists
  pub bare : (KeepsMatrices x.mode → ⊥) → done ≡ nothing_made

-- The tables show an account, of a circuit that is open or finished.
abbrev pub Presents : {V : Type 0} → State V → Account V → Type 0
Presents s x = (x.finished ≡ None → Shows s x) × ((done : Finished _) → x.finished ≡ Some done → ShowsFinished s x done)

module _ {V : Type 0} (m : Model V) where
  -- Whatever account the tables show, finalising is answered or refused as is due by it, and after it they show what the account is then.
  abbrev pub FollowsFinalising : Result (Answer V) Told → (before now : State V) → Type 0
  FollowsFinalising answer before now =
      (x : Account V) → Shows before x
      → (answer ≡ due m (lengths before.tables) x finalize) × Presents now (after m x (record { call = finalize; answer = answer }))

  -- A call on a finished circuit changes nothing, and whatever account the tables show, it is answered or refused as is due by it.
  abbrev pub FollowsFinished : Call V → Result (Answer V) Told → State V → Type 0
  FollowsFinished call answer s =
      (x : Account V) (done : Finished V) → x.finished ≡ Some done → ShowsFinished s x done → answer ≡ due m (lengths s.tables) x call
