-- An accepted check of sound tables names the first constraint in them that fails at the kept values. Assumes nothing.
use Rattle.std.proofs.Common.{refl}
use Rattle.field.specs.Laws.{Model, Keeps}
use Rattle.account.proofs.Refuses.{when_not, first_none}
use Rattle.account.proofs.Accepts.{check_iff}
use Rattle.account.proofs.SoundLists.{none_where_plain}
use Rattle.account.proofs.Values.{Valued, open_right, check_right}
use Rattle.tables.specs.Held.{State}
use Rattle.tables.specs.Sound.{given_of, account_of, sound, SoundTables}
use Rattle.tables.specs.Calls.{which_is_unsatisfied_tests}
use Rattle.tables.specs.Laws.{ChecksName}
use Rattle.tables.proofs.Soundness.{sound_when}
use Rattle.tables.proofs.Fitting.{many_instances, many_witnesses}

module _ {V : Type 0} where
  account_valued : (s : State V) → SoundTables s → Valued (account_of s)
  account_valued s tables = record {
    known = tables.lists.known;
    bare = λ k. none_where_plain (given_of s) (tables.lists.bare k);
    instances_kept = many_instances s tables;
    witnesses_kept = many_witnesses s tables;
  }

  pub checks_name : {m : Model V} (keeps : Keeps m) → ChecksName m
  checks_name keeps s work e =
      let x = account_of s in
      let tests = first_none (which_is_unsatisfied_tests s work) e in
      let tables = (sound_when s).0 (when_not (sound s) 17 tests.0) in
      check_right keeps x (account_valued s tables) (open_right keeps x refl) s.counts.mode refl ((check_iff s.counts.mode x).0 tests.1.0)
