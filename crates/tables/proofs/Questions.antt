-- An accepted question on sound tables answers a value exactly where one is due. Assumes nothing.
use Rattle.std.proofs.Common.{ℕ, ◌≤◌, List, length, refl, arith}
use Rattle.std.proofs.lemmas.List.{length-take}
use Rattle.field.specs.Laws.{Model, Keeps}
use Rattle.account.specs.declared.SynthesisMode.{SynthesisMode}
use Rattle.account.specs.declared.SynthesisMode.TheVariants.{Setup, Prove}
use Rattle.account.proofs.Refuses.{when_not, first_none}
use Rattle.account.proofs.Questions.{open_found}
use Rattle.tables.specs.Held.{counted}
use Rattle.tables.specs.Sound.{kept_instances, kept_witnesses, account_of, sound}
use Rattle.tables.specs.Calls.{assigned_value_tests}
use Rattle.tables.specs.Laws.{QuestionsFind}
use Rattle.tables.proofs.Soundness.{sound_when}

module _ {V : Type 0} where
  -- no more values are kept than variables are named
  few_instances : (mode : SynthesisMode) (n : ℕ) (xs : List V) → 1 ≤ n → length (kept_instances mode n xs) ≤ n
  few_instances Setup n xs h = omega (arith, length-take 1 xs)
  few_instances (Prove matrices) n xs h = omega (arith, length-take n xs)

  few_witnesses : (mode : SynthesisMode) (w : ℕ) (xs : List V) → length (kept_witnesses mode w xs) ≤ w
  few_witnesses Setup w xs = omega arith
  few_witnesses (Prove matrices) w xs = omega (arith, length-take w xs)

  pub questions_find : {m : Model V} (keeps : Keeps m) → QuestionsFind m
  questions_find keeps s one work v e =
      let tables = (sound_when s).0 (when_not (sound s) 17 (first_none (assigned_value_tests s work v) e).0) in
      open_found keeps (account_of s) refl tables.lists.known
      (few_instances s.counts.mode s.counts.instances (counted s.tables.instances) one, few_witnesses s.counts.mode s.counts.witnesses (counted s.tables.witnesses)) v
