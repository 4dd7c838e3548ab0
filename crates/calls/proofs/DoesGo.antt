-- What a call of a run does is as the account has it. Assumes nothing.
use Rattle.std.proofs.Common.{Option, Result}
use Rattle.field.specs.Laws.{Model, Keeps}
use Rattle.variables.specs.Refusals.{Told}
use Rattle.account.specs.Calls as account
use Rattle.calls.specs.Standing.{Standing}
use Rattle.calls.specs.Runs.{Goes}
use Rattle.calls.specs.Does.{Does, sets_mode, sets_goal, names_instance, names_witness, names_list, constrains, checks, asks, finalises, checks_rows, asks_finished, writes, before_its_time, after_its_time, DoesGo}
use Rattle.calls.proofs.OpenCalls.{open_calls_go}
use Rattle.calls.proofs.FinishedCalls.{finished_calls_go}

module _ {V : Type 0} {m : Model V} (keeps : Keeps m) where
  pub goes : {before now : Standing V} {call : account.Call V} {answer : Option (Result (account.Answer V) Told)} → Does m before call answer now
      → Goes m before call answer now
  goes (sets_mode s b mode) = (open_calls_go keeps).set_mode s b mode
  goes (sets_goal s b goal) = (open_calls_go keeps).set_optimization_goal s b goal
  goes (names_instance s b handed) = (open_calls_go keeps).new_input_variable s b handed
  goes (names_witness s b handed) = (open_calls_go keeps).new_witness_variable s b handed
  goes (names_list s b ts) = (open_calls_go keeps).new_lc s b ts
  goes (constrains s b x y z) = (open_calls_go keeps).enforce_constraint s b x y z
  goes (checks s b n) = (open_calls_go keeps).which_is_unsatisfied s b n
  goes (asks s b v n) = (open_calls_go keeps).assigned_value s b v n
  goes (finalises before after refusal b beyond does) = (open_calls_go keeps).finalize before after refusal b beyond does
  goes (checks_rows s b work) = (finished_calls_go m).which_is_unsatisfied s b work
  goes (asks_finished s b work v) = (finished_calls_go m).assigned_value s b work v
  goes (writes s b cells ends) = (finished_calls_go m).to_matrices s b cells ends
  goes (before_its_time s b cells ends) = (open_calls_go keeps).to_matrices s b cells ends
  goes (after_its_time s b call early) = (finished_calls_go m).others s b call early

  pub does_go : DoesGo m
  does_go before now call answer does = goes does
