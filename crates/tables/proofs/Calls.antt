-- Opening shows the account as it starts, and each call follows the account. Assumes nothing.
use Rattle.field.specs.Laws.{Model}
use Rattle.tables.specs.Laws.{CallsFollow}
use Rattle.tables.proofs.FollowsSetting.{new_shows, set_mode_follows, set_goal_follows}
use Rattle.tables.proofs.FollowsNaming.{new_input_variable_follows, new_witness_variable_follows}
use Rattle.tables.proofs.FollowsLists.{new_lc_follows, enforce_constraint_follows}
use Rattle.tables.proofs.FollowsChecks.{checks_follow, questions_follow}

pub calls_follow : {V : Type 0} (m : Model V) → CallsFollow m
calls_follow m = record {
  new = new_shows m;
  set_mode = set_mode_follows m;
  set_optimization_goal = set_goal_follows m;
  new_input_variable = new_input_variable_follows m;
  new_witness_variable = new_witness_variable_follows m;
  new_lc = new_lc_follows m;
  enforce_constraint = enforce_constraint_follows m;
  which_is_unsatisfied = checks_follow m;
  assigned_value = questions_follow m;
}
