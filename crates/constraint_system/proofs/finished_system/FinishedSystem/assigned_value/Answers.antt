use Rattle.account.specs.Calls as calls
use Rattle.account.specs.Refusals.{first}
use Rattle.tables.specs.Held.{state}
use Rattle.finishing.specs.Checks.{question_tests, value_at, asking}
use Rattle.finishing.specs.Laws.{ValuesFinished}
use Rattle.finishing.proofs.VariableQuestions.{questions_find_finished}
use Rattle.finishing.proofs.AccountCalls.{finished_follow}
use Rattle.constraint_system.proofs.Outcomes.{when_answered, follows_answered}
use Rattle.constraint_system.proofs.finished_system.FinishedSystem.assigned_value.Goals as goal

pub returns-clause-values : goal.returns-clause-values
returns-clause-values g c =
    let m = g.F.Field.model in
    let s = state c.args.self.now.counts c.args.tables.now in
    when_answered (first (question_tests s)) (value_at m s c.args.variable) c.assigned_value.result (ValuesFinished m s c.args.variable)
    (questions_find_finished g.met.F.Field.keeps s c.args.variable) c.assigned_value.ensures

pub returns-clause-account : goal.returns-clause-account
returns-clause-account g c work =
    let m = g.F.Field.model in
    let s = state c.args.self.now.counts c.args.tables.now in
    follows_answered m (calls.assigned_value work c.args.variable) calls.assigned (asking m s c.args.variable) c.assigned_value.result s c.assigned_value.ensures
    ((finished_follow m).assigned_value s work c.args.variable)
