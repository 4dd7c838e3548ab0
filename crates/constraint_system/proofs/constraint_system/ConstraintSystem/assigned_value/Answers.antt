use Rattle.std.proofs.Common.{length}
use Rattle.account.specs.Calls as calls
use Rattle.account.specs.Refusals.{first}
use Rattle.account.specs.Account.{value_of}
use Rattle.tables.specs.Held.{state}
use Rattle.tables.specs.Sound.{account_of}
use Rattle.tables.specs.Calls.{assigned_value_tests, work_for, asking}
use Rattle.tables.specs.Laws.{Values}
use Rattle.tables.proofs.Calls.{calls_follow}
use Rattle.tables.proofs.Questions.{questions_find}
use Rattle.tables.proofs.Clauses.{follows_by_work}
use Rattle.constraint_system.proofs.Outcomes.{when_ok}
use Rattle.constraint_system.proofs.constraint_system.ConstraintSystem.assigned_value.Goals as goal

pub returns-clause-values : goal.returns-clause-values
returns-clause-values g c =
    let m = g.F.Field.model in
    let s = state c.args.self.now.counts c.args.tables.now in
    let v = c.args.variable in
    when_ok (first (assigned_value_tests s (length c.args.work.now) v)) (value_of m (account_of s) v) (work_for m s v c.args.work.now) c.args.work.now
    c.assigned_value.result _ (Values m s v) (questions_find g.met.F.Field.keeps s c.args.self.now.has_one (length c.args.work.now) v) c.assigned_value.ensures

pub returns-clause-account : goal.returns-clause-account
returns-clause-account g c =
    let m = g.F.Field.model in
    let s = state c.args.self.now.counts c.args.tables.now in
    let v = c.args.variable in
    follows_by_work m (calls.assigned_value (length c.args.work.now) v) calls.assigned (asking m s v c.args.work.now) c.assigned_value.result s _
    c.assigned_value.ensures ((calls_follow m).assigned_value s v c.args.work.now)
