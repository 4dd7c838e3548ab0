use Rattle.std.proofs.Common.{length}
use Rattle.account.specs.Calls as calls
use Rattle.account.specs.Refusals.{first}
use Rattle.account.specs.Account.{failing_of}
use Rattle.tables.specs.Held.{state}
use Rattle.tables.specs.Sound.{account_of}
use Rattle.tables.specs.Calls.{which_is_unsatisfied_tests, work_of, checking}
use Rattle.tables.specs.Laws.{Names}
use Rattle.tables.proofs.Calls.{calls_follow}
use Rattle.tables.proofs.Checks.{checks_name}
use Rattle.tables.proofs.Clauses.{follows_by_work}
use Rattle.constraint_system.proofs.Outcomes.{when_ok}
use Rattle.constraint_system.proofs.constraint_system.ConstraintSystem.which_is_unsatisfied.Goals as goal

pub returns-clause-names : goal.returns-clause-names
returns-clause-names g c =
    let m = g.F.Field.model in
    let s = state c.args.self.now.counts c.args.tables.now in
    when_ok (first (which_is_unsatisfied_tests s (length c.args.work.now))) (failing_of m s.counts.mode (account_of s)) (work_of m s c.args.work.now) c.args.work.now
    c.which_is_unsatisfied.result _ (Names m s) (checks_name g.met.F.Field.keeps s (length c.args.work.now)) c.which_is_unsatisfied.ensures

pub returns-clause-account : goal.returns-clause-account
returns-clause-account g c =
    let m = g.F.Field.model in
    let s = state c.args.self.now.counts c.args.tables.now in
    follows_by_work m (calls.which_is_unsatisfied (length c.args.work.now)) calls.unsatisfied (checking m s c.args.work.now) c.which_is_unsatisfied.result s _
    c.which_is_unsatisfied.ensures ((calls_follow m).which_is_unsatisfied s c.args.work.now)
