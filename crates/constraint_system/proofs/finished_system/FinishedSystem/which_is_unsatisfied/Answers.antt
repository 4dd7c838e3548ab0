use Rattle.account.specs.Calls as calls
use Rattle.account.specs.Refusals.{first}
use Rattle.tables.specs.Held.{state}
use Rattle.finishing.specs.Checks.{check_tests, failing_row, checking}
use Rattle.finishing.specs.Laws.{NamesRow}
use Rattle.finishing.proofs.RowChecks.{checks_name_rows}
use Rattle.finishing.proofs.AccountCalls.{finished_follow}
use Rattle.constraint_system.proofs.Outcomes.{when_answered, follows_answered}
use Rattle.constraint_system.proofs.finished_system.FinishedSystem.which_is_unsatisfied.Goals as goal

pub returns-clause-names : goal.returns-clause-names
returns-clause-names g c =
    let m = g.F.Field.model in
    let s = state c.args.self.now.counts c.args.tables.now in
    when_answered (first (check_tests s)) (failing_row m s s.counts.mode) c.which_is_unsatisfied.result (NamesRow m s)
    (checks_name_rows g.met.F.Field.keeps s) c.which_is_unsatisfied.ensures

pub returns-clause-account : goal.returns-clause-account
returns-clause-account g c work =
    let m = g.F.Field.model in
    let s = state c.args.self.now.counts c.args.tables.now in
    follows_answered m (calls.which_is_unsatisfied work) calls.unsatisfied (checking m s) c.which_is_unsatisfied.result s c.which_is_unsatisfied.ensures
    ((finished_follow m).which_is_unsatisfied s work)
