use Rattle.std.proofs.Common.{length, subst}
use Rattle.std.specs.Option.{is_none}
use Rattle.std.proofs.lemmas.Result.{err_from_is_err_and}
use Rattle.account.specs.Refusals.{first}
use Rattle.account.specs.Rows.{constraints}
use Rattle.account.specs.Account.{constraints_kept, failing_of}
use Rattle.tables.specs.Held.{state}
use Rattle.tables.specs.Sound.{account_of}
use Rattle.tables.specs.Calls.{which_is_unsatisfied_tests, work_of}
use Rattle.tables.specs.Laws.{Satisfies}
use Rattle.constraint_system.proofs.Outcomes.{none_told, refused_alike, none_satisfies}
use Rattle.constraint_system.proofs.constraint_system.ConstraintSystem.is_satisfied.Goals as goal

pub returns-in_err-first-clause-does : goal.returns-in_err-first-clause-does
returns-in_err-first-clause-does g c =
    let m = g.F.Field.model in
    let s = state c.args.self.now.counts c.args.tables.now in
    let p = err_from_is_err_and c.from_residual.result c.from_residual.ensures.1 in
    rw (p.1, p.2)
    (refused_alike (first (which_is_unsatisfied_tests s (length c.args.work.now))) (failing_of m s.counts.mode (account_of s)) (is_none (failing_of m s.counts.mode (account_of s)))
    (work_of m s c.args.work.now) c.args.work.now _ _ c.in_err-first.ensures.does)

pub returns-clause-all : goal.returns-clause-all
returns-clause-all g c =
    let m = g.F.Field.model in
    let s = state c.args.self.now.counts c.args.tables.now in
    let x = account_of s in
    subst (Satisfies m s) (none_told c.in_ok-first.first c.is_none.result c.is_none.ensures)
    (none_satisfies m (constraints_kept m x (constraints x.given)) c.in_ok-first.first c.in_ok-first.ensures.names)
