use Rattle.std.proofs.Common.{arith}
use Rattle.constraint_system.proofs.Variables.{constraint_counts_none}
use Rattle.variables.specs.Refusals.{answered}
use Rattle.account.specs.Calls as calls
use Rattle.tables.specs.Held.{state}
use Rattle.tables.specs.Calls.{constraining}
use Rattle.tables.proofs.Beyond.{calls_keep_beyond}
use Rattle.tables.proofs.Calls.{calls_follow}
use Rattle.tables.proofs.Clauses.{follows_by_outcome, keeps_by_outcome}
use Rattle.constraint_system.proofs.constraint_system.ConstraintSystem.enforce_constraint.Goals as goal

pub invariant_of-self : goal.invariant_of-self
invariant_of-self g c =
    let before = c.args.self.now in
    let same = constraint_counts_none (state before.counts c.args.tables.now) (answered c.enforce_constraint.result) c.args.a.now c.args.b.now c.args.c.now
    (state c.enforce_constraint.new.counts c.enforce_constraint.new.tables) c.enforce_constraint.ensures.does in
    record {
      has_one = omega (arith, before.has_one, same.instances);
      few_instances = omega (arith, before.few_instances, same.instances);
      few_witnesses = omega (arith, before.few_witnesses, same.witnesses);
    }

pub returns-clause-beyond : goal.returns-clause-beyond
returns-clause-beyond g c =
    let s = state c.args.self.now.counts c.args.tables.now in
    keeps_by_outcome (constraining s c.args.a.now c.args.b.now c.args.c.now) (answered c.enforce_constraint.result) s (state c.enforce_constraint.new.counts c.enforce_constraint.new.tables) c.enforce_constraint.ensures.does ((calls_keep_beyond g.F.Field.model).enforce_constraint s c.args.a.now c.args.b.now c.args.c.now)

pub returns-clause-account : goal.returns-clause-account
returns-clause-account g c =
    let m = g.F.Field.model in
    let s = state c.args.self.now.counts c.args.tables.now in
    follows_by_outcome m (calls.enforce_constraint c.args.a.now c.args.b.now c.args.c.now) (λ _. calls.unit) (constraining s c.args.a.now c.args.b.now c.args.c.now) c.enforce_constraint.result s (state c.enforce_constraint.new.counts c.enforce_constraint.new.tables) c.enforce_constraint.ensures.does ((calls_follow m).enforce_constraint s c.args.a.now c.args.b.now c.args.c.now)
