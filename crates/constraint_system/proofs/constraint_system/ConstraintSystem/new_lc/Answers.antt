use Rattle.std.proofs.Common.{arith}
use Rattle.variables.specs.Refusals.{answered}
use Rattle.account.specs.Calls as calls
use Rattle.tables.specs.Held.{state}
use Rattle.tables.specs.Calls.{naming_list}
use Rattle.tables.proofs.Beyond.{calls_keep_beyond}
use Rattle.tables.proofs.Calls.{calls_follow}
use Rattle.tables.proofs.Clauses.{follows_by_outcome, keeps_by_outcome}
use Rattle.constraint_system.proofs.Variables.{list_counts_none}
use Rattle.constraint_system.proofs.constraint_system.ConstraintSystem.new_lc.Goals as goal

pub invariant_of-self : goal.invariant_of-self
invariant_of-self g c =
    let before = c.args.self.now in
    let same = list_counts_none (state before.counts c.args.tables.now) (answered c.new_lc.result) c.args.list.now
    (state c.new_lc.new.counts c.new_lc.new.tables) c.new_lc.ensures.does in
    record {
      has_one = omega (arith, before.has_one, same.instances);
      few_instances = omega (arith, before.few_instances, same.instances);
      few_witnesses = omega (arith, before.few_witnesses, same.witnesses);
    }

pub returns-clause-beyond : goal.returns-clause-beyond
returns-clause-beyond g c =
    let s = state c.args.self.now.counts c.args.tables.now in
    keeps_by_outcome (naming_list s c.args.list.now) (answered c.new_lc.result) s (state c.new_lc.new.counts c.new_lc.new.tables) c.new_lc.ensures.does ((calls_keep_beyond g.F.Field.model).new_lc s c.args.list.now)

pub returns-clause-account : goal.returns-clause-account
returns-clause-account g c =
    let m = g.F.Field.model in
    let s = state c.args.self.now.counts c.args.tables.now in
    follows_by_outcome m (calls.new_lc c.args.list.now) calls.named (naming_list s c.args.list.now) c.new_lc.result s (state c.new_lc.new.counts c.new_lc.new.tables) c.new_lc.ensures.does ((calls_follow m).new_lc s c.args.list.now)
