use Rattle.std.proofs.Common.{Some, None, arith}
use Rattle.variables.specs.Refusals.{told}
use Rattle.tables.specs.Held.{state}
use Rattle.finishing.proofs.Admits.{finalising_admits}
use Rattle.finishing.proofs.FollowsFinalising.{finalising_follows}
use Rattle.constraint_system.proofs.Variables.{finalising_counts_few}
use Rattle.constraint_system.proofs.constraint_system.ConstraintSystem.finalize.Goals as goal

pub invariant_of-result : goal.invariant_of-result
invariant_of-result g c =
    let before = c.args.self in
    let few = finalising_counts_few g.F.Field.model (state before.counts c.args.tables.now) (state c.in-Ok.counts c.finalize.new.tables)
    before.few_witnesses c.in-Ok.ensures.does in
    record {
      has_one = omega (arith, before.has_one, few.instances);
      few_instances = omega (arith, before.few_instances, few.instances);
      few_witnesses = few.witnesses;
    }

pub returns-in-Ok-clause-admits : goal.returns-in-Ok-clause-admits
returns-in-Ok-clause-admits g c kept =
    finalising_admits g.met.F.Field.keeps (state c.args.self.counts c.args.tables.now) (state c.in-Ok.counts c.finalize.new.tables) kept
    c.in-Ok.ensures.beyond c.in-Ok.ensures.does

pub returns-in-Ok-clause-account : goal.returns-in-Ok-clause-account
returns-in-Ok-clause-account g c =
    finalising_follows g.met.F.Field.keeps (state c.args.self.counts c.args.tables.now) (state c.in-Ok.counts c.finalize.new.tables) None
    c.in-Ok.ensures.beyond c.in-Ok.ensures.does

pub returns-in-Err-clause-account : goal.returns-in-Err-clause-account
returns-in-Err-clause-account g c =
    finalising_follows g.met.F.Field.keeps (state c.args.self.counts c.args.tables.now) (state c.args.self.counts c.finalize.new.tables) (Some (told c.in-Err.refusal))
    c.in-Err.ensures.beyond c.in-Err.ensures.does
