use Rattle.std.proofs.Common.{sym, ◌∙◌, arith}
use Rattle.tables.specs.Held.{state}
use Rattle.circuits.proofs.Checked.{asked_other, asked_known}
use Rattle.circuits.proofs.checks.assigned_value.Goals as goal

pub returns-then-not-is_known_symbol : goal.returns-then-not-is_known_symbol
returns-then-not-is_known_symbol g c =
    asked_other g.F.Field.model (state c.args.counts.now c.args.tables.now) c.args.work.now c.args.variable (sym c.is_sound.ensures ∙ c.if-not-is_sound.false)
    (sym c.is_known_symbol.ensures ∙ c.if-not-is_known_symbol.true) _ _ c.assignment-kept.ensures.instances c.assignment-kept.ensures.witnesses _ c.value.ensures

pub returns : goal.returns
returns g c =
    asked_known g.F.Field.model (state c.args.counts.now c.args.tables.now) c.args.work.now c.args.variable (sym c.is_sound.ensures ∙ c.if-not-is_sound.false)
    (sym c.is_known_symbol.ensures ∙ c.if-not-is_known_symbol.false) (omega arith) _ _ c.assignment-kept.ensures.instances c.assignment-kept.ensures.witnesses _ c.fill.ensures _ c.value_of.ensures
