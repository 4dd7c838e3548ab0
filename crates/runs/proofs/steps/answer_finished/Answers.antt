use Rattle.std.proofs.Common.{min, refl}
use Rattle.account.specs.Calls as account
use Rattle.finishing.specs.Checks.{checking, asking}
use Rattle.calls.specs.declared.Call.TheVariants.{WhichIsUnsatisfied, AssignedValue}
use Rattle.calls.specs.declared.Answer.TheVariants.{Unsatisfied, Assigned}
use Rattle.calls.specs.Calls.{rooms}
use Rattle.calls.specs.Does.{checks_rows, asks_finished}
use Rattle.constraint_system.specs.Finished.{finished}
use Rattle.runs.specs.Run.{beside}
use Rattle.runs.proofs.CallsDo.{finished_does, writing_does, others_do}
use Rattle.runs.proofs.steps.answer_finished.Goals as goal

pub returns-in-WhichIsUnsatisfied-clause-does : goal.returns-in-WhichIsUnsatisfied-clause-does
returns-in-WhichIsUnsatisfied-clause-does g c w =
    let m = g.F.Field.model in
    let s = finished c.args.system.now c.args.tables.now in
    let b = beside w c.args.cells.now c.args.ends.now in
    let n = c.in-WhichIsUnsatisfied.work in
    finished_does m account.unsatisfied Unsatisfied b.written s b c.args.call.now (WhichIsUnsatisfied n) (checking m s) c.which_is_unsatisfied.result
    c.unsatisfied.result c.in-WhichIsUnsatisfied.is c.which_is_unsatisfied.ensures.does c.unsatisfied.ensures (λ _. refl)
    (checks_rows s b (min n (rooms b).work))

pub returns-in-AssignedValue-clause-does : goal.returns-in-AssignedValue-clause-does
returns-in-AssignedValue-clause-does g c w =
    let m = g.F.Field.model in
    let s = finished c.args.system.now c.args.tables.now in
    let b = beside w c.args.cells.now c.args.ends.now in
    let v = c.in-AssignedValue.variable in
    let n = c.in-AssignedValue.work in
    finished_does m account.assigned Assigned b.written s b c.args.call.now (AssignedValue v n) (asking m s v) c.assigned_value.result
    c.assigned.result c.in-AssignedValue.is c.assigned_value.ensures.does c.assigned.ensures (λ _. refl)
    (asks_finished s b (min n (rooms b).work) v)

pub returns-in-ToMatrices-clause-does : goal.returns-in-ToMatrices-clause-does
returns-in-ToMatrices-clause-does g c w =
    let at = c.in-ToMatrices in
    let now = c.to_matrices.new in
    writing_does g.F.Field.model (finished c.args.system.now c.args.tables.now) w c.args.cells.now now.cells c.args.ends.now now.ends
    at.cell_places at.end_places c.min-cell_end.result c.min-ends_end.result c.min-cell_end.ensures c.min-ends_end.ensures c.args.call.now c.written.result
    c.to_matrices.result at.is c.to_matrices.ensures.does c.written.ensures

pub returns-in_default : goal.returns-in_default
returns-in_default g c = record {
  room = (refl, refl);
  does = λ w.
      let not = c.in_default in
      others_do g.F.Field.model (finished c.args.system.now c.args.tables.now) (beside w c.args.cells.now c.args.ends.now) c.args.call.now
      not.not-WhichIsUnsatisfied not.not-AssignedValue not.not-ToMatrices;
}
