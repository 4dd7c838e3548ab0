use Rattle.std.proofs.Common.{sym, subst}
use Rattle.matrices.specs.Writing.{lent}
use Rattle.calls.specs.Calls.{rooms, as_call, as_answer}
use Rattle.calls.specs.Does.{Does}
use Rattle.runs.specs.declared.steps.Circuit.TheVariants.{Finished}
use Rattle.runs.specs.Run.{beside, standing}
use Rattle.runs.proofs.steps.step.Goals as goal

pub returns-in-Open-clause-does : goal.returns-in-Open-clause-does
returns-in-Open-clause-does g c =
    let b = beside c.args.work.now c.args.cells.now c.args.ends.now in
    let made = c.step_open in
    let now = standing made.result.0 made.new.tables (beside made.new.work c.args.cells.now c.args.ends.now) in
    subst (λ z. Does g.F.Field.model (standing z c.args.tables.now b) (as_call (rooms b) c.args.call.now) (as_answer b.written made.result.1) now)
    (sym c.in-Open.is) (made.ensures.does b.written)

pub returns-in-Finished-clause-does : goal.returns-in-Finished-clause-does
returns-in-Finished-clause-does g c =
    let b = beside c.args.work.now c.args.cells.now c.args.ends.now in
    let made = c.answer_finished-answer in
    let t = lent made.new.cells made.new.ends in
    let now = standing (Finished c.in-Finished.finished) c.args.tables.now (beside c.args.work.now made.new.cells made.new.ends) in
    subst (λ z. Does g.F.Field.model (standing z c.args.tables.now b) (as_call (rooms b) c.args.call.now) (as_answer t made.result) now)
    (sym c.in-Finished.is) (made.ensures.does c.args.work.now)
