use Rattle.std.proofs.Common.{None, Some, Ok, Err, sym, subst}
use Rattle.variables.specs.Refusals.{told}
use Rattle.account.specs.Calls as account
use Rattle.calls.specs.Calls.{rooms, as_call}
use Rattle.calls.specs.Laws.{while_open, when_finished}
use Rattle.calls.specs.Does.{Does, finalises}
use Rattle.constraint_system.specs.Circuit.{circuit}
use Rattle.constraint_system.specs.Finished.{finished}
use Rattle.runs.specs.Run.{laid}
use Rattle.runs.proofs.steps.step_open.Goals as goal

pub returns-in-Ok-clause-does : goal.returns-in-Ok-clause-does
returns-in-Ok-clause-does g c t =
    let before = circuit c.args.system c.args.tables.now in
    let after = finished c.in-Ok.finished c.finalize.new.tables in
    let b = laid c.args.work.now t in
    subst (λ call. Does g.F.Field.model (while_open before b) (as_call (rooms b) call) (Some (Ok account.unit)) (when_finished after b))
    (sym c.in-Finalize.is) (finalises before after None b c.in-Ok.ensures.beyond c.in-Ok.ensures.does)

pub returns-in-Err-clause-does : goal.returns-in-Err-clause-does
returns-in-Err-clause-does g c t =
    let before = circuit c.args.system c.args.tables.now in
    let after = circuit c.in-Err.system c.finalize.new.tables in
    let refusal = told c.in-Err.refusal in
    let b = laid c.args.work.now t in
    subst (λ call. Does g.F.Field.model (while_open before b) (as_call (rooms b) call) (Some (Err refusal)) (while_open after b))
    (sym c.in-Finalize.is) (finalises before after (Some refusal) b c.in-Err.ensures.beyond c.in-Err.ensures.does)

pub returns-in_default-clause-does : goal.returns-in_default-clause-does
returns-in_default-clause-does g c = c.answer_open-answer.ensures.does
