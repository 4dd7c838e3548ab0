use Rattle.std.proofs.Common.{map, Err, ap, ◌∙◌, arith}
use Rattle.std.proofs.lemmas.Result.{err_from_is_err_and}
use Rattle.variables.specs.declared.Refusal.TheVariants.{TermsFull}
use Rattle.account.specs.Finish.{replaced}
use Rattle.finishing.specs.Sound.{finished_in}
use Rattle.finalising.proofs.Expands.{written_more, written_not}
use Rattle.finalising.proofs.expansion.expand.Goals as goal

pub returns-in_err-end-clause-answer : goal.returns-in_err-end-clause-answer
returns-in_err-end-clause-answer g c =
    let p = err_from_is_err_and c.from_residual.result c.from_residual.ensures.1 in
    let finished = map (finished_in c.args.lists.now) c.args.before.now in
    written_not (λ t. replaced g.F.Field.model finished t.number t.variable) c.args.list.now c.args.free.now TermsFull c.loop-term.term-index _ _
    c.term-item.result (omega arith) c.term-item.is c.loop-term.invariant _ _ c.in_err-end.ensures.answer (p.1 ∙ ap Err p.2)

pub loop-term-preserved : goal.loop-term-preserved
loop-term-preserved g c =
    let finished = map (finished_in c.args.lists.now) c.args.before.now in
    written_more (λ t. replaced g.F.Field.model finished t.number t.variable) c.args.list.now c.args.free.now TermsFull c.loop-term.term-index _ _
    c.term-item.result (omega arith) c.term-item.is c.loop-term.invariant _ _ c.in_ok-end.ensures.answer c.in_ok-end.ensures.written
