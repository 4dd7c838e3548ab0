use Rattle.std.proofs.Common.{map, length, arith}
use Rattle.variables.specs.declared.Refusal.TheVariants.{TermsFull}
use Rattle.account.specs.Finish.{expanded, inlined}
use Rattle.account.proofs.Places.{inlined_long}
use Rattle.tables.specs.Sound.{given_in}
use Rattle.finishing.specs.Sound.{finished_in}
use Rattle.finalising.proofs.Expands.{merged_behind, merged_fits}
use Rattle.finalising.proofs.steps.merge.Goals as goal

pub returns-clause-written : goal.returns-clause-written
returns-clause-written g c =
    let split = c.split_at_mut-lists in
    merged_behind c.args.used c.args.terms.now split.result.0.now c.inline.new.free
    (λ l. inlined g.F.Field.model (map (finished_in l) c.args.before.now) (given_in l c.args.entry).terms) c.inline.result split.ensures.front
    split.ensures.front_len c.inline.ensures.written

pub returns-clause-fits : goal.returns-clause-fits
returns-clause-fits g c =
    let m = g.F.Field.model in
    let split = c.split_at_mut-lists in
    let finished = map (finished_in split.result.0.now) c.args.before.now in
    let ts = (given_in split.result.0.now c.args.entry).terms in
    merged_fits TermsFull c.inline.result c.args.used (length split.result.1.now) (length c.args.terms.now) (length (expanded m finished ts))
    (length (inlined m finished ts)) c.inline.ensures.answer (inlined_long m finished ts) (omega (arith, split.ensures.front_len, split.ensures.back_len))
