use Rattle.std.proofs.Common.{◌≡◌, ◌<◌, length, arith}
use borrow.Author.Rules.{scaled_Fits}
use Rattle.std.proofs.lemmas.Result.{err_from_is_err_and}
use Rattle.tables.specs.Held.{held}
use Rattle.runs.specs.Run.{beside, standing}
use Rattle.runs.proofs.Turns.{places_on, lies_beside, sofar_opened, opened_well, not_opened, turned, last_turn, all_made, all_done}
use Rattle.runs.proofs.whole.run.Goals as goal

pub returns-in_err-new-clause-opens : goal.returns-in_err-new-clause-opens
returns-in_err-new-clause-opens g c =
    let p = err_from_is_err_and c.from_residual.result c.from_residual.ensures.1 in
    rw (p.1, p.2)
    (not_opened c.args.calls.now (held c.args.tables.now) (beside c.args.work.now c.args.cells.now c.args.ends.now) c.args.answers.now
    c.if-answers-calls.false g.F.Field.model c.in_err-new.field-0.0 (held c.new.new.tables) c.in_err-new.ensures.does)

pub loop-i-init : goal.loop-i-init
loop-i-init g c = record {
  places = c.new.ensures.places;
  sofar =
      sofar_opened g.F.Field.model (held c.args.tables.now) (beside c.args.work.now c.args.cells.now c.args.ends.now) c.args.calls.now
      c.args.answers.now c.in_ok-new.field-0.counts (held c.new.new.tables) c.if-answers-calls.false c.in_ok-new.ensures.does;
}

-- all places of the answers fit in memory, as a slice's do
pub offset_bounds-answers-i : goal.offset_bounds-answers-i
offset_bounds-answers-i g c =
    let lt : c.loop-i.i < length c.args.answers.now = omega arith in
    scaled_Fits c.loop-i.i (length c.args.answers.now) _ lt c.well_formed.1.1.1.1.1.0.1

pub loop-i-preserved : goal.loop-i-preserved
loop-i-preserved g c =
    let i = c.loop-i in
    let made = c.step-next in
    let lay = beside i.work i.cells i.ends in
    let left = beside made.new.work made.new.cells made.new.ends in
    record {
      places = places_on c.args.tables.now i.tables made.new.tables i.invariant.places made.ensures.places;
      sofar =
          turned g.met.F.Field.keeps (held c.args.tables.now) (beside c.args.work.now c.args.cells.now c.args.ends.now) c.args.calls.now
          c.args.answers.now i.answers i.i (standing i.circuit i.tables lay) (standing made.result.0 made.new.tables left)
          c.index-calls-i.result made.result.1 c.loop-i-test.true c.index-calls-i.is i.invariant.sofar lay left (lies_beside i.circuit i.tables lay)
          (lies_beside made.result.0 made.new.tables left) made.ensures.does made.ensures.room;
    }

pub returns : goal.returns
returns g c =
    let i = c.loop-i in
    let h = held c.args.tables.now in
    let b = beside c.args.work.now c.args.cells.now c.args.ends.now in
    let calls = c.args.calls.now in
    let start = c.args.answers.now in
    let left = beside i.work i.cells i.ends in
    let now = standing i.circuit i.tables left in
    let keeps = g.met.F.Field.keeps in
    let ended : i.i ≡ length calls = omega arith in
    let last = last_turn keeps h b calls start i.answers now i.i ended i.invariant.sofar in
    let kept = all_made keeps h b calls start i.answers now left (lies_beside i.circuit i.tables left) last in
    record {
      places = i.invariant.places;
      opens = opened_well calls h b start c.if-answers-calls.false last.opens i.circuit (held i.tables) left i.answers;
      does = all_done keeps h b calls start i.answers now left (lies_beside i.circuit i.tables left) last;
      promised = kept.0;
      refused = kept.1;
      shows = kept.2;
      beyond = last.rest;
    }
