use Rattle.std.proofs.Common.{◌≡◌, ℕ, length, take, Option, arith}
use Rattle.std.proofs.lemmas.List.{length-take-le}
use Rattle.tables.specs.Held.{held, lengths}
use Rattle.matrices.specs.declared.ConstraintMatrices.{ConstraintMatrices}
use Rattle.matrices.specs.Writing.{lent}
use Rattle.calls.specs.Calls.{rooms}
use Rattle.runs.specs.Run.{beside}
use Rattle.claims.specs.Verdicts.{claim_account, Said}
use Rattle.claims.proofs.Judges.{answers_judge}
use Rattle.grading.proofs.Said.{has_room, said_by}
use Rattle.grading.proofs.judging.judge.Goals as goal

pub read_answers-requires : goal.read_answers-requires
read_answers-requires g c =
    omega (arith, has_room c.args.calls.now _ _ _ _ c.args.answers.now _ c.in_ok-circuit.circuit c.in_ok-circuit.ensures.opens, c.run.auto.answers)

pub returns-clause-leaves : goal.returns-clause-leaves
returns-clause-leaves g c none =
    let made = c.in_ok-circuit in
    (made.circuit, (made.ensures.does, made.ensures.shows, c.read_answers.ensures.circuit))

pub returns-clause-judged : goal.returns-clause-judged
returns-clause-judged g c = λ aim wall claim is.
    let m = g.F.Field.model in
    let calls = c.args.calls.now in
    let r = rooms (beside c.args.work.now c.args.cells.now c.args.ends.now) in
    let t = lent c.run.new.cells c.run.new.ends in
    let told = take (length calls) c.run.new.answers in
    let room = has_room calls _ _ _ _ c.args.answers.now _ c.in_ok-circuit.circuit c.in_ok-circuit.ensures.opens in
    let long : length told ≡ length calls = length-take-le (length calls) c.run.new.answers (omega (arith, room, c.run.auto.answers)) in
    said_by (λ (before after : Option ℕ) (counts : Option ConstraintMatrices). Said m t wall claim
    (claim_account m r aim wall claim) before after counts)
    c.read_answers.result told c.read_answers.ensures.read
    (λ ok. answers_judge g.met.F.Field.keeps
    (lengths (held c.args.tables.now)) r t aim wall claim calls told is long c.in_ok-circuit.ensures.promised c.in_ok-circuit.ensures.refused.run ok)
