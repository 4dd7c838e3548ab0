use Rattle.std.proofs.Common.{◌≡◌, ◌+◌, ◌≤◌, length, take, drop, arith}
use Rattle.std.proofs.lemmas.List.{take_at, length-take-le}
use Rattle.std.proofs.lemmas.List.Sums.{prefix_len-le-length}
use Rattle.variables.specs.Order.{below}
use Rattle.variables.specs.Locate.{seek}
use Rattle.variables.proofs.Adds.{placed_by_gain, placed_by_insert}
use Rattle.terms.proofs.Places.{inserted_among}
use Rattle.terms.proofs.place.Goals as goal

pub returns-then-stands_at-clause-front : goal.returns-then-stands_at-clause-front
returns-then-stands_at-clause-front g c =
    let ts = c.args.terms.now in
    let n = c.args.len in
    let long : length c.gain.new.terms ≡ n = omega (arith, length-take-le n ts (omega arith)) in
    let all = take_at c.gain.new.terms (drop n ts) n long in
    let is = placed_by_gain g.F.Field.model c.args.term (take n ts) c.seek-at.result c.seek-at.ensures c.if-stands_at.ensures in
    cc

pub insert-requires : goal.insert-requires
insert-requires g c =
    let ts = c.args.terms.now in
    let n = c.args.len in
    let at : seek c.args.term.variable (take n ts) ≤ length (take n ts) = prefix_len-le-length (λ t. below t.variable c.args.term.variable) (take n ts) in
    omega (arith, c.seek-at.ensures, length-take-le n ts (omega arith), length-take-le (n + 1) ts (omega arith))

pub returns-clause-front : goal.returns-clause-front
returns-clause-front g c =
    let ts = c.args.terms.now in
    let n = c.args.len in
    let at : seek c.args.term.variable (take n ts) ≤ length (take n ts) = prefix_len-le-length (λ t. below t.variable c.args.term.variable) (take n ts) in
    let long : length c.insert.new.terms ≡ n + 1 = omega (arith, length-take-le (n + 1) ts (omega arith)) in
    let all = take_at c.insert.new.terms (drop (n + 1) ts) (n + 1) long in
    let among = inserted_among ts n c.seek-at.result c.args.term c.requires (omega (arith, c.seek-at.ensures, length-take-le n ts (omega arith))) in
    let is = placed_by_insert g.F.Field.model c.args.term (take n ts) c.seek-at.result c.seek-at.ensures c.if-stands_at.ensures in
    cc
