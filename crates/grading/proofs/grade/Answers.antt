use Rattle.std.proofs.Common.{◌≡◌, ◌<◌, length, refl, ◌∙◌, sym, ap, subst, arith}
use Rattle.claims.specs.Grades.{windows_of, squares_to, Worked}
use Rattle.grading.proofs.Honest.{filled_more}
use Rattle.grading.proofs.grade.Goals as goal

pub loop-k-init : goal.loop-k-init
loop-k-init g c =
    let m = g.F.Field.model in
    record {
      worked = record { squares_worked = λ i lt. absurd (omega arith); grade_worked = c.zero-grade.ensures };
      right
          = λ i lt. absurd (omega arith);
      sum = sym (ap m.stands c.zero-grade.ensures ∙ g.met.F.Field.keeps.zero_stands);
      beyond = refl;
    }

pub loop-k-preserved : goal.loop-k-preserved
loop-k-preserved g c =
    let lt : c.loop-k.k < length c.loop-k.squares = omega arith in
    let within : c.loop-k.k < windows_of c.args.wall.now = omega arith in
    rw (c.sum-grade.ensures, c.product-square.ensures)
    (filled_more g.met.F.Field.keeps c.args.wall.now c.args.squares.now c.loop-k.squares c.loop-k.k c.loop-k.grade c.loss-loss.result lt within c.loss-loss.ensures.worked c.loss-loss.ensures.stands c.loop-k.invariant)

pub returns-clause-worked : goal.returns-clause-worked
returns-clause-worked g c =
    let same : c.loop-k.k ≡ windows_of c.args.wall.now = omega arith in
    subst (λ n. Worked g.F.Field.model c.args.wall.now n c.loop-k.squares c.loop-k.grade) same c.loop-k.invariant.worked

pub returns-clause-honest : goal.returns-clause-honest
returns-clause-honest g c =
    let m = g.F.Field.model in
    let same : c.loop-k.k ≡ windows_of c.args.wall.now = omega arith in
    record {
      squares_right = λ i lt. c.loop-k.invariant.right i (omega arith);
      sum_right = subst (λ n. squares_to m c.loop-k.squares n ≡ m.stands c.loop-k.grade) same c.loop-k.invariant.sum;
    }
