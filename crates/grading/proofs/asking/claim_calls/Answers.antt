use Rattle.std.proofs.Common.{ℕ, ◌+◌, ◌*◌, [], ◌∷◌, ◌++◌, List, Ok, length, map, ap, ◌∙◌, arith}
use lib.ListN.{length-map}
use Rattle.std.specs.Prelude.{slice_range}
use Rattle.account.specs.Calls.{Call, set_optimization_goal, new_input_variable}
use Rattle.matrices.specs.Writing.{over}
use Rattle.calls.specs.Calls.{as_call}
use Rattle.claims.specs.Grades.{naming, judging, windows_calls, last_calls}
use Rattle.claims.proofs.Laid.{parts_over, naming_long, windows_calls_long, calls_over_long, behind_more}
use Rattle.grading.proofs.asking.claim_calls.Goals as goal

pub returns-clause-laid : goal.returns-clause-laid
returns-clause-laid g c = λ r.
    let f = as_call r in
    let wall = c.args.wall.now in
    let claim = c.args.claim.now in
    let ts = c.args.terms.now in
    let readings = wall.readings.now in
    let n = c.windows-windows.result in
    let table = map f c.args.calls.now in
    let first : List (Call _) = set_optimization_goal c.args.goal ∷ new_input_variable (Ok claim.grade) ∷ [] in
    let windows = λ (n : ℕ). windows_calls ts claim.squares.now n in
    let last = λ (n : ℕ). last_calls (slice_range ts (9 * n) (9 * n + 3)) in (
      omega (arith, calls_over_long r c.args.goal wall claim ts, c.windows-windows.ensures),
      c.lay_last.ensures.laid r
          ∙ parts_over table first (naming readings) (windows n) (last n) (judging r) (map f c.lay_first.new.calls) (map f c.lay_readings.new.calls)
          (map f c.lay_windows.new.calls)
          (2 + length readings) (2 + length readings + 5 * n)
          (omega (arith, naming_long readings)) (omega (arith, windows_calls_long ts claim.squares.now n))
          (omega (arith, length-map c.args.calls.now f))
          (c.lay_first.ensures.laid r) (c.lay_readings.ensures.laid r) (c.lay_windows.ensures.laid r)
          ∙ ap (λ (n : ℕ). over table ((first ++ (naming readings ++ (windows n ++ last n))) ++ judging r)) c.windows-windows.ensures,
    )

pub returns-clause-beyond : goal.returns-clause-beyond
returns-clause-beyond g c =
    let old = c.args.calls.now in
    let one = c.lay_first.new.calls in
    let two = c.lay_readings.new.calls in
    let three = c.lay_windows.new.calls in
    let p = 2 + length c.args.wall.now.readings.now in
    let q = p + 5 * c.windows-windows.result in
    let n = q + 5 in
    c.lay_last.ensures.beyond ∙ behind_more three two q n (omega arith) c.lay_windows.ensures.beyond
    ∙ behind_more two one p n (omega arith) c.lay_readings.ensures.beyond ∙ behind_more one old 2 n (omega arith) c.lay_first.ensures.beyond
