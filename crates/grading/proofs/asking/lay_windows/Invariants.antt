use Rattle.std.proofs.Common.{◌≡◌, ◌+◌, ◌*◌, map, drop}
use Rattle.tables.specs.Held.{put}
use Rattle.calls.specs.Calls.{Rooms, as_call}
use Rattle.claims.specs.Grades.{windows_calls}
use Rattle.grading.proofs.asking.lay_windows.Given as goal

abbrev pub invariant-loop-w : goal.invariant-loop-w
invariant-loop-w g l = record {
  laid : (r : Rooms) → map (as_call r) l.calls ≡ put (map (as_call r) l.initial.calls) l.at (windows_calls l.terms l.claim.squares.now l.w);
  beyond : drop (l.at + 5 * l.w) l.calls ≡ drop (l.at + 5 * l.w) l.initial.calls;
}
