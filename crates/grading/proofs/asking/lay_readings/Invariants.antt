use Rattle.std.proofs.Common.{◌≡◌, ◌+◌, map, take, drop}
use Rattle.tables.specs.Held.{put}
use Rattle.calls.specs.Calls.{Rooms, as_call}
use Rattle.claims.specs.Grades.{naming}
use Rattle.grading.proofs.asking.lay_readings.Given as goal

abbrev pub invariant-loop-i : goal.invariant-loop-i
invariant-loop-i g l = record {
  laid : (r : Rooms) → map (as_call r) l.calls ≡ put (map (as_call r) l.initial.calls) l.at (naming (take l.i l.readings));
  beyond : drop (l.at + l.i) l.calls ≡ drop (l.at + l.i) l.initial.calls;
}
