use Rattle.tables.specs.Held.{held, SamePlaces}
use Rattle.runs.specs.Run.{beside, standing}
use Rattle.runs.proofs.Turns.{Sofar}
use Rattle.runs.proofs.whole.run.Given as goal

abbrev pub invariant-loop-i : goal.invariant-loop-i
invariant-loop-i g l = record {
  places : SamePlaces l.fn.tables l.tables;
  sofar : Sofar g.F.Field.model (held l.fn.tables) (beside l.fn.work l.fn.cells l.fn.ends) l.calls l.fn.answers l.answers l.i
      (standing l.circuit l.tables (beside l.work l.cells l.ends));
}
