use Rattle.std.proofs.Common.{take, Ok}
use Rattle.std.specs.Fmt.{DisplaysOnOk}
use Rattle.relations.specs.Text.{behind_spaces}
use Rattle.relations.proofs.text.write_behind_spaces.Given as goal

abbrev pub invariant-loop-t : goal.invariant-loop-t
invariant-loop-t g l = DisplaysOnOk g.W.Write.write_str_gives l.initial.f (Ok tt) (behind_spaces g.F.Display.output (take l.t-index l.terms)) l.f
