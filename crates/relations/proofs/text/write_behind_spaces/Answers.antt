use Rattle.std.proofs.Common.{Some, Ok, codes, take, sym, subst}
use Rattle.std.specs.Fmt.{DisplaysOnOk, ◌++?◌}
use Rattle.variables.specs.Text.{term_text}
use Rattle.relations.specs.Text.{behind_spaces}
use Rattle.relations.proofs.Texts.{both_written, behind_more}
use Rattle.relations.proofs.text.write_behind_spaces.Goals as goal

pub loop-t-preserved : goal.loop-t-preserved
loop-t-preserved g c =
    let number = g.F.Display.output in
    let took = g.W.Write.write_str_gives in
    let i = c.loop-t.t-index in
    let t = c.t-item.result in
    subst (λ o. DisplaysOnOk took c.args.f.now (Ok tt) o c.write.new.self) (sym (behind_more number c.args.terms.now i t c.loop-t-test.true c.t-item.is))
    (both_written took (behind_spaces number (take i c.args.terms.now)) (Some (codes " ") ++? term_text number t) c.args.f.now c.loop-t.f c.write.new.self (Ok tt) c.loop-t.invariant c.in_ok-write.ensures.writes)
