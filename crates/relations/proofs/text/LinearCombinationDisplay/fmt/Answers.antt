use Rattle.std.proofs.Common.{◌∷◌, sym, ◌∙◌, subst}
use Rattle.std.specs.Fmt.{DisplaysOnOk}
use Rattle.variables.specs.Text.{term_text}
use Rattle.relations.specs.Text.{behind_spaces, list_text}
use Rattle.relations.specs.Held.{listed}
use Rattle.relations.proofs.Texts.{both_written}
use Rattle.relations.proofs.text.LinearCombinationDisplay.fmt.Goals as goal

pub returns-clause-writes : goal.returns-clause-writes
returns-clause-writes g c =
    let number = g.F.Display.output in
    let took = g.W.Write.write_str_gives in
    let r = c.write_behind_spaces.result in
    let after = c.write_behind_spaces.new.f in
    let first = c.in-Some.first.now in
    let rest = c.in-Some.rest.now in
    subst (λ l. DisplaysOnOk took c.args.f.now r (list_text number l) after) {x = first ∷ rest} {y = listed c.args.self.now} (sym c.in-Some.ensures.cases.0 ∙ c.terms.ensures)
    (both_written took (term_text number first) (behind_spaces number rest) c.args.f.now c.write.new.self after r c.in_ok-write.ensures.writes c.write_behind_spaces.ensures)
