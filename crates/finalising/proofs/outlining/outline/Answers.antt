use Rattle.finalising.specs.Lent.{lent}
use Rattle.finalising.proofs.Outlined.{row_room, outline_leaves}
use Rattle.finalising.proofs.outlining.outline.Goals as goal

pub returns-clause-outlined : goal.returns-clause-outlined
returns-clause-outlined g c =
    let a = c.args in
    let b = lent a.counts.now a.terms.now a.index.now a.instances.now a.witnesses.now in
    let room = row_room a.counts.now _ _ _ _ c.in_ok-find_row_places.ensures in
    outline_leaves g.F.Field.model b a.at a.len room.0 c.from.result c.from-2.result c.from.ensures c.from-2.ensures
    c.note.new.index c.write_row.new.index c.note.ensures c.write_row.ensures c.keep_worth.new.witnesses c.keep_worth.ensures
