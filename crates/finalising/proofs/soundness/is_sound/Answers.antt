use Rattle.std.proofs.Common.{sym, ◌∙◌}
use Rattle.tables.specs.Held.{state}
use Rattle.finalising.proofs.Lies.{terms_there}
use Rattle.finalising.proofs.soundness.is_sound.Goals as goal

pub are_lists_finished-requires : goal.are_lists_finished-requires
are_lists_finished-requires g c = terms_there (state c.args.counts.now c.args.tables.now) (sym c.is_sound.ensures ∙ c.if-is_sound.true)
