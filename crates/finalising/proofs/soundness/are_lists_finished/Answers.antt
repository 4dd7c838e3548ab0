use Rattle.std.proofs.Common.{sym, ◌∙◌}
use Rattle.finalising.proofs.Lies.{finished_wider}
use Rattle.finalising.proofs.soundness.are_lists_finished.Goals as goal

pub lists_symbol_free-requires : goal.lists_symbol_free-requires
lists_symbol_free-requires g c =
    finished_wider c.args.counts.now.terms _ c.entries_of-entries.result.now c.requires (sym c.spans_fit.ensures ∙ c.if-spans_fit.true)
