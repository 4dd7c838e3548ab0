use Rattle.std.proofs.Common.{◌≡◌, map, drop}
use Rattle.std.specs.List.{list_all}
use Rattle.finishing.specs.Sound.{finished_in, all_symbol_free}
use Rattle.finalising.proofs.soundness.lists_symbol_free.Given as goal

abbrev pub invariant-loop-entry : goal.invariant-loop-entry
invariant-loop-entry g l =
    list_all (all_symbol_free l.counts.instances l.counts.witnesses) (map (finished_in l.terms) (drop l.entry-index l.entries))
    ≡ list_all (all_symbol_free l.counts.instances l.counts.witnesses) (map (finished_in l.terms) l.entries)
