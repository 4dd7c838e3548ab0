-- What sound tables give to one who fills a work table. Assumes nothing.
use Rattle.std.proofs.Common.{◌≡◌, true, length, arith}
use Rattle.std.specs.List.{list_all}
use Rattle.std.proofs.ByRecursion.{All-weaker}
use Rattle.tables.specs.Held.{State}
use Rattle.tables.specs.Sound.{entries_of, span_fits, sound}
use Rattle.tables.proofs.Puts.{counted_long}
use Rattle.tables.proofs.Soundness.{spans_iff, sound_when}

module _ {V : Type 0} (s : State V) (h : sound s ≡ true) where
  -- as many entries are in use as are counted
  pub entries_counted : length (entries_of s) ≡ s.counts.entries
  entries_counted = counted_long s.tables.index s.counts.entries ((sound_when s).0 h).entries

  -- every given list lies in the term table
  pub spans_lie : list_all (span_fits (length s.tables.terms)) (entries_of s) ≡ true
  spans_lie =
      let tables = (sound_when s).0 h in
      (spans_iff (length s.tables.terms) (entries_of s)).1 (All-weaker _ _ (λ e lies. omega (arith, lies, tables.terms)) (entries_of s) tables.spans)
