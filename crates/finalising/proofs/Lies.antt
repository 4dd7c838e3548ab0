-- Finished lists that lie in the terms in use lie in the term table. Assumes nothing.
use Rattle.std.proofs.Common.{◌≡◌, ℕ, ◌≤◌, true, List, [], ◌∷◌, length, refl, arith}
use Rattle.std.specs.List.{list_all}
use Rattle.std.proofs.lemmas.Bool.{and_parts, and_from}
use Rattle.account.proofs.Accepts.{within}
use Rattle.tables.specs.declared.Entry.{Entry}
use Rattle.tables.specs.Held.{State}
use Rattle.tables.specs.Sound.{sound}
use Rattle.tables.proofs.Soundness.{sound_when}
use Rattle.finishing.specs.Sound.{finished_fits}

-- in more places
pub finished_wider : (used places : ℕ) (es : List Entry) → used ≤ places → list_all (finished_fits used) es ≡ true
    → list_all (finished_fits places) es ≡ true
finished_wider used places [] h k = refl
finished_wider used places (e ∷ es) h k =
    let both = and_parts (finished_fits used e) _ k in
    let here = (within _ used).0 both.0 in
    and_from _ _ ((within _ places).1 (omega (arith, here, h))) (finished_wider used places es h both.1)

module _ {V : Type 0} (s : State V) (h : sound s ≡ true) where
  -- no more terms are in use than the table has
  pub terms_there : s.counts.terms ≤ length s.tables.terms
  terms_there = omega (arith, ((sound_when s).0 h).terms)
