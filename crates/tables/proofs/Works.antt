-- A filled work table holds what is found for each list, and past the lists what was there. Assumes nothing.
use Rattle.std.proofs.Common.{◌≡◌, ℕ, ◌<◌, List, [], length, get_or, drop, None, Option, arith}
use lib.ListN.{length-map}
use Rattle.std.proofs.lemmas.List.{get_or_append_left, drop_at}
use Rattle.field.specs.Laws.{Model, Keeps}
use Rattle.account.specs.Given.{Given, lists}
use Rattle.account.specs.Evaluate.{filled}
use Rattle.account.proofs.Finds.{filled_long, list_found}
use Rattle.tables.specs.Held.{State}
use Rattle.tables.specs.Sound.{given_of, account_of, SoundTables}
use Rattle.tables.specs.Calls.{work_of}
use Rattle.tables.specs.Laws.{WorkFound}
use Rattle.tables.proofs.Holds.{many_given}

module _ {V : Type 0} (m : Model V) (s : State V) (sound : SoundTables s) (work : List (Option V)) where
  abbrev worked : List (Option V)
  worked = let x = account_of s in filled m x.instances.kept x.witnesses.kept (lists x.given)

  many : s.counts.entries ≡ length (given_of s)
  many = many_given s sound.entries

  -- it has a place for each list
  places : length worked ≡ s.counts.entries
  places =
      let x = account_of s in
      omega (arith, filled_long m x.instances.kept x.witnesses.kept [] (lists x.given), length-map (given_of s) (λ (g : Given V). g.terms), many)

  place_is : (k : ℕ) → k < s.counts.entries → get_or (work_of m s work) k None ≡ get_or worked k None
  unfolding work_of
  place_is k h = get_or_append_left worked (drop s.counts.entries work) None k (omega (arith, places))

  rest_stays : drop s.counts.entries (work_of m s work) ≡ drop s.counts.entries work
  unfolding work_of
  rest_stays = drop_at worked (drop s.counts.entries work) s.counts.entries places

pub work_found : {V : Type 0} {m : Model V} → Keeps m → WorkFound m
work_found {V} {m} keeps s sound work = record {
  found = λ k h.
      let x = account_of s in
      rw (place_is m s sound work k h)
      (list_found keeps x.instances.kept x.witnesses.kept x.instances.count x.witnesses.count x.given sound.lists.known.terms k (omega (arith, many m s sound work)));
  rest = rest_stays m s sound work;
}
