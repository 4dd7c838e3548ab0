-- Room in the tables for lists more. Assumes nothing.
use Rattle.std.proofs.Common.{◌≡◌, ℕ, ◌+◌, ◌≤◌, List, length, None, arith}
use Rattle.std.proofs.lemmas.List.{length-set}
use Rattle.variables.specs.declared.Term.{Term}
use Rattle.account.specs.declared.Mark.{Mark}
use Rattle.account.specs.declared.Mark.TheVariants.{A, B}
use Rattle.account.specs.Account.{KeepsMatrices}
use Rattle.account.specs.Refusals.{first}
use Rattle.account.proofs.Refuses.{enough, first_none}
use Rattle.account.proofs.Accepts.{bare_none}
use Rattle.tables.specs.Held.{State, room, entry, with_list}
use Rattle.tables.specs.Calls.{no_entries, no_places, new_lc_tests, enforce_constraint_tests}
use Rattle.tables.proofs.Puts.{put_long}

module _ {V : Type 0} where
  -- so many entries and term places are free
  pub record HasRoom (n places : ℕ) (s : State V) : Type 0 where
    pub entries : s.counts.entries + n ≤ room s.tables.index
    pub terms : s.counts.terms + places ≤ room s.tables.terms

  -- what is left of it after one list, and room for fewer
  room_left : (mark : Mark) (ts : List (Term V)) (s : State V) (entries terms : ℕ) → HasRoom (entries + 1) (length ts + terms) s
      → HasRoom entries terms (with_list mark ts s)
  room_left mark ts s entries terms r = record {
    entries = omega (arith, r.entries, length-set s.tables.index s.counts.entries (entry mark s.counts.terms (length ts)));
    terms = omega (arith, r.terms, put_long s.tables.terms s.counts.terms ts (omega (arith, r.terms)));
  }

  room_less : (s : State V) (entries terms e t : ℕ) → HasRoom entries terms s → e ≤ entries → t ≤ terms → HasRoom e t s
  room_less s entries terms e t r le lt = record { entries = omega (arith, r.entries); terms = omega (arith, r.terms) }

  -- room for the three lists of a constraint is room for each in its turn
  pub room_for_three : (a b c : List (Term V)) (s : State V) → HasRoom 3 (length a + length b + length c) s
      → HasRoom 1 (length a) s × HasRoom 1 (length b) (with_list A a s) × HasRoom 1 (length c) (with_list B b (with_list A a s))
  room_for_three a b c s r =
      let one = with_list A a s in
      let two = with_list B b one in
      let after_one : HasRoom 2 (length b + length c) one = room_left A a s 2 (length b + length c) (room_less s _ _ _ _ r (omega arith) (omega arith)) in
      let after_two : HasRoom 1 (length c) two = room_left B b one 1 (length c) (room_less one _ _ _ _ after_one (omega arith) (omega arith)) in
      (room_less s _ _ _ _ r (omega arith) (omega arith), room_less one _ _ _ _ after_one (omega arith) (omega arith), after_two)

  -- a call that is not refused has room for its lists
  pub room_for_list : (s : State V) (ts : List (Term V)) → first (new_lc_tests s ts) ≡ None → HasRoom 1 (length ts) s
  room_for_list s ts e =
      let tests = first_none (new_lc_tests s ts) e in
      record { entries = enough _ _ 13 tests.0; terms = enough _ _ 14 tests.1.0 }

  pub room_for_constraint : (s : State V) (a b c : List (Term V)) → first (enforce_constraint_tests s a b c) ≡ None → KeepsMatrices s.counts.mode
      → HasRoom 3 (length a + length b + length c) s
  room_for_constraint s a b c e k =
      let entries = no_entries 3 s in
      let places = no_places (length a + length b + length c) s in
      let tests = first_none (enforce_constraint_tests s a b c) e in
      record {
        entries = enough _ _ 13 (bare_none s.counts.mode entries tests.1.0 k);
        terms = enough _ _ 14 (bare_none s.counts.mode places tests.1.1.0 k);
      }
