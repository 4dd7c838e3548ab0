-- What sound tables hold: how many lists and terms, with which marks, and where they lie. Assumes nothing.
use Rattle.std.proofs.Common.{◌≡◌, ℕ, ◌+◌, ◌≤◌, List, [], ◌∷◌, ◌++◌, map, length, None, sym, ap, ◌∙◌, subst, ap₂, arith}
use mathlib.Core.List.{map-map}
use lib.ListN.{length-map}
use Rattle.std.specs.List.{AllByRecursion}
use Rattle.std.proofs.lemmas.List.{length-set, map_push}
use Rattle.std.proofs.ByRecursion.{All-append, All-weaker}
use Rattle.variables.specs.declared.Term.{Term}
use Rattle.account.specs.declared.Mark.{Mark}
use Rattle.account.specs.Given.{Given, marks, lists, marked}
use Rattle.account.specs.Finish.{places}
use Rattle.account.specs.Account.{with_given, with_constraints}
use Rattle.account.specs.Refusals.{used_terms, used_entries}
use Rattle.account.specs.Sound.{SoundLists}
use Rattle.account.proofs.Lists.{map_same}
use Rattle.account.proofs.Places.{given_places}
use Rattle.tables.specs.declared.Entry.{Entry}
use Rattle.tables.specs.Held.{State, room, put, entry, with_list}
use Rattle.tables.specs.Sound.{given_in, entries_of, marks_of, given_of, account_of, SoundTables}
use Rattle.tables.specs.Follows.{Shows}
use Rattle.tables.proofs.Puts.{put_long, put_there, part_before, counted_more, counted_long}
use Rattle.tables.proofs.Rooms.{HasRoom}

module _ {V : Type 0} where
  -- as many lists as entries in use, with their marks
  pub many_given : (s : State V) → s.counts.entries ≤ room s.tables.index → s.counts.entries ≡ length (given_of s)
  many_given s h = sym (length-map (entries_of s) (given_in s.tables.terms) ∙ counted_long s.tables.index s.counts.entries h)

  pub same_marks : (s : State V) → marks_of s ≡ marks (given_of s)
  same_marks s = sym (map-map (λ (g : Given V). g.mark) (given_in s.tables.terms) (entries_of s))

  -- the numbers and marks by which the tables are tested are those of the account
  pub record Reads (s : State V) : Type 0 where
    pub lists : s.counts.entries ≡ length (given_of s)
    pub entries : s.counts.entries ≡ used_entries (account_of s)
    pub terms : s.counts.terms ≡ used_terms (account_of s)
    pub marks : marks_of s ≡ marks (given_of s)

  pub reads : (s : State V) → Shows s (account_of s) → Reads s
  reads s shows =
      let many = many_given s shows.sound.entries in
      record { lists = many; entries = omega arith; terms = shows.terms; marks = same_marks s }

  -- where the lists lie: in the used terms, and these in the table
  pub record Lies (s : State V) : Type 0 where
    pub terms : s.counts.terms ≤ room s.tables.terms
    pub entries : s.counts.entries ≤ room s.tables.index
    pub spans : AllByRecursion (λ e. e.given_start + e.given_len ≤ s.counts.terms) (entries_of s)

  pub sound_lies : (s : State V) → SoundTables s → Lies s
  sound_lies s sound = record { terms = sound.terms; entries = sound.entries; spans = sound.spans }

  -- one list more
  module _ (mark : Mark) (ts : List (Term V)) (s : State V) (lies : Lies s) (free : HasRoom 1 (length ts) s) where
    abbrev new : Entry
    new = entry mark s.counts.terms (length ts)

    abbrev terms : List (Term V)
    terms = put s.tables.terms s.counts.terms ts

    fits : s.counts.terms + length ts ≤ length s.tables.terms
    fits = omega (arith, free.terms)

    entries_more : entries_of (with_list mark ts s) ≡ entries_of s ++ new ∷ []
    entries_more = counted_more s.tables.index s.counts.entries new free.entries

    earlier_same : map (given_in terms) (entries_of s) ≡ given_of s
    earlier_same =
        map_same (given_in terms) (given_in s.tables.terms) (entries_of s)
        (All-weaker _ _ (λ e h. ap (marked e.mark) (part_before s.tables.terms s.counts.terms ts fits e.given_start e.given_len h)) (entries_of s) lies.spans)

    pub given_more : given_of (with_list mark ts s) ≡ given_of s ++ marked mark ts ∷ []
    given_more =
        ap (map (given_in terms)) entries_more ∙ map_push (given_in terms) (entries_of s) new
        ∙ ap₂ (λ (l : List (Given V)) t. l ++ marked mark t ∷ []) earlier_same (put_there s.tables.terms s.counts.terms ts fits)

    pub lies_more : Lies (with_list mark ts s)
    lies_more = record {
      terms = omega (arith, free.terms, put_long s.tables.terms s.counts.terms ts fits);
      entries = omega (arith, free.entries, length-set s.tables.index s.counts.entries new);
      spans =
          subst (AllByRecursion (λ (e : Entry). e.given_start + e.given_len ≤ s.counts.terms + length ts)) (sym entries_more)
          (All-append _ (entries_of s) (new ∷ []) (All-weaker _ _ (λ e h. omega arith) (entries_of s) lies.spans) (omega arith, tt));
    }

  -- the tables with other lists, and so many constraints
  abbrev pub relisted : State V → (constraints entries places : ℕ) → List (Term V) → List Entry → State V
  relisted s j n k ts es = record {
    counts = record s.counts { constraints = j; entries = n; terms = k };
    tables = record s.tables { terms = ts; index = es };
  }

  -- tables that hold some lists more, all sound, show the account with these
  pub shows_more : (s : State V) (j n k : ℕ) (ts : List (Term V)) (es : List Entry) (more : List (Given V)) → Shows s (account_of s) → Lies (relisted s j n k ts es)
      → given_of (relisted s j n k ts es) ≡ given_of s ++ more → k ≡ s.counts.terms + places (lists more)
      → SoundLists s.counts.mode s.counts.instances s.counts.witnesses j (given_of s ++ more) None
      → Shows (relisted s j n k ts es) (with_constraints (with_given (account_of s) (given_of s ++ more)) j)
  shows_more s j n k ts es more shows lies holds long sound = record {
    sound = record {
      terms = lies.terms;
      entries = lies.entries;
      first = shows.sound.first;
      instances = shows.sound.instances;
      witnesses = shows.sound.witnesses;
      spans = lies.spans;
      lists = subst (λ g. SoundLists s.counts.mode s.counts.instances s.counts.witnesses j g None) (sym holds) sound;
    };
    account = ap (λ g. with_constraints (with_given (account_of s) g) j) holds;
    terms = omega (arith, given_places (given_of s) more, shows.terms);
  }
