-- A list and a constraint more go as the account says. Assumes nothing.
use Rattle.std.proofs.Common.{◌≡◌, ℕ, ◌+◌, true, false, List, [], ◌∷◌, ◌++◌, length, None, sym, refl, ap, ◌∙◌, subst, append_assoc, append-nil, arith}
use Rattle.field.specs.Laws.{Model}
use Rattle.variables.specs.declared.Variable.TheVariants.{SymbolicLc}
use Rattle.variables.specs.declared.Term.{Term}
use Rattle.account.specs.declared.Mark.TheVariants.{Plain, A, B, C}
use Rattle.account.specs.declared.SynthesisMode.{SynthesisMode}
use Rattle.account.specs.declared.SynthesisMode.TheVariants.{Setup, Prove}
use Rattle.account.specs.Given.{Given, marked, KnownTerms}
use Rattle.account.specs.Finish.{lacks}
use Rattle.account.specs.Account.{KeepsMatrices, KnownAt, names_lists, constrains, plain_lists, constraint_lists, with_given, with_constraints}
use Rattle.account.specs.Calls as calls
use Rattle.account.specs.Refusals.{limit, capacity, when, first, unless_bare, terms_refusal, used_terms, used_entries, refusal}
use Rattle.account.specs.Sound.{SoundLists}
use Rattle.account.proofs.Refuses.{first_none, terms_known}
use Rattle.account.proofs.Sounds.{known_changed}
use Rattle.tables.specs.Held.{State, lengths, with_list}
use Rattle.tables.specs.Sound.{marks_of, given_of, account_of}
use Rattle.tables.specs.Calls.{unknown_in, new_lc_tests, enforce_constraint_tests, with_constraint_lists, with_constraint, one_constraint_more, naming_list, constraining}
use Rattle.tables.specs.Follows.{Shows, answer_as, Follows}
use Rattle.tables.proofs.Rooms.{HasRoom, room_for_list, room_for_constraint, room_for_three}
use Rattle.tables.proofs.Holds.{Reads, reads, Lies, sound_lies, given_more, lies_more, shows_more}
use Rattle.tables.proofs.Dues.{outcome_follows}
use Rattle.tables.proofs.MoreLists.{lists_more}

module _ {V : Type 0} where
  -- the tests say by the tables what they say by the account
  list_test : (m : Model V) (s : State V) (ts : List (Term V)) → Reads s → first (new_lc_tests s ts) ≡ refusal m (lengths s.tables) (account_of s) (calls.new_lc ts)
  list_test m s ts r =
      let many : s.counts.entries + 1 ≡ used_entries (account_of s) + 1 = omega (arith, r.entries) in
      let long : s.counts.terms + length ts ≡ used_terms (account_of s) + (length ts + 0) = omega (arith, r.terms) in
      λ i. first
      (when (lacks (many i) (capacity (length s.tables.index))) 13
      ∷ when (lacks (long i) (capacity (length s.tables.terms))) 14
      ∷ terms_refusal s.counts.instances s.counts.witnesses (r.marks i) 0 0 ts ∷ [])

  constraint_test : (m : Model V) (s : State V) (a b c : List (Term V)) → Reads s
      → first (enforce_constraint_tests s a b c) ≡ refusal m (lengths s.tables) (account_of s) (calls.enforce_constraint a b c)
  constraint_test m s a b c r =
      let many : s.counts.entries + 3 ≡ used_entries (account_of s) + 3 = omega (arith, r.entries) in
      let long : s.counts.terms + (length a + length b + length c) ≡ used_terms (account_of s) + (length a + (length b + (length c + 0))) = omega (arith, r.terms) in
      λ i. first
      (when (lacks (s.counts.constraints + 1) limit) 20
      ∷ unless_bare s.counts.mode (when (lacks (many i) (capacity (length s.tables.index))) 13)
      ∷ unless_bare s.counts.mode (when (lacks (long i) (capacity (length s.tables.terms))) 14)
      ∷ terms_refusal s.counts.instances s.counts.witnesses (r.marks i) 0 0 a
      ∷ terms_refusal s.counts.instances s.counts.witnesses (r.marks i) 1 0 b
      ∷ terms_refusal s.counts.instances s.counts.witnesses (r.marks i) 2 0 c ∷ [])

  -- a list that is not refused is known
  known_at : (s : State V) → Reads s → (list : ℕ) (ts : List (Term V)) → unknown_in s list ts ≡ None → KnownAt (account_of s) ts
  known_at s r list ts e =
      subst (λ before. KnownTerms s.counts.instances s.counts.witnesses before ts) r.marks (terms_known s.counts.instances s.counts.witnesses (marks_of s) list 0 ts e)

  -- where the lists of a constraint lie, and that the tables hold them
  record HoldsMore (s t : State V) (more : List (Given V)) : Type 0 where
    lies : Lies t
    given : given_of t ≡ given_of s ++ more

  three_more : (a b c : List (Term V)) (s : State V) → Lies s → HasRoom 3 (length a + length b + length c) s
      → HoldsMore s (with_list C c (with_list B b (with_list A a s))) (marked A a ∷ marked B b ∷ marked C c ∷ [])
  three_more a b c s lies free =
      let rooms = room_for_three a b c s free in
      let one = with_list A a s in
      let two = with_list B b one in
      let lies_one = lies_more A a s lies rooms.0 in
      let lies_two = lies_more B b one lies_one rooms.1 in
      let g = given_of s in
      record {
        lies = lies_more C c two lies_two rooms.2;
        given =
            given_more C c two lies_two rooms.2 ∙ ap (λ l. l ++ marked C c ∷ []) (given_more B b one lies_one rooms.1 ∙ ap (λ l. l ++ marked B b ∷ []) (given_more A a s lies rooms.0))
            ∙ append_assoc (g ++ marked A a ∷ []) (marked B b ∷ []) (marked C c ∷ []) ∙ append_assoc g (marked A a ∷ []) (marked B b ∷ marked C c ∷ []);
      }

  module _ (a b c : List (Term V)) (s : State V) (shows : Shows s (account_of s)) where
    abbrev After : SynthesisMode → Type 0
    After mode =
        Shows (one_constraint_more (with_constraint_lists mode a b c s))
        (with_constraints (with_given (account_of s) (given_of s ++ constraint_lists mode a b c)) (s.counts.constraints + 1))

    abbrev SoundAfter : SynthesisMode → Type 0
    SoundAfter mode =
        SoundLists s.counts.mode s.counts.instances s.counts.witnesses (s.counts.constraints + 1) (given_of s ++ constraint_lists mode a b c) None

    shows_three : HasRoom 3 (length a + length b + length c) s → SoundAfter Setup → After Setup
    shows_three free sound =
        let all = three_more a b c s (sound_lies s shows.sound) free in
        shows_more s (s.counts.constraints + 1) _ _ _ _ (constraint_lists Setup a b c) shows (record { terms = all.lies.terms; entries = all.lies.entries; spans = all.lies.spans }) all.given (omega arith) sound

    shows_constraint : (mode : SynthesisMode) → (KeepsMatrices mode → HasRoom 3 (length a + length b + length c) s) → SoundAfter mode → After mode
    shows_constraint Setup free sound = shows_three (free tt) sound
    shows_constraint (Prove true) free sound = shows_three (free tt) sound
    shows_constraint (Prove false) free sound =
        let lies = sound_lies s shows.sound in
        shows_more s (s.counts.constraints + 1) _ _ _ _ [] shows (record { terms = lies.terms; entries = lies.entries; spans = lies.spans }) (sym (append-nil (given_of s))) (omega arith) sound

  module _ (m : Model V) (s : State V) where
    list_shown : (ts : List (Term V)) → Shows s (account_of s) → first (new_lc_tests s ts) ≡ None
        → Shows (with_list Plain ts s) (with_given (account_of s) (given_of s ++ plain_lists (ts ∷ [])))
    list_shown ts shows e =
        let x = account_of s in
        let effect = names_lists (ts ∷ []) in
        let known = known_at s (reads s shows) 0 ts (first_none (new_lc_tests s ts) e).1.1.0 in
        let free = room_for_list s ts e in
        let lies = sound_lies s shows.sound in
        let all = known_changed m x effect (known, tt) shows.sound.lists.known in
        let sound = lists_more s.counts.mode s.counts.instances s.counts.witnesses s.counts.constraints (given_of s) effect shows.sound.lists all in
        shows_more s s.counts.constraints _ _ _ _ (plain_lists (ts ∷ [])) shows (lies_more Plain ts s lies free) (given_more Plain ts s lies free) (omega arith)
        (subst (λ k. SoundLists s.counts.mode s.counts.instances s.counts.witnesses k (given_of s ++ plain_lists (ts ∷ [])) None) (omega arith) sound)

    constraint_shown : (a b c : List (Term V)) → Shows s (account_of s) → first (enforce_constraint_tests s a b c) ≡ None
        → Shows (with_constraint a b c s)
        (with_constraints (with_given (account_of s) (given_of s ++ constraint_lists s.counts.mode a b c)) (s.counts.constraints + 1))
    constraint_shown a b c shows e =
        let x = account_of s in
        let r = reads s shows in
        let effect = constrains a b c in
        let tests = (first_none (enforce_constraint_tests s a b c) e).1.1.1 in
        let all = known_changed m x effect (known_at s r 0 a tests.0, known_at s r 1 b tests.1.0, known_at s r 2 c tests.1.1.0) shows.sound.lists.known in
        let sound = lists_more s.counts.mode s.counts.instances s.counts.witnesses s.counts.constraints (given_of s) effect shows.sound.lists all in
        shows_constraint a b c s shows s.counts.mode (room_for_constraint s a b c e) sound

    pub new_lc_follows : (ts : List (Term V)) → let o = naming_list s ts in Follows m (calls.new_lc ts) (answer_as calls.named o.answer) s o.state
    new_lc_follows ts =
        outcome_follows m (calls.new_lc ts) calls.named (λ t. t) (first (new_lc_tests s ts)) (SymbolicLc (record { 0 = s.counts.entries })) (with_list Plain ts s) s
        (λ shows. list_test m s ts (reads s shows)) (λ shows. ap (λ k. calls.named (SymbolicLc (record { 0 = k }))) (reads s shows).lists)
        (λ shows e. list_shown ts shows e)

    pub enforce_constraint_follows : (a b c : List (Term V))
        → let o = constraining s a b c in Follows m (calls.enforce_constraint a b c) (answer_as (λ _. calls.unit) o.answer) s o.state
    enforce_constraint_follows a b c =
        outcome_follows m (calls.enforce_constraint a b c) (λ _. calls.unit) (λ t. t) (first (enforce_constraint_tests s a b c)) tt (with_constraint a b c s) s
        (λ shows. constraint_test m s a b c (reads s shows)) (λ shows. refl) (λ shows e. constraint_shown a b c shows e)
