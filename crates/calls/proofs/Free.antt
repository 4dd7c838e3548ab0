-- What calls on an open circuit leave of the free places of the tables. Assumes nothing.
use Rattle.std.proofs.Common.{◌≡◌, ℕ, ◌+◌, ◌<◌, ◌≤◌, true, false, List, [], ◌++◌, length, drop, Some, None, Ok, Err, Option, Result, sym, refl, ap, ◌∙◌, subst, arith, length-append}
use Rattle.std.proofs.lemmas.List.{drop-set-lt}
use Rattle.variables.specs.declared.SynthesisError.{SynthesisError}
use Rattle.variables.specs.declared.Term.{Term}
use Rattle.variables.specs.Refusals.{Told}
use Rattle.account.specs.declared.Mark.{Mark}
use Rattle.account.specs.declared.Mark.TheVariants.{Plain, A, B, C}
use Rattle.account.specs.declared.SynthesisMode.{SynthesisMode}
use Rattle.account.specs.declared.SynthesisMode.TheVariants.{Setup, Prove}
use Rattle.account.specs.Account.{Account, KeepsMatrices, KeepsValues}
use Rattle.account.specs.Refusals.{first, used_terms}
use Rattle.tables.specs.Held.{Held, State, entry, with_list}
use Rattle.tables.specs.Sound.{account_of}
use Rattle.tables.specs.Calls.{outcome, with_value, new_input_variable_tests, new_witness_variable_tests, new_lc_tests, enforce_constraint_tests, with_instance, with_witness, with_constraint_lists, with_constraint, naming_instance, naming_witness, naming_list, constraining}
use Rattle.tables.specs.Follows.{Shows}
use Rattle.tables.proofs.Puts.{put_after}
use Rattle.tables.proofs.Rooms.{HasRoom, room_for_three, room_for_list, room_for_constraint}
use Rattle.tables.proofs.Holds.{reads}
use Rattle.tables.proofs.Fitting.{many_instances, many_witnesses}
use Rattle.calls.specs.Standing.{FreeStays}

module _ {V : Type 0} where
  -- tables that are not changed
  pub free_same : (x : Account V) (h : Held V) → FreeStays x h h
  free_same x h = record { terms = refl; index = refl; instances = refl; witnesses = refl }

  -- for the account that tables hold is for each that they show
  shown_free : (h : Held V) (t : State V) → (Shows t (account_of t) → FreeStays (account_of t) h t.tables)
      → (y : Account V) → Shows t y → FreeStays y h t.tables
  shown_free h t own y shows =
      subst (λ (x : Account V). FreeStays x h t.tables) shows.account
      (own (record { sound = shows.sound; account = refl; terms = shows.terms ∙ ap used_terms (sym shows.account) }))

  -- a refused call leaves all
  outcome_free : {X : Type 0} (o : Option Told) (answer : X) (accepted before : State V)
      → (o ≡ None → Shows accepted (account_of accepted) → FreeStays (account_of accepted) before.tables accepted.tables)
      → let t = (outcome o answer accepted before).state in (y : Account V) → Shows t y → FreeStays y before.tables t.tables
  outcome_free None answer accepted before own y shows = shown_free before.tables accepted (own refl) y shows
  outcome_free (Some r) answer accepted before own y shows = free_same y before.tables

  -- a value more, in the last of the places that count
  value_free : (mode : SynthesisMode) (handed : Result V SynthesisError) (n : ℕ) (values : List V) (k : ℕ) → (KeepsValues mode → n < k)
      → drop k (with_value mode handed n values) ≡ drop k values
  value_free Setup handed n values k h = refl
  value_free (Prove matrices) (Ok v) n values k h = drop-set-lt k values n v (h tt)
  value_free (Prove matrices) (Err e) n values k h = refl

  -- tables whose term places from `places` on and entries from `entries` on stay, and whose values do
  record StaysPast (places entries : ℕ) (before now : Held V) : Type 0 where
    terms : drop places now.terms ≡ drop places before.terms
    index : drop entries now.index ≡ drop entries before.index
    instances : now.instances ≡ before.instances
    witnesses : now.witnesses ≡ before.witnesses

  same_past : (places entries : ℕ) (h : Held V) → StaysPast places entries h h
  same_past places entries h = record { terms = refl; index = refl; instances = refl; witnesses = refl }

  further_past : (places entries : ℕ) (a b c : Held V) → StaysPast places entries a b → StaysPast places entries b c → StaysPast places entries a c
  further_past places entries a b c h k = record {
    terms = k.terms ∙ h.terms;
    index = k.index ∙ h.index;
    instances = k.instances ∙ h.instances;
    witnesses = k.witnesses ∙ h.witnesses;
  }

  -- a list more lies before them
  list_past : (mark : Mark) (ts : List (Term V)) (s : State V) (places entries : ℕ) → HasRoom 1 (length ts) s → s.counts.terms + length ts ≤ places
      → s.counts.entries + 1 ≤ entries → StaysPast places entries s.tables (with_list mark ts s).tables
  list_past mark ts s places entries r h k = record {
    terms = put_after s.tables.terms s.counts.terms ts (omega (arith, r.terms)) places h;
    index = drop-set-lt entries s.tables.index s.counts.entries (entry mark s.counts.terms (length ts)) (omega arith);
    instances = refl;
    witnesses = refl;
  }

  -- so do the three of a constraint
  three_past : (a b c : List (Term V)) (s : State V) → HasRoom 3 (length a + length b + length c) s
      → let t = with_list C c (with_list B b (with_list A a s)) in StaysPast t.counts.terms t.counts.entries s.tables t.tables
  three_past a b c s r =
      let rooms = room_for_three a b c s r in
      let one = with_list A a s in
      let two = with_list B b one in
      let three = with_list C c two in
      let n = three.counts.terms in
      let e = three.counts.entries in
      further_past n e s.tables two.tables three.tables
      (further_past n e s.tables one.tables two.tables (list_past A a s n e rooms.0 (omega arith) (omega arith))
      (list_past B b one n e rooms.1 (omega arith) (omega arith)))
      (list_past C c two n e rooms.2 (omega arith) (omega arith))

  constraint_past : (mode : SynthesisMode) (a b c : List (Term V)) (s : State V) → (KeepsMatrices mode → HasRoom 3 (length a + length b + length c) s)
      → let t = with_constraint_lists mode a b c s in StaysPast t.counts.terms t.counts.entries s.tables t.tables
  constraint_past Setup a b c s r = three_past a b c s (r tt)
  constraint_past (Prove true) a b c s r = three_past a b c s (r tt)
  constraint_past (Prove false) a b c s r = same_past s.counts.terms s.counts.entries s.tables

  -- what stays past the counts of tables is free by the account that they show
  past_free : (h : Held V) (t : State V) → StaysPast t.counts.terms t.counts.entries h t.tables → Shows t (account_of t)
      → FreeStays (account_of t) h t.tables
  past_free h t past shows =
      let r = reads t shows in
      let x = account_of t in
      record {
        terms = subst (λ k. drop k t.tables.terms ≡ drop k h.terms) r.terms past.terms;
        index = subst (λ k. drop k t.tables.index ≡ drop k h.index) r.entries past.index;
        instances = ap (drop (length x.instances.kept)) past.instances;
        witnesses = ap (drop (length (x.witnesses.kept ++ []))) past.witnesses;
      }

  -- Each call leaves what is free after it as it was.
  module _ (s : State V) where
    pub instance_free : (handed : Result V SynthesisError)
        → let t = (naming_instance s handed).state in (y : Account V) → Shows t y → FreeStays y s.tables t.tables
    instance_free handed =
        outcome_free (first (new_input_variable_tests s handed)) _ (with_instance handed s) s
        (λ e shows.
        let t = with_instance handed s in
        record {
          terms = refl;
          index = refl;
          instances =
              value_free s.counts.mode handed s.counts.instances s.tables.instances (length (account_of t).instances.kept)
              (λ k. omega (arith, many_instances t shows.sound k));
          witnesses = refl;
        })

    pub witness_free : (handed : Result V SynthesisError)
        → let t = (naming_witness s handed).state in (y : Account V) → Shows t y → FreeStays y s.tables t.tables
    witness_free handed =
        outcome_free (first (new_witness_variable_tests s handed)) _ (with_witness handed s) s
        (λ e shows.
        let t = with_witness handed s in
        let kept = (account_of t).witnesses.kept in
        record {
          terms = refl;
          index = refl;
          instances = refl;
          witnesses =
              value_free s.counts.mode handed s.counts.witnesses s.tables.witnesses (length (kept ++ []))
              (λ k. omega (arith, many_witnesses t shows.sound k, length-append kept []));
        })

    pub list_free : (ts : List (Term V)) → let t = (naming_list s ts).state in (y : Account V) → Shows t y → FreeStays y s.tables t.tables
    list_free ts =
        outcome_free (first (new_lc_tests s ts)) _ (with_list Plain ts s) s
        (λ e shows.
        past_free s.tables (with_list Plain ts s)
        (list_past Plain ts s (s.counts.terms + length ts) (s.counts.entries + 1) (room_for_list s ts e) (omega arith) (omega arith)) shows)

    pub constraint_free : (a b c : List (Term V))
        → let t = (constraining s a b c).state in (y : Account V) → Shows t y → FreeStays y s.tables t.tables
    constraint_free a b c =
        outcome_free (first (enforce_constraint_tests s a b c)) tt (with_constraint a b c s) s
        (λ e shows.
        past_free s.tables (with_constraint a b c s)
        (let past = constraint_past s.counts.mode a b c s (room_for_constraint s a b c e) in
        record { terms = past.terms; index = past.index; instances = past.instances; witnesses = past.witnesses }) shows)
