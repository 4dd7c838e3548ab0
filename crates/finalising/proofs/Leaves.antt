-- What an entry that is taken leaves of a circuit over its places. Assumes nothing.
use Rattle.std.proofs.Common.{◌≡◌, ℕ, ◌+◌, ◌≤◌, Bool, true, false, cond, List, [], ◌∷◌, ◌++◌, length, take, drop, Some, None, Ok, Option, Result, sym, refl, ap, ◌∙◌, subst, append-nil, append_assoc, arith, length-append}
use Rattle.std.specs.Prelude.{slice_set}
use Rattle.std.proofs.lemmas.List.{length-set, take-set, take-append-drop}
use Rattle.field.specs.Laws.{Model}
use Rattle.variables.specs.declared.Variable.TheVariants.{One, Witness}
use Rattle.variables.specs.declared.Term.{Term}
use Rattle.variables.specs.Refusals.{Told}
use Rattle.variables.specs.Terms.{once}
use Rattle.account.specs.declared.SynthesisMode.{SynthesisMode}
use Rattle.account.specs.declared.SynthesisMode.TheVariants.{Setup, Prove}
use Rattle.account.specs.Account.{KeepsValues}
use Rattle.account.specs.Finish.{lacks, unless}
use Rattle.account.specs.Refusals.{value_places}
use Rattle.account.proofs.Places.{ok_is, enough}
use Rattle.tables.specs.declared.Entry.{Entry}
use Rattle.tables.specs.Held.{State, put}
use Rattle.finishing.specs.Layout.{with_finished, row_entries}
use Rattle.finishing.specs.Steps.{Picks, entry_at, with_added, kept_at, outlined_at, worth_of, expanded_at, merged_at, settle_at, next_entry}

put_none : {X : Type 0} (xs : List X) (k : ℕ) → put xs k [] ≡ xs
put_none xs k =
    let same : k + 0 ≡ k = omega arith in
    ap (λ l. l ++ drop (k + 0) xs) (append-nil (take k xs)) ∙ ap (λ i. take k xs ++ drop i xs) same ∙ take-append-drop k xs

module _ {V : Type 0} where
  -- the value of an added witness lies behind those that are kept, and Setup writes none
  added_before : (mode : SynthesisMode) (o : Option V) (k : ℕ) (values : List V) → take k (with_added mode o k values) ≡ take k values
  added_before Setup o k values = refl
  added_before (Prove matrices) None k values = refl
  added_before (Prove matrices) (Some v) k values = take-set values k v

  added_long : (mode : SynthesisMode) (o : Option V) (k : ℕ) (values : List V) → length (with_added mode o k values) ≡ length values
  added_long Setup o k values = refl
  added_long (Prove matrices) None k values = refl
  added_long (Prove matrices) (Some v) k values = length-set values k v

  added_none : (mode : SynthesisMode) (o : Option V) (k : ℕ) (values : List V) → (KeepsValues mode → ⊥) → with_added mode o k values ≡ values
  added_none Setup o k values h = refl
  added_none (Prove matrices) o k values h = absurd (h tt)

  -- Some terms more, behind those in use. The entry that was taken says where its finished list lies, and some entries follow.
  pub record Took (at : ℕ) (s t : State V) : Type 0 where
    pub more : List (Term V)
    pub start : ℕ
    pub len : ℕ
    pub rows : List Entry
    pub terms : t.tables.terms ≡ s.tables.terms ++ more
    pub used : t.counts.terms ≡ s.counts.terms + length more
    pub span : start + len ≤ t.counts.terms
    pub index : t.tables.index ≡ put (slice_set s.tables.index at (with_finished start len (entry_at s at))) s.counts.entries rows
    pub entries : t.counts.entries ≡ s.counts.entries + length rows
    pub places : t.counts.entries ≤ length s.tables.index
    pub constraints : t.counts.constraints ≤ s.counts.constraints + length rows
    pub mode : t.counts.mode ≡ s.counts.mode
    pub count : s.counts.witnesses ≤ t.counts.witnesses
    pub witnesses : take s.counts.witnesses t.tables.witnesses ≡ take s.counts.witnesses s.tables.witnesses
    pub long : length t.tables.witnesses ≡ length s.tables.witnesses
    pub setup : (KeepsValues s.counts.mode → ⊥) → t.tables.witnesses ≡ s.tables.witnesses

  module _ (m : Model V) (at : ℕ) (s : State V) (merged : List (Term V)) where
    took_kept : s.counts.entries ≤ length s.tables.index → Took at s (kept_at s at merged)
    took_kept h = record {
      more = merged;
      start = s.counts.terms;
      len = length merged;
      rows = [];
      terms = refl;
      used = refl;
      span = omega arith;
      index = sym (put_none (slice_set s.tables.index at (with_finished s.counts.terms (length merged) (entry_at s at))) s.counts.entries);
      entries = omega arith;
      places = h;
      constraints = omega arith;
      mode = refl;
      count = omega arith;
      witnesses = refl;
      long = refl;
      setup = λ _. refl;
    }

    took_outlined : s.counts.entries + 3 ≤ length s.tables.index → Took at s (outlined_at m s at merged)
    took_outlined h =
        let two : List (Term V) = once m One ∷ once m (Witness s.counts.witnesses) ∷ [] in
        record {
          more = merged ++ two;
          start = s.counts.terms + length merged + 1;
          len = 1;
          rows = row_entries s.counts.terms (length merged);
          terms = append_assoc s.tables.terms merged two;
          used = omega (arith, length-append merged two);
          span = omega arith;
          index = refl;
          entries = refl;
          places = h;
          constraints = omega arith;
          mode = refl;
          count = omega arith;
          witnesses = added_before s.counts.mode (worth_of m s merged) s.counts.witnesses s.tables.witnesses;
          long = added_long s.counts.mode (worth_of m s merged) s.counts.witnesses s.tables.witnesses;
          setup = added_none s.counts.mode (worth_of m s merged) s.counts.witnesses s.tables.witnesses;
        }

  module _ (m : Model V) (picks : Picks V) (room at : ℕ) (s t : State V) (there : s.counts.entries ≤ length s.tables.index) where
    abbrev outlining : (merged : List (Term V)) → Result (State V) Told
    outlining merged =
        unless (lacks (s.counts.terms + length merged + 2) room) 14
        (unless (lacks (s.counts.witnesses + 1) (value_places s.counts.mode (length s.tables.witnesses))) 12
        (unless (lacks (s.counts.entries + 3) (length s.tables.index)) 13 (Ok (outlined_at m s at merged))))

    settled : (merged : List (Term V)) (b : Bool) → cond b (outlining merged) (Ok (kept_at s at merged)) ≡ Ok t → Took at s t
    settled merged true e =
        let one = enough (s.counts.terms + length merged + 2) room 14 _ t e in
        let two = enough (s.counts.witnesses + 1) (value_places s.counts.mode (length s.tables.witnesses)) 12 _ t one.1 in
        let three = enough (s.counts.entries + 3) (length s.tables.index) 13 _ t two.1 in
        subst (Took at s) (ok_is _ _ three.1) (took_outlined m at s merged three.0)
    settled merged false e = subst (Took at s) (ok_is _ _ e) (took_kept m at s merged there)

    pub took : next_entry m picks room at s ≡ Ok t → Took at s t
    unfolding next_entry
    took e =
        let merged = merged_at m s at in
        let places = s.counts.terms + length (expanded_at m s at) in
        settled merged (picks (entry_at s at).finished_len merged) (enough places room 14 (settle_at m picks room s at merged) t e).1
