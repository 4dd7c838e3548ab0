-- How many variables a circuit counts after a call: the constant one stays among them, and the limit is kept. Assumes nothing.
use Rattle.std.proofs.Common.{◌≡◌, ℕ, ◌≤◌, true, false, List, length, Some, None, Option, Result, sym, refl, ap, subst, arith}
use Rattle.field.specs.Laws.{Model}
use Rattle.variables.specs.declared.Term.{Term}
use Rattle.variables.specs.declared.Variable.{Variable}
use Rattle.variables.specs.declared.Variable.TheVariants.{SymbolicLc}
use Rattle.variables.specs.Refusals.{Told}
use Rattle.account.specs.declared.Mark.TheVariants.{Plain}
use Rattle.account.specs.declared.SynthesisMode.{SynthesisMode}
use Rattle.account.specs.declared.SynthesisMode.TheVariants.{Setup, Prove}
use Rattle.account.specs.Account.{KeepsMatrices, KeepsValues}
use Rattle.account.specs.Refusals.{limit, capacity, value_places, first}
use Rattle.tables.specs.declared.Counts.{Counts}
use Rattle.tables.specs.Held.{State, with_list}
use Rattle.tables.specs.Calls.{Outcome, outcome, new_lc_tests, enforce_constraint_tests, with_constraint_lists, one_constraint_more, with_constraint, naming_list, constraining}
use Rattle.finishing.specs.Finalising.{Finalises}
use Rattle.finishing.proofs.Admits.{not_refused}
use Rattle.finishing.proofs.Decodes.{stages_within, same_many}

-- as many instances and witnesses as before
pub record SameVariables (before after : Counts) : Type 0 where
  pub instances : after.instances ≡ before.instances
  pub witnesses : after.witnesses ≡ before.witnesses

module _ {V : Type 0} (s : State V) where
  -- where an accepted call counts no variable more, there are as many as before, refused or not
  none_counted : {X : Type 0} (o : Option Told) (a : X) (accepted : State V) (answer : Result X Told) (t : State V)
      → SameVariables s.counts accepted.counts → outcome o a accepted s ≡ record { answer = answer; state = t } → SameVariables s.counts t.counts
  none_counted {X} None a accepted answer t same is =
      subst (λ (u : State V). SameVariables s.counts u.counts) (ap (λ (z : Outcome (State V) X). z.state) is) same
  none_counted {X} (Some refusal) a accepted answer t same is =
      subst (λ (u : State V). SameVariables s.counts u.counts) (ap (λ (z : Outcome (State V) X). z.state) is)
      (record { instances = refl; witnesses = refl })

  -- naming a list counts no variable
  pub list_counts_none : (answer : Result Variable Told) (ts : List (Term V)) (t : State V) → naming_list s ts ≡ record { answer = answer; state = t }
      → SameVariables s.counts t.counts
  list_counts_none answer ts t is =
      none_counted (first (new_lc_tests s ts)) (SymbolicLc (record { 0 = s.counts.entries })) (with_list Plain ts s) answer t
      (record { instances = refl; witnesses = refl }) is

  -- a constraint counts no variable
  constraint_more : (mode : SynthesisMode) (a b c : List (Term V))
      → SameVariables s.counts (one_constraint_more (with_constraint_lists mode a b c s)).counts
  constraint_more Setup a b c = record { instances = refl; witnesses = refl }
  constraint_more (Prove true) a b c = record { instances = refl; witnesses = refl }
  constraint_more (Prove false) a b c = record { instances = refl; witnesses = refl }

  pub constraint_counts_none : (answer : Result (Unit {0}) Told) (a b c : List (Term V)) (t : State V)
      → constraining s a b c ≡ record { answer = answer; state = t } → SameVariables s.counts t.counts
  constraint_counts_none answer a b c t is =
      none_counted (first (enforce_constraint_tests s a b c)) tt (with_constraint a b c s) answer t (constraint_more s.counts.mode a b c) is

-- the places for values are no more than the limit
places_few : (mode : SynthesisMode) (len : ℕ) → value_places mode len ≤ limit
places_few Setup len = omega arith
places_few (Prove matrices) len = omega arith

-- where values fit the table if they are kept, and are no more than the limit, they have their places
places_there : (mode : SynthesisMode) (count len : ℕ) → count ≤ limit → (KeepsValues mode → count ≤ capacity len) → count ≤ value_places mode len
places_there Setup count len few fits = few
places_there (Prove matrices) count len few fits = fits tt

-- what accepted finalising leaves: as many instances, and no more witnesses than the limit
pub record FewLeft (before after : Counts) : Type 0 where
  pub instances : after.instances ≡ before.instances
  pub witnesses : after.witnesses ≤ limit

module _ {V : Type 0} (m : Model V) (before after : State V) (few : before.counts.witnesses ≤ limit) (done : Finalises m before None after) where
  -- where matrices are kept the steps found places for the added witnesses
  kept_few : KeepsMatrices before.counts.mode → FewLeft before.counts after.counts
  kept_few k =
      let counts = (done.accepted k refl).counts in
      let passed = not_refused m before k (sym done.refuses) in
      let sound = passed.0 in
      let end = passed.1.0 in
      let mode = before.counts.mode in
      let len = length before.tables.witnesses in
      let start = places_there mode before.counts.witnesses len few (λ v. omega (arith, sound.witnesses v)) in
      let fits = (stages_within m before sound end passed.1.1).witnesses_fit start in
      record {
        instances = ap (λ (c : Counts). c.instances) counts;
        witnesses =
            let added = ap (λ (c : Counts). c.witnesses) counts in
            omega (arith, added, fits, same_many m before sound end passed.1.1, places_few mode len);
      }

  -- in bare mode all is as it was
  by_mode : (mode : SynthesisMode) → before.counts.mode ≡ mode → FewLeft before.counts after.counts
  by_mode Setup e = kept_few (subst KeepsMatrices (sym e) tt)
  by_mode (Prove true) e = kept_few (subst KeepsMatrices (sym e) tt)
  by_mode (Prove false) e =
      let same = sym (done.bare (λ k. subst KeepsMatrices e k)) in
      subst (λ (u : State V). FewLeft before.counts u.counts) same (record { instances = refl; witnesses = few })

  pub finalising_counts_few : FewLeft before.counts after.counts
  finalising_counts_few = by_mode before.counts.mode refl
