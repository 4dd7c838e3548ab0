-- An accepted check of a finished circuit names the first row that fails at the kept values. Assumes nothing.
use Rattle.std.proofs.Common.{◌≡◌, ℕ, ◌+◌, true, false, List, [], ◌∷◌, ◌++◌, map, length, sym, refl, ap, ◌∙◌, subst, ap₂, subst₂}
use Rattle.std.specs.List.{AllByRecursion}
use Rattle.std.proofs.lemmas.List.{nil_from_length}
use Rattle.field.specs.Laws.{Model, Keeps}
use Rattle.variables.specs.declared.Term.{Term}
use Rattle.variables.specs.Worth.{value, worth}
use Rattle.variables.specs.Evaluate.{SymbolFree, evaluated}
use Rattle.variables.proofs.Evaluates.{evaluates}
use Rattle.account.specs.declared.SynthesisMode.{SynthesisMode}
use Rattle.account.specs.declared.SynthesisMode.TheVariants.{Setup, Prove}
use Rattle.account.specs.Given.{marks}
use Rattle.account.specs.Rows.{Row, each, row_at, starts_from, constraints, FirstFailing, Holds, rows_at}
use Rattle.account.specs.Evaluate.{or_zero, failing}
use Rattle.account.specs.Account.{KeepsMatrices, KeepsValues, Checkable}
use Rattle.account.specs.Laws.{SymbolFreeRow}
use Rattle.account.proofs.Lists.{all_at}
use Rattle.account.proofs.Values.{failing_right, or_zero_means}
use Rattle.account.proofs.Refuses.{when_not, first_none}
use Rattle.account.proofs.Accepts.{check_iff}
use Rattle.account.proofs.SoundLists.{many_constraints, none_where_plain}
use Rattle.tables.specs.Held.{State}
use Rattle.tables.specs.Sound.{given_of, marks_of, account_of}
use Rattle.tables.proofs.Holds.{same_marks}
use Rattle.tables.proofs.Fitting.{many_instances, many_witnesses}
use Rattle.finishing.specs.Sound.{finished_of, rows_of, instances_of, witnesses_of, sound_finished, SoundFinished}
use Rattle.finishing.specs.Checks.{check_tests, value_at, row_values, failing_row}
use Rattle.finishing.specs.Laws.{NamesRow, ChecksNameRows}
use Rattle.finishing.proofs.SoundWhen.{sound_finished_when}

-- where each list is so, so are the three of each row
rows_all : {X : Type 0} (P : X → Type 0) (starts : List ℕ) (xs : List (List X)) → AllByRecursion (AllByRecursion P) xs
    → AllByRecursion (λ r. AllByRecursion P r.a × AllByRecursion P r.b × AllByRecursion P r.c) (map (row_at [] xs) starts)
rows_all P [] xs h = tt
rows_all P (k ∷ ks) xs h = ((all_at P xs k h, all_at P xs (k + 1) h, all_at P xs (k + 2) h), rows_all P ks xs h)

module _ {V : Type 0} {m : Model V} (keeps : Keeps m) where
  open m.ring use {Member}

  module _ (s : State V) (sound : SoundFinished s) where
    abbrev n : ℕ
    n = s.counts.instances

    abbrev w : ℕ
    w = s.counts.witnesses

    -- Where matrices and values are kept, what each list of a row is worked out to stands for its worth.
    module _ (matrices : KeepsMatrices s.counts.mode) (values : KeepsValues s.counts.mode) where
      abbrev z : List Member
      z = map m.stands (instances_of s ++ witnesses_of s)

      abbrev worked : List (Term V) → V
      worked ts = or_zero m (evaluated m (value_at m s) ts)

      list_read : (ts : List (Term V)) → AllByRecursion (λ t. SymbolFree n w t.variable) ts → m.stands (worked ts) ≡ worth m (value m n z []) ts
      list_read ts h =
          let i = many_instances s sound.given values in
          let h' = subst₂ (λ a b. AllByRecursion (λ t. SymbolFree a b t.variable) ts) (sym i) (sym (many_witnesses s sound.given values)) h in
          or_zero_means keeps _ _ ((evaluates keeps).kept (instances_of s) (witnesses_of s) ts h') ∙ ap (λ a. worth m (value m a z []) ts) i

      rows_read : (rs : List (Row (List (Term V)))) → AllByRecursion (SymbolFreeRow n w) rs
          → map (each m.stands) (map (each worked) rs) ≡ rows_at m n z rs
      rows_read [] h = refl
      rows_read (r ∷ rs) h =
          ap₂ (λ y ys. y ∷ ys) (λ i. record { a = list_read r.a h.0.0 i; b = list_read r.b h.0.1 i; c = list_read r.c h.0.2 i }) (rows_read rs h.1)

      names_row : NamesRow m s (failing m (row_values m s))
      names_row =
          let free = rows_all (λ t. SymbolFree n w t.variable) (starts_from 0 (marks_of s)) (finished_of s) (sound.symbol_free matrices) in
          subst (λ rs. FirstFailing (Holds m) rs (failing m (row_values m s))) (rows_read (rows_of s) free) (failing_right keeps (row_values m s))

    -- in bare mode there are no rows
    no_rows : (KeepsMatrices s.counts.mode → ⊥) → rows_of s ≡ []
    no_rows bare =
        let given = given_of s in
        let none : constraints given ≡ [] = none_where_plain given (sound.given.lists.bare bare) in
        let starts : starts_from 0 (marks given) ≡ [] = nil_from_length _ (sym (many_constraints given) ∙ ap length none) in
        ap (λ ks. map (row_at [] (finished_of s)) ks) (ap (starts_from 0) (same_marks s) ∙ starts)

    named : (mode : SynthesisMode) → s.counts.mode ≡ mode → Checkable mode (account_of s) → NamesRow m s (failing_row m s mode)
    named Setup e h = absurd h
    named (Prove true) e h = names_row (subst KeepsMatrices (sym e) tt) (subst KeepsValues (sym e) tt)
    named (Prove false) e h =
        subst (λ rs. AllByRecursion (Holds m) (rows_at m n (map m.stands (instances_of s ++ witnesses_of s)) rs))
        (sym (no_rows (λ k. subst KeepsMatrices e k))) tt

  pub checks_name_rows : ChecksNameRows m
  checks_name_rows s e =
      let tests = first_none (check_tests s) e in
      let sound = (sound_finished_when s).0 (when_not (sound_finished s) 17 tests.0) in
      named s sound s.counts.mode refl ((check_iff s.counts.mode (account_of s)).0 tests.1.0)
