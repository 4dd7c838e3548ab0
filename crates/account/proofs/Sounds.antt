-- What every account of a run keeps, call by call. Assumes nothing.
use Rattle.std.proofs.Common.{◌≡◌, ℕ, suc, ◌≤◌, true, false, eqb, List, [], ◌∷◌, ◌++◌, map, length, Option, sym, refl, ap, ◌∙◌, subst, ap₂, append_assoc, append-nil, arith, length-append}
use mathlib.Core.List.{map-append}
use lib.ListN.{length-map}
use Rattle.std.proofs.lemmas.List.{get_or_append_left, nil_from_length}
use Rattle.std.proofs.ByRecursion.{All-weaker}
use Rattle.std.proofs.lemmas.Bool.{and_parts, eqb-true}
use Rattle.field.specs.Laws.{Model}
use Rattle.variables.specs.declared.Variable.{Variable}
use Rattle.variables.specs.declared.Variable.TheVariants.{Zero, One, Instance, Witness, SymbolicLc}
use Rattle.variables.specs.declared.Term.{Term}
use Rattle.account.specs.declared.Mark.{Mark}
use Rattle.account.specs.declared.Mark.TheVariants.{A, B, C}
use Rattle.account.specs.declared.SynthesisMode.{SynthesisMode}
use Rattle.account.specs.declared.SynthesisMode.TheVariants.{Setup, Prove}
use Rattle.account.specs.Given.{Given, marks, lists, marked, KnownVariable, KnownTerms, KnownAfter, Triples, none, plain, triple, Known}
use Rattle.account.specs.Rows.{Row, row_at, starts_from, constraints}
use Rattle.account.specs.Account.{Account, Effect, names_instance, names_witness, names_lists, constrains, KeepsMatrices, KeepsValues, kept_value, plain_lists, constraint_lists, fresh, Allows, changed}
use Rattle.account.specs.Calls.{constraint_in, lists_in}
use Rattle.account.specs.Conditions.{Fresh}
use Rattle.account.proofs.Indexes.{triples_append, rows_append, index_rows}

-- what is known stays known, with more variables and more entries
known_more : (n w n' w' : ℕ) → n ≤ n' → w ≤ w' → (before more : List Mark) (v : Variable) → KnownVariable n w before v → KnownVariable n' w' (before ++ more) v
known_more n w n' w' a b before more Zero h = tt
known_more n w n' w' a b before more One h = tt
known_more n w n' w' a b before more (Instance i) h = omega arith
known_more n w n' w' a b before more (Witness i) h = omega arith
known_more n w n' w' a b before more (SymbolicLc k) h =
    (omega (arith, length-append before more, h.0), get_or_append_left before more A k.0 h.0 ∙ h.1)

module _ {V : Type 0} where
  terms_more : (n w n' w' : ℕ) → n ≤ n' → w ≤ w' → (before more : List Mark) (ts : List (Term V)) → KnownTerms n w before ts → KnownTerms n' w' (before ++ more) ts
  terms_more n w n' w' a b before more ts h = All-weaker _ _ (λ t k. known_more n w n' w' a b before more t.variable k) ts h

  after_more : (n w n' w' : ℕ) → n ≤ n' → w ≤ w' → (before : List Mark) (given : List (Given V)) → KnownAfter n w before given → KnownAfter n' w' before given
  after_more n w n' w' a b before [] h = tt
  after_more n w n' w' a b before (g ∷ gs) h =
      (subst (λ ms. KnownTerms n' w' ms g.terms) (append-nil before) (terms_more n w n' w' a b before [] g.terms h.0), after_more n w n' w' a b (before ++ g.mark ∷ []) gs h.1)

  after_append : (n w : ℕ) (before : List Mark) (given more : List (Given V)) → KnownAfter n w before given → KnownAfter n w (before ++ marks given) more → KnownAfter n w before (given ++ more)
  after_append n w before [] more h k = subst (λ ms. KnownAfter n w ms more) (append-nil before) k
  after_append n w before (g ∷ gs) more h k =
      (h.0, after_append n w (before ++ g.mark ∷ []) gs more h.1 (subst (λ ms. KnownAfter n w ms more) (sym (append_assoc before (g.mark ∷ []) (marks gs))) k))

  pub known_append : (n w : ℕ) (given more : List (Given V)) → Known n w given → KnownAfter n w (marks given) more → Triples (marks more) → Known n w (given ++ more)
  known_append n w given more h k t = record {
    terms = after_append n w [] given more h.terms k;
    triples = subst Triples (sym (map-append (λ (g : Given V). g.mark) given more)) (triples_append h.triples t);
  }

  pub known_wider : (n w n' w' : ℕ) → n ≤ n' → w ≤ w' → (given : List (Given V)) → Known n w given → Known n' w' given
  known_wider n w n' w' a b given h = record { terms = after_more n w n' w' a b [] given h.terms; triples = h.triples }

  -- the lists of a constraint, each known where the first of them will stand
  three : (n w : ℕ) (before : List Mark) (a b c : List (Term V)) → KnownTerms n w before a → KnownTerms n w before b → KnownTerms n w before c
      → KnownAfter n w before (marked A a ∷ marked B b ∷ marked C c ∷ [])
  three n w before a b c h i j =
      let third = subst (λ ms. KnownTerms n w ms c) (sym (append_assoc before (A ∷ []) (B ∷ []))) (terms_more n w n w (omega arith) (omega arith) before (A ∷ B ∷ []) c j) in
      (h, (terms_more n w n w (omega arith) (omega arith) before (A ∷ []) b i, (third, tt)))

  all_plain : (ls : List (List (Term V))) → Triples (marks (plain_lists ls))
  all_plain [] = none
  all_plain (l ∷ ls) = plain (all_plain ls)

  no_starts : (k : ℕ) (ls : List (List (Term V))) → starts_from k (marks (plain_lists ls)) ≡ []
  no_starts k [] = refl
  no_starts k (l ∷ ls) = no_starts (suc k) ls

  as_long : (given : List (Given V)) → length (marks given) ≡ length (lists given)
  as_long given = length-map given _ ∙ sym (length-map given _)

  -- the constraints, where lists are appended
  constraints_append : (given more : List (Given V)) → Triples (marks given)
      → constraints (given ++ more) ≡ constraints given ++ map (row_at [] (lists given ++ lists more)) (starts_from (length (lists given)) (marks more))
  constraints_append given more t =
      ap₂ (λ ms ls. map (row_at [] ls) (starts_from 0 ms)) (map-append (λ (g : Given V). g.mark) given more) (map-append (λ (g : Given V). g.terms) given more)
      ∙ rows_append [] t (marks more) (lists given) (lists more) (as_long given)

  constraints_plain : (given : List (Given V)) (ls : List (List (Term V))) → Triples (marks given) → constraints (given ++ plain_lists ls) ≡ constraints given
  constraints_plain given ls t =
      constraints_append given (plain_lists ls) t
      ∙ ap (λ ks. constraints given ++ map (row_at [] (lists given ++ lists (plain_lists ls))) ks) (no_starts _ ls) ∙ append-nil (constraints given)

  constraints_triple : (given : List (Given V)) (a b c : List (Term V)) → Triples (marks given)
      → constraints (given ++ marked A a ∷ marked B b ∷ marked C c ∷ []) ≡ constraints given ++ record { a = a; b = b; c = c } ∷ []
  constraints_triple given a b c t =
      let more = marked A a ∷ marked B b ∷ marked C c ∷ [] in
      let row : Row (List (Term V)) = record { a = a; b = b; c = c } in
      ap₂ (λ ms ls. map (row_at [] ls) (starts_from 0 ms)) (map-append (λ (g : Given V). g.mark) given more) (map-append (λ (g : Given V). g.terms) given more)
      ∙ index_rows [] t (lists given) (row ∷ []) (as_long given)

  -- a constraint's lists, by mode
  known_lists : (n w : ℕ) (mode : SynthesisMode) (given : List (Given V)) (a b c : List (Term V)) → Known n w given
      → KnownTerms n w (marks given) a → KnownTerms n w (marks given) b → KnownTerms n w (marks given) c → Known n w (given ++ constraint_lists mode a b c)
  known_lists n w Setup given a b c k h i j = known_append n w given (constraint_lists Setup a b c) k (three n w (marks given) a b c h i j) (triple none)
  known_lists n w (Prove true) given a b c k h i j = known_append n w given (constraint_lists Setup a b c) k (three n w (marks given) a b c h i j) (triple none)
  known_lists n w (Prove false) given a b c k h i j = subst (Known n w) (sym (append-nil given)) k

  constraint_written : (mode : SynthesisMode) (given : List (Given V)) (a b c : List (Term V)) → Triples (marks given) → KeepsMatrices mode
      → constraints (given ++ constraint_lists mode a b c) ≡ constraints given ++ record { a = a; b = b; c = c } ∷ []
  constraint_written Setup given a b c t k = constraints_triple given a b c t
  constraint_written (Prove true) given a b c t k = constraints_triple given a b c t
  constraint_written (Prove false) given a b c t k = absurd k

  bare_written : (mode : SynthesisMode) (given : List (Given V)) (a b c : List (Term V)) → (KeepsMatrices mode → ⊥)
      → constraints (given ++ constraint_lists mode a b c) ≡ constraints given
  bare_written Setup given a b c k = absurd (k tt)
  bare_written (Prove true) given a b c k = absurd (k tt)
  bare_written (Prove false) given a b c k = ap (λ g. constraints g) (append-nil given)

  -- what every account of a run keeps, these constraints having been accepted
  pub record Keeping (m : Model V) (accepted : List (Row (List (Term V)))) (x : Account V) : Type 0 where
    pub known : Known x.instances.count x.witnesses.count x.given
    pub as_written : KeepsMatrices x.mode → constraints x.given ≡ accepted
    pub bare : (KeepsMatrices x.mode → ⊥) → constraints x.given ≡ []
    pub counted : x.constraints ≡ length accepted
    pub begins : (rest : List V) × (x.instances.kept ≡ m.one ∷ rest)
    pub in_setup : (KeepsValues x.mode → ⊥) → (x.instances.kept ≡ m.one ∷ []) × (x.witnesses.kept ≡ [])
    pub instances_kept : KeepsValues x.mode → length x.instances.kept ≡ x.instances.count
    pub witnesses_kept : KeepsValues x.mode → length x.witnesses.kept ≡ x.witnesses.count
    pub some_instance : 1 ≤ x.instances.count

  pub fresh_means : (x : Account V) → fresh x ≡ true → Fresh x
  fresh_means x e =
      let one = and_parts (eqb x.instances.count 1) _ e in
      let two = and_parts (eqb x.witnesses.count 0) _ one.1 in
      let three = and_parts (eqb (length x.given) 0) _ two.1 in
      record {
        one_instance = eqb-true _ _ one.0;
        no_witness = eqb-true _ _ two.0;
        no_list = nil_from_length x.given (eqb-true _ _ three.0);
        no_constraint = eqb-true _ _ three.1;
      }

  pub none_kept : (mode : SynthesisMode) (v : Option V) → (KeepsValues mode → ⊥) → kept_value mode v ≡ []
  none_kept Setup v k = refl
  none_kept (Prove matrices) v k = absurd (k tt)

  -- what an effect appends is known, and comes in threes
  pub known_changed : (m : Model V) (x : Account V) (e : Effect V) → Allows x e → Known x.instances.count x.witnesses.count x.given
      → let y = changed m x e in Known y.instances.count y.witnesses.count y.given
  known_changed m x (names_instance v) ok k = known_wider _ _ _ _ (omega arith) (omega arith) x.given k
  known_changed m x (names_witness v) ok k = known_wider _ _ _ _ (omega arith) (omega arith) x.given k
  known_changed m x (names_lists ls) ok k = known_append _ _ x.given (plain_lists ls) k ok (all_plain ls)
  known_changed m x (constrains a b c) ok k = known_lists _ _ x.mode x.given a b c k ok.0 ok.1 ok.2
  known_changed m x other ok k = k

  -- what an effect appends in a mode: triples, and the constraint as it was written, or in bare mode none
  pub triples_in : (mode : SynthesisMode) (e : Effect V) → Triples (marks (lists_in mode e))
  triples_in mode (names_lists ls) = all_plain ls
  triples_in Setup (constrains a b c) = triple none
  triples_in (Prove true) (constrains a b c) = triple none
  triples_in (Prove false) (constrains a b c) = none
  triples_in mode other = none

  pub written_in : (mode : SynthesisMode) (given : List (Given V)) (e : Effect V) → Triples (marks given) → KeepsMatrices mode
      → constraints (given ++ lists_in mode e) ≡ constraints given ++ constraint_in e
  written_in mode given (names_lists ls) t k = constraints_plain given ls t ∙ sym (append-nil (constraints given))
  written_in mode given (constrains a b c) t k = constraint_written mode given a b c t k
  written_in mode given other t k = ap (λ g. constraints g) (append-nil given) ∙ sym (append-nil (constraints given))

  pub bare_in : (mode : SynthesisMode) (given : List (Given V)) (e : Effect V) → Triples (marks given) → (KeepsMatrices mode → ⊥)
      → constraints (given ++ lists_in mode e) ≡ constraints given
  bare_in mode given (names_lists ls) t k = constraints_plain given ls t
  bare_in mode given (constrains a b c) t k = bare_written mode given a b c k
  bare_in mode given other t k = ap (λ g. constraints g) (append-nil given)
