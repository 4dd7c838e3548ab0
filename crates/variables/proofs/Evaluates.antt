-- What is worked out at kept values stands for what is meant. Assumes nothing.
use Rattle.std.proofs.Common.{◌≡◌, ℕ, zero, suc, ◌+◌, ◌<◌, List, [], ◌∷◌, ◌++◌, map, length, get_or, Some, None, Option, sym, refl, ap, ◌∙◌, subst, ap₂, arith}
use mathlib.Core.List.{map-append}
use lib.ListN.{length-map}
use Rattle.std.specs.List.{ContainsAt, AllByRecursion, slice_get}
use Rattle.std.proofs.lemmas.List.{get_or_append_left, get_or-append-add}
use Rattle.std.proofs.ByRecursion.{All-weaker}
use Rattle.field.specs.Laws.{Model, Keeps}
use Rattle.field.proofs.Rings.{zero_plus}
use Rattle.variables.specs.declared.Variable.{Variable}
use Rattle.variables.specs.declared.Variable.TheVariants.{Zero, One, Instance, Witness, SymbolicLc}
use Rattle.variables.specs.declared.Term.{Term}
use Rattle.variables.specs.Worth.{value, worth}
use Rattle.variables.specs.Evaluate.{SymbolFree, read, accumulated, evaluated_from, evaluated}
use Rattle.variables.specs.Laws.{Means, Evaluates}

slice_get_none : {X : Type 0} (xs : List X) (i : ℕ) → (i < length xs → ⊥) → slice_get xs i ≡ None
slice_get_none [] i h = refl
slice_get_none (x ∷ xs) zero h = absurd (h (omega arith))
slice_get_none (x ∷ xs) (suc i) h = slice_get_none xs i (λ k. h (omega arith))

module _ {V : Type 0} (m : Model V) where
  accumulated_none : (o : Option V) (k : V) → accumulated m o k None ≡ None
  accumulated_none None k = refl
  accumulated_none (Some s) k = refl

  pub from_none : (at : Variable → Option V) (ts : List (Term V)) → evaluated_from m at None ts ≡ None
  from_none at [] = refl
  from_none at (t ∷ ts) = from_none at ts

  -- a term whose variable has no value leaves nothing
  missing : (at : Variable → Option V) (ts : List (Term V)) (o : Option V) (t : Term V) → ContainsAt ts t → at t.variable ≡ None → evaluated_from m at o ts ≡ None
  missing at [] o t (k, lt, is) e = absurd (omega arith)
  missing at (u ∷ ts) o t (zero, lt, is) e =
      ap (λ r. evaluated_from m at r ts) (ap (accumulated m o u.number) (ap (λ (x : Term V). at x.variable) (is u) ∙ e) ∙ accumulated_none o u.number) ∙ from_none at ts
  missing at (u ∷ ts) o t (suc k, lt, is) e = missing at ts (accumulated m o u.number (at u.variable)) t (k, omega arith, is) e

  module _ (instances witnesses : List V) where
    not_read : (v : Variable) → (SymbolFree (length instances) (length witnesses) v → ⊥) → read m instances witnesses [] v ≡ None
    not_read Zero h = absurd (h tt)
    not_read One h = absurd (h tt)
    not_read (Instance i) h = slice_get_none instances i h
    not_read (Witness i) h = slice_get_none witnesses i h
    not_read (SymbolicLc k) h = refl

module _ {V : Type 0} {m : Model V} (keeps : Keeps m) where
  open m.ring use {Member, ◌⊕◌ as add, ◌⊗◌ as mul}

  abbrev none : Member
  none = m.ring.zero

  slice_get_means : (xs : List V) (i : ℕ) → i < length xs → Means m (slice_get xs i) (get_or (map m.stands xs) i none)
  slice_get_means [] i h = absurd (omega arith)
  slice_get_means (x ∷ xs) zero h = (x, refl, refl)
  slice_get_means (x ∷ xs) (suc i) h = slice_get_means xs i (omega arith)

  -- one term more
  accumulated_means : (o value : Option V) (k : V) (a b : Member) → Means m o a → Means m value b → Means m (accumulated m o k value) (add a (mul (m.stands k) b))
  accumulated_means None value k a b h i = let e = h.1 in absurd (let y : ◌≡◌ {A = ℕ} 0 1 = cc in omega arith)
  accumulated_means (Some s) None k a b h i = let e = i.1 in absurd (let y : ◌≡◌ {A = ℕ} 0 1 = cc in omega arith)
  accumulated_means (Some s) (Some v) k a b h i =
      let sum : s ≡ h.0 = let e = h.1 in cc in
      let val : v ≡ i.0 = let e = i.1 in cc in (
        m.plus s (m.times k v),
        refl,
        keeps.plus_stands s (m.times k v) ∙ ap₂ add (ap m.stands sum ∙ h.2) (keeps.times_stands k v ∙ ap (mul (m.stands k)) (ap m.stands val ∙ i.2)),
      )

  -- where the value of each variable that a list names stands for what the variable is worth, so does the list's
  module _ (at : Variable → Option V) (meant : Variable → Member) where
    abbrev Stand : List (Term V) → Type 0
    Stand ts = AllByRecursion (λ t. Means m (at t.variable) (meant t.variable)) ts

    from_means : (ts : List (Term V)) (o : Option V) (a : Member) → Means m o a → Stand ts → Means m (evaluated_from m at o ts) (add a (worth m meant ts))
    from_means [] o a h k = subst (Means m o) (sym (keeps.laws.plus_zero a)) h
    from_means (t ∷ ts) o a h k =
        subst (Means m (evaluated_from m at o (t ∷ ts))) (keeps.laws.plus_assoc _ _ _)
        (from_means ts (accumulated m o t.number (at t.variable)) _ (accumulated_means o (at t.variable) t.number a (meant t.variable) h k.0) k.1)

    pub evaluated_means : (ts : List (Term V)) → Stand ts → Means m (evaluated m at ts) (worth m meant ts)
    evaluated_means ts k =
        subst (Means m (evaluated m at ts)) (zero_plus keeps.laws (worth m meant ts)) (from_means ts (Some m.zero) none (m.zero, refl, keeps.zero_stands) k)

  module _ (instances witnesses : List V) where
    abbrev z : List Member
    z = map m.stands (instances ++ witnesses)

    at_instance : (i : ℕ) → i < length instances → get_or z i none ≡ get_or (map m.stands instances) i none
    at_instance i h =
        ap (λ l. get_or l i none) (map-append m.stands instances witnesses) ∙ get_or_append_left (map m.stands instances) (map m.stands witnesses) none i (omega (arith, length-map instances m.stands))

    at_witness : (i : ℕ) → get_or z (length instances + i) none ≡ get_or (map m.stands witnesses) i none
    at_witness i =
        ap₂ (λ l k. get_or l (k + i) none) (map-append m.stands instances witnesses) (sym (length-map instances m.stands)) ∙ get_or-append-add (map m.stands instances) (map m.stands witnesses) i none

    -- a kept value, whatever the symbols are worth
    pub read_means : (named : List (Option V)) (ws : List Member) (v : Variable) → SymbolFree (length instances) (length witnesses) v
        → Means m (read m instances witnesses named v) (value m (length instances) z ws v)
    read_means named ws Zero k = (m.zero, refl, keeps.zero_stands)
    read_means named ws One k = (m.one, refl, keeps.one_stands)
    read_means named ws (Instance i) k = subst (Means m (slice_get instances i)) (sym (at_instance i k)) (slice_get_means instances i k)
    read_means named ws (Witness i) k = subst (Means m (slice_get witnesses i)) (sym (at_witness i)) (slice_get_means witnesses i k)
    read_means named ws (SymbolicLc j) k = absurd k

  pub evaluates : Evaluates m
  evaluates = record {
    kept = λ instances witnesses ts k.
        evaluated_means (read m instances witnesses []) (value m (length instances) (map m.stands (instances ++ witnesses)) []) ts
        (All-weaker _ _ (λ t free. read_means instances witnesses [] [] t.variable free) ts k);
    not_kept = λ instances witnesses ts t has not. missing m (read m instances witnesses []) ts (Some m.zero) t has (not_read m instances witnesses t.variable not);
  }
