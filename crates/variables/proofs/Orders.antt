-- The order of the variables is total. Assumes nothing.
use Rattle.std.proofs.Common.{◌≡◌, true, false, eqb, List, [], ◌∷◌, sym, refl, ap, ◌∙◌, subst, inl, inr, ⊎_elim, arith}
use Rattle.std.proofs.lemmas.Bool.{and_parts, and_from, cases_Bool, eqb-true, eqb-false, eq-eqb, ltb-true, ltb-false, lt-ltb, le-ltb}
use Rattle.variables.specs.declared.Variable.{Variable}
use Rattle.variables.specs.declared.Variable.TheVariants.{Zero, One, Instance, Witness, SymbolicLc}
use Rattle.variables.specs.declared.Term.{Term}
use Rattle.variables.specs.Order.{kind, place, equal, below, Rises, Ordered}

-- variables with the same kind and place are one
same_variable : (v w : Variable) → kind v ≡ kind w → place v ≡ place w → v ≡ w
same_variable Zero Zero k p = refl
same_variable Zero One k p = absurd (omega arith)
same_variable Zero (Instance j) k p = absurd (omega arith)
same_variable Zero (Witness j) k p = absurd (omega arith)
same_variable Zero (SymbolicLc j) k p = absurd (omega arith)
same_variable One Zero k p = absurd (omega arith)
same_variable One One k p = refl
same_variable One (Instance j) k p = absurd (omega arith)
same_variable One (Witness j) k p = absurd (omega arith)
same_variable One (SymbolicLc j) k p = absurd (omega arith)
same_variable (Instance i) Zero k p = absurd (omega arith)
same_variable (Instance i) One k p = absurd (omega arith)
same_variable (Instance i) (Instance j) k p = ap Instance p
same_variable (Instance i) (Witness j) k p = absurd (omega arith)
same_variable (Instance i) (SymbolicLc j) k p = absurd (omega arith)
same_variable (Witness i) Zero k p = absurd (omega arith)
same_variable (Witness i) One k p = absurd (omega arith)
same_variable (Witness i) (Instance j) k p = absurd (omega arith)
same_variable (Witness i) (Witness j) k p = ap Witness p
same_variable (Witness i) (SymbolicLc j) k p = absurd (omega arith)
same_variable (SymbolicLc i) Zero k p = absurd (omega arith)
same_variable (SymbolicLc i) One k p = absurd (omega arith)
same_variable (SymbolicLc i) (Instance j) k p = absurd (omega arith)
same_variable (SymbolicLc i) (Witness j) k p = absurd (omega arith)
same_variable (SymbolicLc i) (SymbolicLc j) k p = λ x. SymbolicLc (record { 0 = p x })

pub equal_means : (v w : Variable) → equal v w ≡ true → v ≡ w
equal_means v w e =
    let both = and_parts (eqb (kind v) (kind w)) (eqb (place v) (place w)) e in
    same_variable v w (eqb-true _ _ both.0) (eqb-true _ _ both.1)

-- of two variables one is below the other, or they are equal
pub above : (v w : Variable) → equal v w ≡ false → below v w ≡ false → below w v ≡ true
above v w e b = grind (arith, eqb-true, eqb-false, eq-eqb, ltb-true, ltb-false, lt-ltb)

pub below_apart : (v w : Variable) → below v w ≡ true → equal v w ≡ false
below_apart v w b = grind (arith, eqb-true, eqb-false, eq-eqb, ltb-true, ltb-false, lt-ltb)

-- of two variables neither of which is below the other, each is the other
pub neither : (v w : Variable) → below v w ≡ false → below w v ≡ false → v ≡ w
neither v w a b =
    ⊎_elim (equal_means v w) (λ (e : equal v w ≡ false). let c = above v w e a in let z : true ≡ false = sym c ∙ b in cc) (cases_Bool (equal v w))

pub equal_swap : (v w : Variable) → equal v w ≡ equal w v
equal_swap v w =
    ⊎_elim
    (λ (e : equal v w ≡ true). let same = equal_means v w e in e ∙ sym (subst (λ u. equal u v ≡ true) same (subst (λ u. equal v u ≡ true) (sym same) e)))
    (λ (e : equal v w ≡ false). e ∙ sym (⊎_elim (λ (f : equal w v ≡ true). let same = equal_means w v f in subst (λ u. equal u v ≡ false) (sym same) (subst (λ u. equal v u ≡ false) same e)) (λ f. f) (cases_Bool (equal w v))))
    (cases_Bool (equal v w))

pub below_back : (v w : Variable) → below v w ≡ true → below w v ≡ false
below_back v w b = grind (arith, eqb-true, eqb-false, eq-eqb, ltb-true, ltb-false, lt-ltb, le-ltb)

pub below_not : (v : Variable) → below v v ≡ false
below_not v = grind (arith, eqb-true, eqb-false, eq-eqb, ltb-true, ltb-false, lt-ltb, le-ltb)

pub below_more : (u v w : Variable) → below u v ≡ true → below v w ≡ true → below u w ≡ true
below_more u v w a b = grind (arith, eqb-true, eqb-false, eq-eqb, ltb-true, ltb-false, lt-ltb)

pub ordered : Ordered
ordered = record {
  irreflexive = below_not;
  transitive = below_more;
  connected = λ v w.
      ⊎_elim (λ (e : equal v w ≡ true). inl (equal_means v w e))
      (λ (e : equal v w ≡ false). inr (⊎_elim (λ (b : below v w ≡ true). inl b) (λ (b : below v w ≡ false). inr (above v w e b)) (cases_Bool (below v w))))
      (cases_Bool (equal v w));
  same = λ v w. (equal_means v w, λ e. and_from (eqb (kind v) (kind w)) (eqb (place v) (place w)) (eq-eqb (kind v) (kind w) (ap kind e)) (eq-eqb (place v) (place w) (ap place e)));
}

module _ {V : Type 0} where
  -- the first of the terms is above v
  abbrev pub Above : Variable → List (Term V) → Type 0
  Above v [] = Unit {0}
  Above v (t ∷ ts) = below v t.variable ≡ true

  pub parts : (t : Term V) (ts : List (Term V)) → Rises (t ∷ ts) → Above t.variable ts × Rises ts
  parts t [] r = (tt, tt)
  parts t (u ∷ ts) r = r

  pub joins : (t : Term V) (ts : List (Term V)) → Above t.variable ts → Rises ts → Rises (t ∷ ts)
  joins t [] a r = tt
  joins t (u ∷ ts) a r = (a, r)
