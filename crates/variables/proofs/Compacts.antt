-- `compactify` keeps what a list is worth, rises, and names just what was named. Assumes nothing.
use Rattle.std.proofs.Common.{◌≡◌, true, List, [], ◌∷◌, sym, refl, ap, ◌∙◌, subst}
use Rattle.std.specs.List.{ContainsAt, AllByRecursion}
use Rattle.std.proofs.lemmas.Bool.{cond_both}
use Rattle.std.proofs.ByRecursion.{all_has_itself}
use Rattle.field.specs.Laws.{Model, Keeps}
use Rattle.field.proofs.Rings.{zero_plus, plus_swap, plus_times}
use Rattle.variables.specs.declared.Variable.{Variable}
use Rattle.variables.specs.declared.Term.{Term}
use Rattle.variables.specs.Worth.{worth}
use Rattle.variables.specs.Order.{equal, below, Rises}
use Rattle.variables.specs.Terms.{term}
use Rattle.variables.specs.Compact.{placed, all_placed, compactify}
use Rattle.variables.specs.Laws.{variables, Compacts}
use Rattle.variables.proofs.Orders.{equal_means, above, Above, parts, joins}

module _ {V : Type 0} {m : Model V} (keeps : Keeps m) where
  open m.ring use {Member, zero, one, ◌⊕◌ as add, ◌⊗◌ as mul}

  module _ (at : Variable → Member) where
    placed_worth : (t : Term V) (us : List (Term V)) → worth m at (placed m t us) ≡ worth m at (t ∷ us)
    placed_worth t [] = refl
    placed_worth t (u ∷ us) =
        let T = mul (m.stands t.number) (at t.variable) in
        let U = mul (m.stands u.number) (at u.variable) in
        let goal : List (Term V) → Type 0 = λ l. worth m at l ≡ add T (add U (worth m at us)) in
        cond_both (equal t.variable u.variable) _ _ goal
        (λ e.
        let v : u.variable ≡ t.variable = sym (equal_means t.variable u.variable e) in
        ap (λ x. add x (worth m at us))
        (ap (λ x. mul x (at u.variable)) (keeps.plus_stands u.number t.number) ∙ plus_times keeps.laws (m.stands u.number) (m.stands t.number) (at u.variable)
        ∙ ap (λ x. add U (mul (m.stands t.number) (at x))) v)
        ∙ keeps.laws.plus_assoc U T (worth m at us) ∙ plus_swap keeps.laws U T (worth m at us))
        (λ e. cond_both (below t.variable u.variable) _ _ goal (λ b. refl) (λ b. ap (add U) (placed_worth t us) ∙ plus_swap keeps.laws U T (worth m at us)))

    all_placed_worth : (us ts : List (Term V)) → worth m at (all_placed m us ts) ≡ add (worth m at us) (worth m at ts)
    all_placed_worth us [] = sym (keeps.laws.plus_zero _)
    all_placed_worth us (t ∷ ts) =
        all_placed_worth (placed m t us) ts ∙ ap (λ x. add x (worth m at ts)) (placed_worth t us ∙ keeps.laws.plus_comm _ _) ∙ keeps.laws.plus_assoc _ _ _

    pub compactify_worth : (ts : List (Term V)) → worth m at (compactify m ts) ≡ worth m at ts
    compactify_worth ts = all_placed_worth [] ts ∙ zero_plus keeps.laws (worth m at ts)

module _ {V : Type 0} (m : Model V) where
  placed_above : (v : Variable) (t : Term V) (us : List (Term V)) → below v t.variable ≡ true → Above v us → Above v (placed m t us)
  placed_above v t [] b a = b
  placed_above v t (u ∷ us) b a =
      cond_both (equal t.variable u.variable) _ _ (Above v) (λ _. a) (λ _. cond_both (below t.variable u.variable) _ _ (Above v) (λ _. b) (λ _. a))

  pub placed_rises : (t : Term V) (us : List (Term V)) → Rises us → Rises (placed m t us)
  placed_rises t [] r = tt
  placed_rises t (u ∷ us) r =
      let p = parts u us r in
      cond_both (equal t.variable u.variable) _ _ Rises
      (λ e. joins (term (m.plus u.number t.number) u.variable) us p.0 p.1)
      (λ e. cond_both (below t.variable u.variable) _ _ Rises (λ b. (b, r))
      (λ b. joins u (placed m t us) (placed_above u.variable t us (above t.variable u.variable e b) p.0) (placed_rises t us p.1)))

  all_placed_rises : (us ts : List (Term V)) → Rises us → Rises (all_placed m us ts)
  all_placed_rises us [] r = r
  all_placed_rises us (t ∷ ts) r = all_placed_rises (placed m t us) ts (placed_rises t us r)

  pub compactify_rises : (ts : List (Term V)) → Rises (compactify m ts)
  compactify_rises ts = all_placed_rises [] ts tt

  module _ (P : Variable → Type 0) where
    abbrev pub Only : List (Term V) → Type 0
    Only ts = AllByRecursion (λ t. P t.variable) ts

    placed_only : (t : Term V) (us : List (Term V)) → P t.variable → Only us → Only (placed m t us)
    placed_only t [] p q = (p, tt)
    placed_only t (u ∷ us) p q =
        cond_both (equal t.variable u.variable) _ _ Only (λ _. q) (λ _. cond_both (below t.variable u.variable) _ _ Only (λ _. (p, q)) (λ _. (q.0, placed_only t us p q.1)))

    all_placed_only : (us ts : List (Term V)) → Only us → Only ts → Only (all_placed m us ts)
    all_placed_only us [] p q = p
    all_placed_only us (t ∷ ts) p q = all_placed_only (placed m t us) ts (placed_only t us q.0 p) q.1

    pub compactify_only : (ts : List (Term V)) → Only ts → Only (compactify m ts)
    compactify_only ts q = all_placed_only [] ts tt q

    -- what holds of each variable of the result held of each that went in
    placed_back : (t : Term V) (us : List (Term V)) → Only (placed m t us) → P t.variable × Only us
    placed_back t [] p = (p.0, tt)
    placed_back t (u ∷ us) q =
        let goal : List (Term V) → Type 0 = λ l. Only l → P t.variable × Only (u ∷ us) in
        (cond_both (equal t.variable u.variable) _ _ goal
        (λ e p. (subst P (sym (equal_means t.variable u.variable e)) p.0, p))
        (λ _. cond_both (below t.variable u.variable) _ _ goal (λ _ p. p) (λ _ p. let r = placed_back t us p.1 in (r.0, (p.0, r.1))))) q

    all_placed_back : (us ts : List (Term V)) → Only (all_placed m us ts) → Only us × Only ts
    all_placed_back us [] p = (p, tt)
    all_placed_back us (t ∷ ts) p =
        let q = all_placed_back (placed m t us) ts p in
        let r = placed_back t us q.0 in
        (r.1, (r.0, q.1))

    pub compactify_back : (ts : List (Term V)) → Only (compactify m ts) → Only ts
    compactify_back ts p = (all_placed_back [] ts p).1

all_variables : {V : Type 0} (P : Variable → Type 0) (ts : List (Term V)) → AllByRecursion P (variables ts) → AllByRecursion (λ t. P t.variable) ts
all_variables P [] h = tt
all_variables P (t ∷ ts) h = (h.0, all_variables P ts h.1)

pub compacts : {V : Type 0} {m : Model V} → Keeps m → Compacts m
compacts {V} {m} keeps ts = record {
  worth_kept = λ at. compactify_worth keeps at ts;
  rises = compactify_rises m ts;
  only_named = compactify_only m (ContainsAt (variables ts)) ts (all_variables (ContainsAt (variables ts)) ts (all_has_itself (variables ts)));
  all_named =
      let out = compactify m ts in
      compactify_back m (ContainsAt (variables out)) ts (all_variables (ContainsAt (variables out)) out (all_has_itself (variables out)));
}
