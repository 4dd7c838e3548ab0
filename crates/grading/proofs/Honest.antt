-- The squares that are filled in one after the other. Assumes nothing.
use Rattle.std.proofs.Common.{◌≡◌, ℕ, suc, ◌+◌, ◌<◌, ◌≤◌, ◌≢◌, List, length, set, drop, refl, ap, ◌∙◌, sym, ap₂, arith, get_or-set_other, get_or-set_same, below_more}
use Rattle.std.proofs.lemmas.List.{drop-set-lt}
use Rattle.field.specs.Laws.{Model, Keeps}
use Rattle.claims.specs.declared.Wall.{Wall}
use Rattle.claims.specs.Grades.{windows_of, loss_at, square_at, squares_to, RightSquare, worked_loss, worked_square, worked_grade, Worked}

module _ {V : Type 0} (m : Model V) where
  -- the first k squares are worked out and right, the grade so far is their sum, and what is past the windows stays
  pub record Filled (wall : Wall V) (before squares : List V) (k : ℕ) (grade : V) : Type 0 where
    pub worked : Worked m wall k squares grade
    pub right : (i : ℕ) → i < k → RightSquare m wall squares i
    pub sum : squares_to m squares k ≡ m.stands grade
    pub beyond : drop (windows_of wall) squares ≡ drop (windows_of wall) before

module _ {V : Type 0} {m : Model V} (keeps : Keeps m) where
  open m.ring use {Member, ◌⊕◌ as add, ◌⊗◌ as mul}

  -- those before stay
  square_stays : (squares : List V) (k : ℕ) (v : V) (i : ℕ) → i < k → square_at m (set squares k v) i ≡ square_at m squares i
  square_stays squares k v i lt = let ne : i ≢ k = omega arith in ap m.stands (get_or-set_other squares k i v m.zero ne)

  sum_stays : (squares : List V) (k : ℕ) (v : V) (n : ℕ) → n ≤ k → squares_to m (set squares k v) n ≡ squares_to m squares n
  sum_stays squares k v ℕ.zero le = refl
  sum_stays squares k v (suc n) le = ap₂ add (sum_stays squares k v n (omega arith)) (square_stays squares k v n (omega arith))

  pub filled_more : (wall : Wall V) (before squares : List V) (k : ℕ) (grade loss : V) → k < length squares → k < windows_of wall
      → loss ≡ worked_loss m wall k → m.stands loss ≡ loss_at m wall k
      → Filled m wall before squares k grade → let v = m.times loss loss in Filled m wall before (set squares k v) (k + 1) (m.plus grade v)
  filled_more wall before squares k grade loss lt within worked is h =
      let v = m.times loss loss in
      let there : square_at m (set squares k v) k ≡ m.stands v = ap m.stands (get_or-set_same squares k v m.zero lt) in
      let here : RightSquare m wall (set squares k v) k = sym (ap₂ mul is is) ∙ sym (keeps.times_stands loss loss) ∙ sym there in
      let next : k + 1 ≡ suc k = omega arith in
      let value : v ≡ worked_square m wall k = ap₂ m.times worked worked in
      record {
        worked = record {
          squares_worked = below_more _ _
              (λ i i<k. let ne : i ≢ k = omega arith in get_or-set_other squares k i v m.zero ne ∙ h.worked.squares_worked i i<k)
              (get_or-set_same squares k v m.zero lt ∙ value);
          grade_worked = ap₂ m.plus h.worked.grade_worked value ∙ ap (worked_grade m wall) (sym next);
        };
        right = below_more _ _ (λ i i<k. h.right i i<k ∙ sym (square_stays squares k v i i<k)) here;
        sum = ap (squares_to m (set squares k v)) next ∙ ap₂ add (sum_stays squares k v k (omega arith) ∙ h.sum) there
            ∙ sym (keeps.plus_stands grade v);
        beyond = drop-set-lt (windows_of wall) squares k v within ∙ h.beyond;
      }
