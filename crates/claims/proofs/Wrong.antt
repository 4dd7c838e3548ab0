-- A check of a claim's constraints says which claim is wrong first. Assumes nothing.
use Rattle.std.proofs.Common.{◌≡◌, ℕ, suc, ◌+◌, ◌<◌, ◌≤◌, List, [], ◌∷◌, ◌++◌, Some, None, Option, sym, ap, ◌∙◌, subst, ap₂, ◌⊎◌, inl, inr, arith}
use Rattle.std.proofs.Math.Nat.{eq-or-lt_of_le}
use Rattle.field.specs.Laws.{Model, Keeps}
use Rattle.field.proofs.Rings.{one_times, neg_one}
use Rattle.variables.specs.declared.Variable.{Variable}
use Rattle.variables.specs.declared.Variable.TheVariants.{One}
use Rattle.variables.specs.declared.Term.{Term}
use Rattle.variables.specs.Terms.{term, once, opposite}
use Rattle.variables.specs.Worth.{worth}
use Rattle.account.specs.Rows.{Row, each, Holds, FailsFirst, FirstFailing}
use Rattle.account.proofs.Worths.{single_worth}
use Rattle.claims.specs.declared.Wall.{Wall}
use Rattle.claims.specs.Grades.{windows_of, loss_at, square_at, RightSquare, RightSum, Judged}

module _ {V : Type 0} {m : Model V} (keeps : Keeps m) where
  open m.ring use {Member, zero, one, ◌⊕◌ as add, ◌⊗◌ as mul, neg}

  -- what lists are worth
  module _ (w : Variable → Member) where
    once_more : (v : Variable) (ts : List (Term V)) → worth m w (once m v ∷ ts) ≡ add (w v) (worth m w ts)
    once_more v ts = ap (λ x. add x (worth m w ts)) (ap (λ x. mul x (w v)) keeps.one_stands ∙ one_times keeps.laws (w v))

    pub two_worth : (a b : Variable) → worth m w (once m a ∷ once m b ∷ []) ≡ add (w a) (w b)
    two_worth a b = once_more a (once m b ∷ []) ∙ ap (add (w a)) (single_worth keeps w b)

    pub three_worth : (a b c : Variable) → worth m w (once m a ∷ once m b ∷ once m c ∷ []) ≡ add (add (w a) (w b)) (w c)
    three_worth a b c = once_more a (once m b ∷ once m c ∷ []) ∙ ap (add (w a)) (two_worth b c) ∙ sym (keeps.laws.plus_assoc (w a) (w b) (w c))

    pub loss_worth : (whole : V) (sum : Variable) → w One ≡ one
        → worth m w (term whole One ∷ opposite m (once m sum) ∷ []) ≡ add (m.stands whole) (neg (w sum))
    loss_worth whole sum e =
        ap₂ add (ap (mul (m.stands whole)) e ∙ keeps.laws.times_one (m.stands whole))
        (keeps.laws.plus_zero _ ∙ ap (λ x. mul x (w sum)) (keeps.minus_stands m.one ∙ ap neg keeps.one_stands) ∙ neg_one keeps.laws (w sum))

    pub row_worth : (a b c : Variable)
        → each (worth m w) (record { a = once m a ∷ []; b = once m b ∷ []; c = once m c ∷ [] }) ≡ record { a = w a; b = w b; c = w c }
    row_worth a b c = λ i. record { a = single_worth keeps w a i; b = single_worth keeps w b i; c = single_worth keeps w c i }

  module _ (wall : Wall V) (squares : List V) where
    -- the rows of the windows from k on
    abbrev pub claim_rows : (k n : ℕ) → List (Row Member)
    claim_rows k ℕ.zero = []
    claim_rows k (suc n) = record { a = loss_at m wall k; b = loss_at m wall k; c = square_at m squares k } ∷ claim_rows (k + 1) n

    -- a row more at their end
    pub rows_more : (n k : ℕ) → claim_rows k (suc n)
        ≡ claim_rows k n ++ record { a = loss_at m wall (k + n); b = loss_at m wall (k + n); c = square_at m squares (k + n) } ∷ []
    rows_more ℕ.zero k =
        let here : k ≡ k + 0 = omega arith in
        ap (λ (i : ℕ). let row : Row Member = record { a = loss_at m wall i; b = loss_at m wall i; c = square_at m squares i } in row ∷ []) here
    rows_more (suc n) k =
        let first : Row Member = record { a = loss_at m wall k; b = loss_at m wall k; c = square_at m squares k } in
        let same : k + 1 + n ≡ k + suc n = omega arith in
        ap (λ (l : List (Row Member)). first ∷ l) (rows_more n (k + 1))
        ∙ ap (λ (i : ℕ). let row : Row Member
        = record { a = loss_at m wall i; b = loss_at m wall i; c = square_at m squares i } in first ∷ (claim_rows (k + 1) n ++ row ∷ [])) same

    -- the first that fails
    record Windows (k n : ℕ) (Last : Type 0) : Type 0 where
      right : (i : ℕ) → k ≤ i → i < k + n → RightSquare m wall squares i
      last : Last

    record Wrong (k n : ℕ) (Last : Type 0) (j : ℕ) : Type 0 where
      within : j ≤ n
      before : (i : ℕ) → k ≤ i → i < k + j → RightSquare m wall squares i
      square : j < n → RightSquare m wall squares (k + j) → ⊥
      last : j ≡ n → Last → ⊥

    here_or_on : (k n i : ℕ) → RightSquare m wall squares k → ((j : ℕ) → k + 1 ≤ j → j < k + 1 + n → RightSquare m wall squares j) → k ≤ i
        → i < k + suc n → (k ≡ i) ⊎ (k < i) → RightSquare m wall squares i
    here_or_on k n i h more le lt (inl e) = subst (RightSquare m wall squares) e h
    here_or_on k n i h more le lt (inr past) = more i (omega arith) (omega arith)

    all_right : (k n : ℕ) (last : Row Member) → FirstFailing (Holds m) (claim_rows k n ++ last ∷ []) None → Windows k n (Holds m last)
    all_right k ℕ.zero last h = record { right = λ i le lt. absurd (omega arith); last = h.0 }
    all_right k (suc n) last h =
        let more = all_right (k + 1) n last h.1 in
        record { right = λ i le lt. here_or_on k n i h.0 more.right le lt (eq-or-lt_of_le le); last = more.last }

    first_wrong : (k n : ℕ) (last : Row Member) (j : ℕ) → FailsFirst (Holds m) (claim_rows k n ++ last ∷ []) j → Wrong k n (Holds m last) j
    first_wrong k ℕ.zero last ℕ.zero h
        = record { within = omega arith; before = λ i le lt. absurd (omega arith); square = λ lt. absurd (omega arith); last = λ _. h }
    first_wrong k ℕ.zero last (suc j) h = absurd h.1
    first_wrong k (suc n) last ℕ.zero h = record {
      within = omega arith;
      before = λ i le lt. absurd (omega arith);
      square = λ lt r. let same : k + 0 ≡ k = omega arith in h (subst (RightSquare m wall squares) same r);
      last = λ e. absurd (omega arith);
    }
    first_wrong k (suc n) last (suc j) h =
        let more = first_wrong (k + 1) n last j h.1 in
        record {
          within = omega (arith, more.within);
          before = λ i le lt. here_or_on k j i h.0 more.before le lt (eq-or-lt_of_le le);
          square = λ lt r. let same : k + suc j ≡ k + 1 + j = omega arith in more.square (omega arith) (subst (RightSquare m wall squares) same r);
          last = λ e. more.last (omega arith);
        }

    -- .. as a check says it
    pub judged : (grade : V) (last : Row Member) → (RightSum m wall squares grade → Holds m last) → (Holds m last → RightSum m wall squares grade)
        → (answer : Option ℕ)
        → FirstFailing (Holds m) (claim_rows 0 (windows_of wall) ++ last ∷ []) answer → Judged m wall squares grade answer
    judged grade last to from None h =
        let a = all_right 0 (windows_of wall) last h in
        record { squares_right = λ i lt. a.right i (omega arith) (omega arith); sum_right = from a.last }
    judged grade last to from (Some j) h =
        let w = first_wrong 0 (windows_of wall) last j h in
        record {
          within = w.within;
          before = λ i lt. w.before i (omega arith) (omega arith);
          square_wrong = λ lt r. let same : j ≡ 0 + j = omega arith in w.square lt (subst (RightSquare m wall squares) same r);
          sum_wrong = λ e r. w.last e (to r);
        }
