-- The grade of a wall, and the calls that constrain and judge it. Assumes nothing.
use Rattle.std.specs.Prelude.{◌≡◌, ℕ, suc, ◌+◌, ◌-◌, ◌*◌, ◌<◌, ◌≤◌, ◌==◌, min, cond, List, [], ◌∷◌, ◌++◌, map, length, take, Some, None, Ok, Err, Option, Result, slice_index_or, slice_range}
use Rattle.std.specs.List.{slice_get}
use Rattle.field.specs.Laws.{Model}
use Rattle.variables.specs.declared.SynthesisError.{SynthesisError}
use Rattle.variables.specs.declared.SynthesisError.TheVariants.{AssignmentMissing}
use Rattle.variables.specs.declared.Variable.{Variable}
use Rattle.variables.specs.declared.Variable.TheVariants.{Zero, One, Instance, Witness, SymbolicLc}
use Rattle.variables.specs.declared.Term.{Term}
use Rattle.variables.specs.Terms.{term, once, opposite}
use Rattle.account.specs.declared.OptimizationGoal.{OptimizationGoal}
use Rattle.account.specs.Calls.{Call, set_optimization_goal, new_input_variable, new_witness_variable, new_lc, enforce_constraint, which_is_unsatisfied, finalize, to_matrices}
use Rattle.calls.specs.Calls.{Rooms}
use Rattle.claims.specs.declared.Wall.{Wall}
use Rattle.claims.specs.declared.Claim.{Claim}

-- how many windows of three readings a wall has
abbrev pub windows_of : {V : Type 0} → Wall V → ℕ
windows_of wall = length wall.readings.now - 2

-- a claimed square as it is handed in for its witness
abbrev pub handed : {V : Type 0} → Option V → Result V SynthesisError
handed (Some square) = Ok square
handed None = Err AssignmentMissing

-- The variables of a claim, whose readings are the first witnesses. The square of window w comes after them, and each window takes six
-- symbols: its sum, its loss, the three lists of its constraint, and the total of the windows up to it.
abbrev pub symbol : ℕ → Variable
symbol k = SymbolicLc (record { 0 = k })

abbrev pub sum_of : ℕ → Variable
sum_of w = symbol (6 * w)

abbrev pub loss_of : ℕ → Variable
loss_of w = symbol (6 * w + 1)

abbrev pub square_of : {V : Type 0} → Wall V → ℕ → Variable
square_of wall w = Witness (length wall.readings.now + w)

-- the total of the windows before window w, which is Zero before the first
abbrev pub total_before : ℕ → Variable
total_before w = cond (w == 0) Zero (symbol (6 * w - 1))

-- the number of places that lends all that there are
abbrev pub all_places : ℕ
all_places = 18446744073709551615

module _ {V : Type 0} where
  -- each reading is a witness
  abbrev pub naming : List V → List (Call V)
  naming readings = map (λ reading. new_witness_variable (Ok reading)) readings

  -- a check, finalising, a check again, and a writing, which are lent all places that there are
  abbrev pub judging : Rooms → List (Call V)
  judging r =
      which_is_unsatisfied (min all_places r.work) ∷ finalize ∷ which_is_unsatisfied (min all_places r.work)
      ∷ to_matrices (min all_places r.cells) (min all_places r.ends) ∷ []

  -- The calls over term places. The lists of a window lie in nine of them: three for its sum, two for its loss, one for the loss alone, one
  -- for the square alone, and two for the total.
  abbrev pub window_calls : List (Term V) → Result V SynthesisError → List (Call V)
  window_calls ts square =
      new_lc (slice_range ts 0 3) ∷ new_lc (slice_range ts 3 5) ∷ new_witness_variable square
      ∷ enforce_constraint (slice_range ts 5 6) (slice_range ts 5 6) (slice_range ts 6 7) ∷ new_lc (slice_range ts 7 9) ∷ []

  abbrev pub windows_calls : List (Term V) → List V → ℕ → List (Call V)
  windows_calls ts squares ℕ.zero = []
  windows_calls ts squares (suc n) =
      windows_calls ts squares n ++ window_calls (slice_range ts (9 * n) (9 * n + 9)) (handed (slice_get squares n))

  -- those of the last constraint in three
  abbrev pub last_calls : List (Term V) → List (Call V)
  last_calls ts = enforce_constraint (slice_range ts 0 1) (slice_range ts 1 2) (slice_range ts 2 3) ∷ []

  abbrev pub calls_over : Rooms → OptimizationGoal → Wall V → Claim V → List (Term V) → List (Call V)
  calls_over r goal wall claim ts =
      let n = windows_of wall in
      ((set_optimization_goal goal ∷ new_input_variable (Ok claim.grade) ∷ [])
      ++ (naming wall.readings.now ++ (windows_calls ts claim.squares.now n ++ last_calls (slice_range ts (9 * n) (9 * n + 3)))))
      ++ judging r

module _ {V : Type 0} (m : Model V) where
  open m.ring use {Member, zero, one, ◌⊕◌, ◌⊗◌, neg}

  infixl 50 ◌⊕◌
  infixl 60 ◌⊗◌
  -- The lists of a claim, which name variables that are known beforehand. Of window w:

  -- its sum, and its loss, which are symbols;
  abbrev pub sum_list : ℕ → List (Term V)
  sum_list w = once m (Witness w) ∷ once m (Witness (w + 1)) ∷ once m (Witness (w + 2)) ∷ []

  abbrev pub loss_list : Wall V → ℕ → List (Term V)
  loss_list wall w = term wall.whole One ∷ opposite m (once m (sum_of w)) ∷ []

  -- the loss alone, and the square alone, for the constraint that the loss times itself is the square;
  abbrev pub loss_alone : ℕ → List (Term V)
  loss_alone w = once m (loss_of w) ∷ []

  abbrev pub square_alone : Wall V → ℕ → List (Term V)
  square_alone wall w = once m (square_of wall w) ∷ []

  -- and the total with it, which is a symbol.
  abbrev pub total_list : Wall V → ℕ → List (Term V)
  total_list wall w = once m (total_before w) ∷ once m (square_of wall w) ∷ []

  -- the terms of a window's lists, one after the other, and of those of the first n windows
  abbrev pub window_terms : Wall V → ℕ → List (Term V)
  window_terms wall w = sum_list w ++ (loss_list wall w ++ (loss_alone w ++ (square_alone wall w ++ total_list wall w)))

  abbrev pub windows_terms : Wall V → ℕ → List (Term V)
  windows_terms wall ℕ.zero = []
  windows_terms wall (suc n) = windows_terms wall n ++ window_terms wall n

  -- those of the last constraint: the total, the constant one and the grade, which is instance 1
  abbrev pub last_terms : Wall V → List (Term V)
  last_terms wall = once m (total_before (windows_of wall)) ∷ once m One ∷ once m (Instance 1) ∷ []

  -- the terms of all lists of a claim
  abbrev pub terms_of : Wall V → List (Term V)
  terms_of wall = windows_terms wall (windows_of wall) ++ last_terms wall

  -- The calls of a claim. Those of window w: its sum is a symbol, its loss is a symbol, the claimed square is a witness, the loss times itself
  -- is to be the square, and the total with it is a symbol.
  abbrev pub constraining : Wall V → List V → ℕ → List (Call V)
  constraining wall squares w =
      new_lc (sum_list w) ∷ new_lc (loss_list wall w) ∷ new_witness_variable (handed (slice_get squares w))
      ∷ enforce_constraint (loss_alone w) (loss_alone w) (square_alone wall w) ∷ new_lc (total_list wall w) ∷ []

  -- the first n windows
  abbrev pub constraining_windows : Wall V → List V → ℕ → List (Call V)
  constraining_windows wall squares ℕ.zero = []
  constraining_windows wall squares (suc n) = constraining_windows wall squares n ++ constraining wall squares n

  -- and last the total is to be the grade
  abbrev pub ending : Wall V → List (Call V)
  ending wall = enforce_constraint (once m (total_before (windows_of wall)) ∷ []) (once m One ∷ []) (once m (Instance 1) ∷ []) ∷ []

  -- The goal is set, the claimed grade is an instance, each reading is a witness, and then come the windows.
  abbrev pub grading : OptimizationGoal → Wall V → Claim V → List (Call V)
  grading goal wall claim =
      (set_optimization_goal goal ∷ new_input_variable (Ok claim.grade) ∷ [])
      ++ (naming wall.readings.now ++ (constraining_windows wall claim.squares.now (windows_of wall) ++ ending wall))

  -- The calls that grade a claim and judge it.
  abbrev pub claim_calls : Rooms → OptimizationGoal → Wall V → Claim V → List (Call V)
  claim_calls r goal wall claim = grading goal wall claim ++ judging r

  -- What a grade is.

  -- what reading k stands for
  abbrev pub reading_at : Wall V → ℕ → Member
  reading_at wall k = m.stands (slice_index_or wall.readings.now k m.zero)

  -- the loss of window k: what it sums to where the wall is whole, without what it sums to
  abbrev pub loss_at : Wall V → ℕ → Member
  loss_at wall k = m.stands wall.whole ⊕ neg (reading_at wall k ⊕ reading_at wall (k + 1) ⊕ reading_at wall (k + 2))

  -- what the claimed square of window k stands for, and the sum of the first n of them
  abbrev pub square_at : List V → ℕ → Member
  square_at squares k = m.stands (slice_index_or squares k m.zero)

  abbrev pub squares_to : List V → ℕ → Member
  squares_to squares ℕ.zero = zero
  squares_to squares (suc n) = squares_to squares n ⊕ square_at squares n

  -- The claimed square of a window is the square of its loss, and the claimed grade is the sum of the claimed squares.
  abbrev pub RightSquare : Wall V → List V → ℕ → Type 0
  RightSquare wall squares k = loss_at wall k ⊗ loss_at wall k ≡ square_at squares k

  abbrev pub RightSum : Wall V → List V → V → Type 0
  RightSum wall squares grade = squares_to squares (windows_of wall) ≡ m.stands grade

  -- What is worked out, value by value: the loss of a window, its square, and the sum of the first n squares.
  abbrev pub worked_loss : Wall V → ℕ → V
  worked_loss wall k =
      let at = λ (i : ℕ). slice_index_or wall.readings.now i m.zero in m.plus wall.whole (m.minus (m.plus (m.plus (at k) (at (k + 1))) (at (k + 2))))

  abbrev pub worked_square : Wall V → ℕ → V
  worked_square wall k = m.times (worked_loss wall k) (worked_loss wall k)

  abbrev pub worked_grade : Wall V → ℕ → V
  worked_grade wall ℕ.zero = m.zero
  worked_grade wall (suc n) = m.plus (worked_grade wall n) (worked_square wall n)

  -- the first n squares lie in their places, and this is their sum
  pub record Worked (wall : Wall V) (n : ℕ) (squares : List V) (grade : V) : Type 0 where
    pub squares_worked : (k : ℕ) → k < n → slice_index_or squares k m.zero ≡ worked_square wall k
    pub grade_worked : grade ≡ worked_grade wall n

  -- what an honest inspector claims: every square is right, and so is their sum
  pub record Honest (wall : Wall V) (squares : List V) (grade : V) : Type 0 where
    pub squares_right : (k : ℕ) → k < windows_of wall → RightSquare wall squares k
    pub sum_right : RightSum wall squares grade

  -- the first that is wrong: a window whose square is, or past the windows the sum
  pub record WrongFirst (wall : Wall V) (squares : List V) (grade : V) (j : ℕ) : Type 0 where
    pub within : j ≤ windows_of wall
    pub before : (k : ℕ) → k < j → RightSquare wall squares k
    pub square_wrong : j < windows_of wall → RightSquare wall squares j → ⊥
    pub sum_wrong : j ≡ windows_of wall → RightSum wall squares grade → ⊥

  -- what a check says of a claim: none exactly where it is honest, and else the first that is wrong
  abbrev pub Judged : Wall V → List V → V → Option ℕ → Type 0
  Judged wall squares grade None = Honest wall squares grade
  Judged wall squares grade (Some j) = WrongFirst wall squares grade j

  -- Over places that begin with the terms of a claim's lists, the calls are those of the claim.
  abbrev pub CallsLie : Type 0
  CallsLie = (r : Rooms) (goal : OptimizationGoal) (wall : Wall V) (claim : Claim V) (places : List (Term V))
      → take (length (terms_of wall)) places ≡ terms_of wall → calls_over r goal wall claim places ≡ claim_calls r goal wall claim
