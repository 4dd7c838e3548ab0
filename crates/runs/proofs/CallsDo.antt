-- From what a method ensures of its answer and of what it leaves to what the call does in a run. Assumes nothing.
use Rattle.std.proofs.Common.{◌≡◌, ℕ, min, true, false, ◌⊎◌, inl, inr, List, ◌++◌, length, take, drop, Some, None, Ok, Err, Option, Result, sym, refl, ap, ◌∙◌, subst, ap₂, subst₂}
use Rattle.std.proofs.lemmas.List.{take_min, drop_min}
use Rattle.field.specs.Laws.{Model}
use Rattle.variables.specs.declared.Variable.{Variable}
use Rattle.variables.specs.declared.Refusal.{Refusal}
use Rattle.variables.specs.Refusals.{Told, answered}
use Rattle.account.specs.Calls as account
use Rattle.tables.specs.Held.{State}
use Rattle.tables.specs.Calls.{Outcome}
use Rattle.tables.specs.Calls as tables
use Rattle.tables.specs.Follows.{answer_as}
use Rattle.matrices.specs.declared.Cell.{Cell}
use Rattle.matrices.specs.declared.ConstraintMatrices.{ConstraintMatrices}
use Rattle.matrices.specs.Writing.{Lent, lent, writing}
use Rattle.matrices.specs.Laws.{as_written}
use Rattle.calls.specs.declared.Call.{Call}
use Rattle.calls.specs.declared.Call.TheVariants.{SetMode, SetOptimizationGoal, NewInputVariable, NewWitnessVariable, NewLc, EnforceConstraint, WhichIsUnsatisfied, AssignedValue, Finalize, ToMatrices}
use Rattle.calls.specs.declared.Answer.{Answer}
use Rattle.calls.specs.declared.Answer.TheVariants.{Unsatisfied, Assigned, Written}
use Rattle.calls.specs.Calls.{Rooms, Beside, rooms, as_call, as_answer}
use Rattle.calls.specs.Standing.{Standing}
use Rattle.calls.specs.Does.{Does, checks, asks, writes, before_its_time, after_its_time}
use Rattle.calls.specs.Laws.{while_open, when_finished, with_work, with_part}
use Rattle.constraint_system.specs.Circuit.{left}
use Rattle.runs.specs.Run.{laid, beside, answer_from, is_finalize}

module _ {V S X : Type 0} (m : Model V) (f : S → X → account.Answer V) (g : X → Answer V) (t : Lent V) where
  -- what was returned is read as the method answered
  read_as : (s : S) (r : Result X Refusal) → ((x : X) → as_answer t (g x) ≡ Some (Ok (f s x)))
      → Some (answer_as (f s) (answered r)) ≡ as_answer t (answer_from g r)
  read_as s (Ok x) same = sym (same x)
  read_as s (Err refusal) same = refl

  -- A call does what its method answers and leaves, where the answer is made of what the method returned.
  pub does_as : (k : Rooms) (call made : Call V) (before : Standing V) (now : S → Standing V) (o : Outcome S X) (r : Result X Refusal) (s : S)
      (answer : Answer V) → call ≡ made → o ≡ left r s → answer ≡ answer_from g r → ((x : X) → as_answer t (g x) ≡ Some (Ok (f s x)))
      → Does m before (as_call k made) (Some (answer_as (f o.state) o.answer)) (now o.state)
      → Does m before (as_call k call) (as_answer t answer) (now s)
  does_as k call made before now o r s answer is does from same law =
      let of_outcome : Does m before (as_call k made) (Some (answer_as (f s) (answered r))) (now s)
      = subst (λ (z : Outcome S X). Does m before (as_call k made) (Some (answer_as (f z.state) z.answer)) (now z.state)) does law in
      let of_answer : Does m before (as_call k made) (as_answer t answer) (now s)
      = subst (λ a. Does m before (as_call k made) a (now s)) (read_as s r same ∙ ap (as_answer t) (sym from)) of_outcome in
      subst (λ (c : Call V). Does m before (as_call k c) (as_answer t answer) (now s)) (sym is) of_answer

-- the same of a method of a finished circuit, which leaves it as it is
module _ {V X : Type 0} (m : Model V) (f : X → account.Answer V) (g : X → Answer V) (t : Lent V) (s : State V) (b : Beside V) where
  pub finished_does : (call made : Call V) (a : Result X Told) (r : Result X Refusal) (answer : Answer V) → call ≡ made → a ≡ answered r
      → answer ≡ answer_from g r → ((x : X) → as_answer t (g x) ≡ Some (Ok (f x)))
      → Does m (when_finished s b) (as_call (rooms b) made) (Some (answer_as f a)) (when_finished s b)
      → Does m (when_finished s b) (as_call (rooms b) call) (as_answer t answer) (when_finished s b)
  finished_does call made a r answer is does from same law =
      does_as {S = Unit {0}} m (λ _. f) g t (rooms b) call made (when_finished s b) (λ _. when_finished s b) (record { answer = a; state = tt })
      r tt answer is (ap (λ z. record { answer = z; state = tt }) does) from same law

-- The first places of a table that are lent are no more than there are.
module _ {X : Type 0} (xs : List X) (n end : ℕ) (bound : end ≡ min n (length xs)) where
  part_is : take n xs ≡ take end xs
  part_is = sym (ap (λ k. take k xs) bound ∙ take_min n xs)

  rest_is : drop n xs ≡ drop end xs
  rest_is = sym (ap (λ k. drop k xs) bound ∙ drop_min n xs)

-- a check and a question on an open circuit
module _ {V : Type 0} (m : Model V) (s : State V) (work left_work : List (Option V)) (t : Lent V) (n end : ℕ)
    (bound : end ≡ min n (length work)) (call : Call V) (answer : Answer V) where
  abbrev DoesOn : List (Option V) → Type 0
  DoesOn rest =
      let b = laid work t in Does m (while_open s b) (as_call (rooms b) call) (as_answer t answer) (while_open s (laid (left_work ++ rest) t))

  pub check_does : (r : Result (Option ℕ) Refusal) → call ≡ WhichIsUnsatisfied n → tables.checking m s (take end work) ≡ left r left_work
      → answer ≡ answer_from Unsatisfied r → DoesOn (drop end work)
  check_does r is does from =
      let b = laid work t in
      subst DoesOn (rest_is work n end bound)
      (does_as m (λ _. account.unsatisfied) Unsatisfied t (rooms b) call (WhichIsUnsatisfied n) (while_open s b) (λ w. while_open s (with_work b n w))
      (tables.checking m s (take n work)) r left_work answer is (ap (tables.checking m s) (part_is work n end bound) ∙ does) from (λ _. refl)
      (checks s b n))

  pub question_does : (v : Variable) (r : Result (Option V) Refusal) → call ≡ AssignedValue v n
      → tables.asking m s v (take end work) ≡ left r left_work → answer ≡ answer_from Assigned r → DoesOn (drop end work)
  question_does v r is does from =
      let b = laid work t in
      subst DoesOn (rest_is work n end bound)
      (does_as m (λ _. account.assigned) Assigned t (rooms b) call (AssignedValue v n) (while_open s b) (λ w. while_open s (with_work b n w))
      (tables.asking m s v (take n work)) r left_work answer is (ap (tables.asking m s v) (part_is work n end bound) ∙ does) from (λ _. refl)
      (asks s b v n))

-- a writing of a finished circuit
module _ {V : Type 0} (m : Model V) (s : State V) (work : List (Option V)) (cells left_cells : List (Cell V)) (ends left_ends : List ℕ)
    (i j cell_end ends_end : ℕ) (cell_bound : cell_end ≡ min i (length cells)) (ends_bound : ends_end ≡ min j (length ends))
    (call : Call V) (answer : Answer V) where
  abbrev DoesWriting : List (Cell V) → List ℕ → Type 0
  DoesWriting rest_cells rest_ends =
      let b = beside work cells ends in
      let t = lent (left_cells ++ rest_cells) (left_ends ++ rest_ends) in
      Does m (when_finished s b) (as_call (rooms b) call) (as_answer t answer) (when_finished s (laid work t))

  pub writing_does : (r : Result (Option ConstraintMatrices) Refusal) → call ≡ ToMatrices i j
      → writing m s (lent (take cell_end cells) (take ends_end ends)) ≡ left r (lent left_cells left_ends) → answer ≡ answer_from Written r
      → DoesWriting (drop cell_end cells) (drop ends_end ends)
  writing_does r is does from =
      let b = beside work cells ends in
      subst₂ DoesWriting (rest_is cells i cell_end cell_bound) (rest_is ends j ends_end ends_bound)
      (does_as m (λ u. as_written (with_part b i j u).written) Written (lent (left_cells ++ drop i cells) (left_ends ++ drop j ends)) (rooms b) call
      (ToMatrices i j) (when_finished s b) (λ u. when_finished s (with_part b i j u)) (writing m s (lent (take i cells) (take j ends))) r
      (lent left_cells left_ends) answer is
      (ap₂ (λ p q. writing m s (lent p q)) (part_is cells i cell_end cell_bound) (part_is ends j ends_end ends_bound) ∙ does) from (λ _. refl)
      (writes s b i j))

module _ {V : Type 0} (m : Model V) (s : State V) where
  -- a writing of an open circuit, which is out of place
  pub misplaced_does : (b : Beside V) (call : Call V) → is_finalize call ≡ false
      → (call ≡ Finalize) ⊎ ((cells : ℕ) × (ends : ℕ) × (call ≡ ToMatrices cells ends))
      → Does m (while_open s b) (as_call (rooms b) call) None (while_open s b)
  misplaced_does b call here (inl is) =
      let same : true ≡ false = ap is_finalize (sym is) ∙ here in let never : ⊥ = cc in absurd never
  misplaced_does b call here (inr (cells, ends, is)) =
      subst (λ (c : Call V). Does m (while_open s b) (as_call (rooms b) c) None (while_open s b)) (sym is)
      (before_its_time s b (min cells (rooms b).cells) (min ends (rooms b).ends))

-- A call that neither checks, asks nor writes is out of place on a finished circuit.
module _ {V : Type 0} (m : Model V) (s : State V) (b : Beside V) where
  abbrev OutOfPlaceDoes : Call V → Type 0
  OutOfPlaceDoes call = Does m (when_finished s b) (as_call (rooms b) call) None (when_finished s b)

  pub others_do : (call : Call V) → ((work : ℕ) → call ≡ WhichIsUnsatisfied work → ⊥) → ((v : Variable) (work : ℕ) → call ≡ AssignedValue v work → ⊥)
      → ((cells ends : ℕ) → call ≡ ToMatrices cells ends → ⊥) → OutOfPlaceDoes call
  others_do (SetMode mode) p q r = after_its_time s b (account.set_mode mode) tt
  others_do (SetOptimizationGoal goal) p q r = after_its_time s b (account.set_optimization_goal goal) tt
  others_do (NewInputVariable handed) p q r = after_its_time s b (account.new_input_variable handed) tt
  others_do (NewWitnessVariable handed) p q r = after_its_time s b (account.new_witness_variable handed) tt
  others_do (NewLc ts) p q r = after_its_time s b (account.new_lc ts.now) tt
  others_do (EnforceConstraint x y z) p q r = after_its_time s b (account.enforce_constraint x.now y.now z.now) tt
  others_do (WhichIsUnsatisfied work) p q r = absurd (p work refl)
  others_do (AssignedValue v work) p q r = absurd (q v work refl)
  others_do Finalize p q r = after_its_time s b account.finalize tt
  others_do (ToMatrices cells ends) p q r = absurd (r cells ends refl)
