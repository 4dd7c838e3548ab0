-- What the calls of a claim bring. Assumes nothing.
use Rattle.std.proofs.Common.{◌≡◌, ℕ, suc, ◌<◌, ◌⊎◌, inl, inr, List, [], ◌∷◌, ◌++◌, map, Some, Option, sym, refl, ap, ap₂, ◌∙◌, append_assoc, arith}
use Rattle.std.specs.List.{AllByRecursion}
use Rattle.std.proofs.lemmas.List.{append-nil}
use Rattle.field.specs.Laws.{Model}
use Rattle.account.specs.declared.OptimizationGoal.{OptimizationGoal}
use Rattle.account.specs.Account.{Effect, names_witness}
use Rattle.account.specs.Calls.{Call, witness_in}
use Rattle.std.proofs.Math.Nat.{eq-or-lt_of_le}
use Rattle.claims.specs.declared.Wall.{Wall}
use Rattle.claims.specs.declared.Claim.{Claim}
use Rattle.claims.specs.Grades.{windows_of, naming, constraining, constraining_windows, ending, grading}
use Rattle.claims.proofs.Accepted.{brought, brought_append, OpenCall}

-- the first n of some parts, one after the other
module _ {X : Type 0} (g : ℕ → List X) where
  abbrev pub stacked : ℕ → List X
  stacked ℕ.zero = []
  stacked (suc n) = stacked n ++ g n

  pub nothing_stacked : (n : ℕ) → ((w : ℕ) → g w ≡ []) → stacked n ≡ []
  nothing_stacked ℕ.zero h = refl
  nothing_stacked (suc n) h = ap₂ (λ a b. a ++ b) (nothing_stacked n h) (h n)

  -- part k, with what is behind it
  pub record Holds_part (k n : ℕ) : Type 0 where
    pub rest : List X
    pub is : stacked n ≡ stacked k ++ (g k ++ rest)

  last_or_before : (k n : ℕ) → (k ≡ n) ⊎ (k < n) → (k < n → Holds_part k n) → Holds_part k (suc n)
  last_or_before k n (inl e) h = record { rest = []; is = ap (λ i. stacked i ++ g i) (sym e) ∙ ap (λ l. stacked k ++ l) (sym (append-nil (g k))) }
  last_or_before k n (inr lt) h =
      let p = h lt in
      record {
        rest = p.rest ++ g n;
        is = ap (λ l. l ++ g n) p.is ∙ append_assoc (stacked k) (g k ++ p.rest) (g n)
            ∙ ap (λ l. stacked k ++ l) (append_assoc (g k) p.rest (g n));
      }

  pub part_of : (n k : ℕ) → k < n → Holds_part k n
  part_of ℕ.zero k lt = absurd (omega arith)
  part_of (suc n) k lt = last_or_before k n (eq-or-lt_of_le (omega arith)) (part_of n k)

module _ {V : Type 0} where
  quiet_naming : {X : Type 0} (f : Effect V → List X) (readings : List V) → ((o : Option V) → f (names_witness o) ≡ [])
      → brought f (naming readings) ≡ []
  quiet_naming f [] h = refl
  quiet_naming f (r ∷ rs) h = ap₂ (λ a b. a ++ b) (h (Some r)) (quiet_naming f rs h)

  named : (readings : List V) → brought witness_in (naming readings) ≡ map Some readings
  named [] = refl
  named (r ∷ rs) = ap (λ l. Some r ∷ l) (named rs)

  naming_open : (readings : List V) → AllByRecursion OpenCall (naming readings)
  naming_open [] = tt
  naming_open (r ∷ rs) = (tt, naming_open rs)

  open_append : (a b : List (Call V)) → AllByRecursion OpenCall a → AllByRecursion OpenCall b → AllByRecursion OpenCall (a ++ b)
  open_append [] b h h' = h'
  open_append (call ∷ a) b h h' = (h.0, open_append a b h.1 h')

module _ {V : Type 0} (m : Model V) (wall : Wall V) where
  stacked_windows : {X : Type 0} (f : Effect V → List X) (squares : List V) (n : ℕ)
      → brought f (constraining_windows m wall squares n) ≡ stacked (λ w. brought f (constraining m wall squares w)) n
  stacked_windows f squares ℕ.zero = refl
  stacked_windows f squares (suc n) =
      brought_append f (constraining_windows m wall squares n) (constraining m wall squares n)
      ∙ ap (λ l. l ++ brought f (constraining m wall squares n)) (stacked_windows f squares n)

  windows_open : (squares : List V) (n : ℕ) → AllByRecursion OpenCall (constraining_windows m wall squares n)
  windows_open squares ℕ.zero = tt
  windows_open squares (suc n) =
      open_append (constraining_windows m wall squares n) (constraining m wall squares n) (windows_open squares n) (tt, (tt, (tt, (tt, (tt, tt)))))

  module _ (goal : OptimizationGoal) (claim : Claim V) where
    -- the calls before the check name and constrain
    pub grading_open : AllByRecursion OpenCall (grading m goal wall claim)
    grading_open = (
      tt,
      (
        tt,
        open_append (naming wall.readings.now) (constraining_windows m wall claim.squares.now (windows_of wall) ++ ending m wall)
            (naming_open wall.readings.now)
            (open_append (constraining_windows m wall claim.squares.now (windows_of wall)) (ending m wall)
            (windows_open claim.squares.now (windows_of wall)) (tt, tt)),
      ),
    )

    -- what they bring: after the first two calls, the readings, the windows and the last constraint
    module _ {X : Type 0} (f : Effect V → List X) where
      abbrev pub windows_bring : List X
      windows_bring = stacked (λ w. brought f (constraining m wall claim.squares.now w)) (windows_of wall)

      abbrev pub later : List (Call V)
      later = naming wall.readings.now ++ (constraining_windows m wall claim.squares.now (windows_of wall) ++ ending m wall)

      parts : brought f later ≡ brought f (naming wall.readings.now) ++ (windows_bring ++ brought f (ending m wall))
      parts =
          brought_append f (naming wall.readings.now) (constraining_windows m wall claim.squares.now (windows_of wall) ++ ending m wall)
          ∙ ap (λ l. brought f (naming wall.readings.now) ++ l)
          (brought_append f (constraining_windows m wall claim.squares.now (windows_of wall)) (ending m wall)
          ∙ ap (λ l. l ++ brought f (ending m wall)) (stacked_windows f claim.squares.now (windows_of wall)))

      pub without_readings : ((o : Option V) → f (names_witness o) ≡ []) → brought f later ≡ windows_bring ++ brought f (ending m wall)
      without_readings h = parts ∙ ap (λ l. l ++ (windows_bring ++ brought f (ending m wall))) (quiet_naming f wall.readings.now h)

      pub nothing : ((o : Option V) → f (names_witness o) ≡ []) → ((w : ℕ) → brought f (constraining m wall claim.squares.now w) ≡ [])
          → brought f (ending m wall) ≡ [] → brought f later ≡ []
      nothing h h' e = without_readings h
          ∙ ap₂ (λ a b. a ++ b) (nothing_stacked (λ w. brought f (constraining m wall claim.squares.now w)) (windows_of wall) h') e

    pub witnesses : brought witness_in (later witness_in) ≡ map Some wall.readings.now ++ windows_bring witness_in
    witnesses = parts witness_in ∙ ap₂ (λ (a b : List (Option V)). a ++ b) (named wall.readings.now) (append-nil (windows_bring witness_in))
