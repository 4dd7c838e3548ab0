-- The terms of a claim's lists, and the calls over them. Assumes nothing.
use Rattle.std.proofs.Common.{◌≡◌, ℕ, suc, ◌+◌, ◌-◌, ◌*◌, ◌<◌, ◌≤◌, List, [], ◌∷◌, ◌++◌, map, length, take, drop, set, get_or, Ok, sym, refl, ap, ap₂, ◌∙◌, append_assoc, arith, length-append}
use Rattle.std.specs.Prelude.{slice_range}
use Rattle.std.specs.List.{slice_get}
use lib.ListN.{length-map}
use Rattle.std.proofs.lemmas.List.{take-append-drop, map-append, take-map, drop-map, map-set, take_more, take_more_set, drop-set-lt, take-take, drop_at, drop-drop, drop-take, length-take-le, take_at}
use Rattle.field.specs.Laws.{Model}
use Rattle.variables.specs.declared.Term.{Term}
use Rattle.account.specs.Calls.{Call, set_optimization_goal, new_input_variable, new_witness_variable}
use Rattle.account.specs.declared.OptimizationGoal.{OptimizationGoal}
use Rattle.tables.specs.Held.{put}
use Rattle.tables.proofs.Puts.{put_long}
use Rattle.matrices.specs.Writing.{over}
use Rattle.calls.specs.Calls.{Rooms}
use Rattle.claims.specs.declared.Claim.{Claim}
use Rattle.claims.specs.declared.Wall.{Wall}
use Rattle.claims.specs.Grades.{windows_of, handed, naming, judging, window_terms, windows_terms, last_terms, terms_of, constraining_windows, window_calls, windows_calls, last_calls, calls_over, CallsLie}

module _ {X : Type 0} where
  -- nothing written
  pub put_none : (xs : List X) (k : ℕ) → xs ≡ put xs k []
  put_none xs k =
      let here : k + 0 ≡ k = omega arith in
      sym (append_assoc (take k xs) [] (drop (k + 0) xs) ∙ ap (λ n. take k xs ++ drop n xs) here ∙ take-append-drop k xs)

  -- more written behind what was written
  pub put_more : (xs : List X) (k : ℕ) (ys zs : List X) → k + length ys ≤ length xs → put (put xs k ys) (k + length ys) zs ≡ put xs k (ys ++ zs)
  put_more xs k ys zs h =
      let front = take k xs ++ ys in
      let rest = drop (k + length ys) xs in
      let long : length front ≡ k + length ys = omega (arith, length-append (take k xs) ys, length-take-le k xs (omega arith)) in
      let past : k + length ys + length zs ≡ k + length (ys ++ zs) = omega (arith, length-append ys zs) in
      ap₂ (λ a b. a ++ zs ++ b) (take_at front rest (k + length ys) long)
      (sym (drop-drop (length zs) (k + length ys) (front ++ rest)) ∙ ap (drop (length zs)) (drop_at front rest (k + length ys) long)
      ∙ drop-drop (length zs) (k + length ys) xs ∙ ap (λ n. drop n xs) past)
      ∙ ap (λ l. l ++ drop (k + length (ys ++ zs)) xs) (append_assoc (take k xs) ys zs)

  pub over_more : (xs : List X) (k p : ℕ) (ys zs now : List X) → p ≡ k + length ys → p ≤ length xs → now ≡ put xs k ys
      → put now p zs ≡ put xs k (ys ++ zs)
  over_more xs k p ys zs now is h e = ap₂ (λ l i. put l i zs) e is ∙ put_more xs k ys zs (omega arith)

  pub over_put : (xs ys : List X) → over xs ys ≡ put xs 0 ys
  over_put xs ys = let same : length ys ≡ 0 + length ys = omega arith in ap (λ n. ys ++ drop n xs) same

  -- one element written, alone and behind what was written
  set_put : (xs : List X) (k : ℕ) (z : X) → k < length xs → set xs k z ≡ put xs k (z ∷ [])
  set_put xs k z h = sym (take-append-drop (k + 1) (set xs k z))
      ∙ ap₂ (λ a b. a ++ b) (take_more_set xs k z h) (drop-set-lt (k + 1) xs k z (omega arith))

  pub set_more : (xs : List X) (k p : ℕ) (ys : List X) (z : X) → p ≡ k + length ys → p < length xs → set (put xs k ys) p z ≡ put xs k (ys ++ z ∷ [])
  set_more xs k p ys z is h =
      set_put (put xs k ys) p z (omega (arith, put_long xs k ys (omega arith))) ∙ over_more xs k p ys (z ∷ []) (put xs k ys) is (omega arith) refl

  pub set_five : (xs : List X) (k : ℕ) (a b c d e : X) → k + 5 ≤ length xs
      → set (set (set (set (set xs k a) (k + 1) b) (k + 2) c) (k + 3) d) (k + 4) e ≡ put xs k (a ∷ b ∷ c ∷ d ∷ e ∷ [])
  set_five xs k a b c d e h =
      ap (λ l. set (set (set (set l (k + 1) b) (k + 2) c) (k + 3) d) (k + 4) e) (set_put xs k a (omega arith))
      ∙ ap (λ l. set (set (set l (k + 2) c) (k + 3) d) (k + 4) e) (set_more xs k (k + 1) (a ∷ []) b refl (omega arith))
      ∙ ap (λ l. set (set l (k + 3) d) (k + 4) e) (set_more xs k (k + 2) (a ∷ b ∷ []) c refl (omega arith))
      ∙ ap (λ l. set l (k + 4) e) (set_more xs k (k + 3) (a ∷ b ∷ c ∷ []) d refl (omega arith))
      ∙ set_more xs k (k + 4) (a ∷ b ∷ c ∷ d ∷ []) e refl (omega arith)

  pub set_two : (xs : List X) (a b : X) → 2 ≤ length xs → set (set xs 0 a) 1 b ≡ over xs (a ∷ b ∷ [])
  set_two [] a b h = absurd (omega arith)
  set_two (x ∷ []) a b h = absurd (omega arith)
  set_two (x ∷ y ∷ xs) a b h = refl

  -- what is behind stays
  pub put_behind : (xs : List X) (k n : ℕ) (ys : List X) → n ≡ length ys → k + n ≤ length xs → drop (k + n) (put xs k ys) ≡ drop (k + n) xs
  put_behind xs k n ys is h =
      ap (λ l. drop l (put xs k ys)) (omega arith)
      ∙ drop_at (take k xs ++ ys) (drop (k + length ys) xs) (k + length ys)
      (omega (arith, length-append (take k xs) ys, length-take-le k xs (omega arith)))
      ∙ ap (λ l. drop l xs) (omega arith)

  pub behind_more : (xs ys : List X) (n k : ℕ) → n ≤ k → drop n xs ≡ drop n ys → drop k xs ≡ drop k ys
  behind_more xs ys n k le e =
      let past : n + (k - n) ≡ k = omega arith in
      ap (λ i. drop i xs) (sym past) ∙ sym (drop-drop (k - n) n xs) ∙ ap (drop (k - n)) e ∙ drop-drop (k - n) n ys ∙ ap (λ i. drop i ys) past

  -- a part of what lies in front of a table
  pub part_of_front : (xs front : List X) (a b n : ℕ) → a ≤ b → b ≤ n → take n xs ≡ front → slice_range xs a b ≡ slice_range front a b
  part_of_front xs front a b n h h' e =
      let whole : a + (n - a) ≡ n = omega arith in
      sym (take-take (b - a) (n - a) (drop a xs) (omega arith))
      ∙ ap (take (b - a)) (sym (drop-take a (n - a) xs) ∙ ap (λ i. drop a (take i xs)) whole)
      ∙ ap (λ l. take (b - a) (drop a l)) e

  -- two parts that lie in front of it
  pub split_front : (xs ys zs : List X) (a n : ℕ) → length ys ≡ a → a ≤ n → take n xs ≡ ys ++ zs
      → (take a xs ≡ ys) × ((b : ℕ) → a + b ≤ n → slice_range xs a (a + b) ≡ take b zs)
  split_front xs ys zs a n long le e = (
    sym (take-take a n xs le) ∙ ap (take a) e ∙ take_at ys zs a long,
    λ b h.
        let many : a + b - a ≡ b = omega arith in
        part_of_front xs (ys ++ zs) a (a + b) n (omega arith) h e ∙ ap (take (a + b - a)) (drop_at ys zs a long) ∙ ap (λ i. take i zs) many,
  )

module _ {X Y : Type 0} (f : X → Y) where
  -- what is written, element by element
  pub map_put : (xs : List X) (k : ℕ) (ys : List X) → map f (put xs k ys) ≡ put (map f xs) k (map f ys)
  map_put xs k ys =
      map-append f (take k xs ++ ys) (drop (k + length ys) xs)
      ∙ ap₂ (λ a b. a ++ b) (map-append f (take k xs) ys ∙ ap (λ l. l ++ map f ys) (sym (take-map f k xs)))
      (sym (drop-map f (k + length ys) xs) ∙ ap (λ n. drop (k + n) (map f xs)) (sym (length-map ys f)))

  pub map_over : (xs ys : List X) → map f (over xs ys) ≡ over (map f xs) (map f ys)
  map_over xs ys = map-append f ys (drop (length ys) xs)
      ∙ ap (λ l. map f ys ++ l) (sym (drop-map f (length ys) xs) ∙ ap (λ n. drop n (map f xs)) (sym (length-map ys f)))

  pub map_more : (now before : List X) (k i : ℕ) (ys : List Y) (z : X) → k + i < length before → length ys ≡ i → map f now ≡ put (map f before) k ys
      → map f (set now (k + i) z) ≡ put (map f before) k (ys ++ f z ∷ [])
  map_more now before k i ys z h long e =
      map-set f now (k + i) z ∙ ap (λ l. set l (k + i) (f z)) e
      ∙ set_more (map f before) k (k + i) ys (f z) (omega arith) (omega (arith, length-map before f))

-- how many calls there are
module _ {V : Type 0} where
  pub naming_long : (readings : List V) → length (naming readings) ≡ length readings
  naming_long readings = length-map readings _

  pub windows_calls_long : (ts : List (Term V)) (squares : List V) (n : ℕ) → length (windows_calls ts squares n) ≡ 5 * n
  windows_calls_long ts squares ℕ.zero = refl
  windows_calls_long ts squares (suc n) =
      omega (
        arith,
        length-append (windows_calls ts squares n) (window_calls (slice_range ts (9 * n) (9 * n + 9)) (handed (slice_get squares n))),
        windows_calls_long ts squares n,
      )

  -- the naming of one reading more
  pub naming_more : (readings : List V) (i : ℕ) (r : V) → i < length readings → r ≡ get_or readings i r
      → naming (take (i + 1) readings) ≡ naming (take i readings) ++ new_witness_variable (Ok r) ∷ []
  naming_more readings i r lt is =
      ap naming (take_more readings i r lt ∙ ap (λ x. take i readings ++ x ∷ []) (sym is))
      ∙ map-append (λ (reading : V). new_witness_variable (Ok reading)) (take i readings) (r ∷ [])

  -- the calls one part after the other
  pub parts_over : (table a b c d e now₁ now₂ now₃ : List (Call V)) (p q : ℕ) → p ≡ length a + length b → q ≡ p + length c
      → q + length (d ++ e) ≤ length table
      → now₁ ≡ over table a → now₂ ≡ put now₁ (length a) b → now₃ ≡ put now₂ p c → put now₃ q (d ++ e) ≡ over table ((a ++ (b ++ (c ++ d))) ++ e)
  parts_over table a b c d e now₁ now₂ now₃ p q is is' h e₁ e₂ e₃ =
      let first : now₁ ≡ put table 0 a = e₁ ∙ over_put table a in
      let second : now₂ ≡ put table 0 (a ++ b) = e₂ ∙ over_more table 0 (length a) a b now₁ (omega arith) (omega arith) first in
      let third : now₃ ≡ put table 0 ((a ++ b) ++ c) = e₃
      ∙ over_more table 0 p (a ++ b) c now₂ (omega (arith, length-append a b)) (omega arith) second in
      let regroup : ((a ++ b) ++ c) ++ (d ++ e) ≡ (a ++ (b ++ (c ++ d))) ++ e = simp append_assoc in
      over_more table 0 q ((a ++ b) ++ c) (d ++ e) now₃ (omega (arith, length-append (a ++ b) c, length-append a b)) (omega arith) third
      ∙ sym (over_put table (((a ++ b) ++ c) ++ (d ++ e))) ∙ ap (over table) regroup

  -- how many they are
  pub calls_over_long : (r : Rooms) (goal : OptimizationGoal) (wall : Wall V) (claim : Claim V) (ts : List (Term V))
      → length (calls_over r goal wall claim ts) ≡ 2 + length wall.readings.now + 5 * windows_of wall + 5
  calls_over_long r goal wall claim ts =
      let n = windows_of wall in
      let c = windows_calls ts claim.squares.now n in
      let d = last_calls (slice_range ts (9 * n) (9 * n + 3)) in
      let b = naming wall.readings.now in
      omega (
        arith,
        length-append (b ++ (c ++ d)) (judging {V = V} r),
        length-append b (c ++ d),
        length-append c d,
        naming_long wall.readings.now,
        windows_calls_long ts claim.squares.now n,
      )

module _ {V : Type 0} (m : Model V) where
  -- how many terms the lists of the first windows have, and of all
  pub windows_long : (wall : Wall V) (n : ℕ) → length (windows_terms m wall n) ≡ 9 * n
  windows_long wall ℕ.zero = refl
  windows_long wall (suc n) = omega (arith, length-append (windows_terms m wall n) (window_terms m wall n), windows_long wall n)

  pub terms_long : (wall : Wall V) → length (terms_of m wall) ≡ 9 * windows_of wall + 3
  terms_long wall = omega (arith, length-append (windows_terms m wall (windows_of wall)) (last_terms m wall), windows_long wall (windows_of wall))

  -- the calls of the first windows
  windows_lie : (wall : Wall V) (squares : List V) (places : List (Term V)) (n : ℕ) → take (9 * n) places ≡ windows_terms m wall n
      → windows_calls places squares n ≡ constraining_windows m wall squares n
  windows_lie wall squares places ℕ.zero e = refl
  windows_lie wall squares places (suc n) e =
      let more : 9 * n + 9 ≡ 9 * suc n = omega arith in
      let s = split_front places (windows_terms m wall n) (window_terms m wall n) (9 * n) (9 * n + 9) (windows_long wall n) (omega arith)
      (ap (λ i. take i places) more ∙ e) in
      ap₂ (λ (a b : List (Call V)). a ++ b) (windows_lie wall squares places n s.0)
      (ap (λ ts. window_calls ts (handed (slice_get squares n))) (s.1 9 (omega arith)))

  pub calls_lie : CallsLie m
  calls_lie r goal wall claim places e =
      let n = windows_of wall in
      let s = split_front places (windows_terms m wall n) (last_terms m wall) (9 * n) (length (terms_of m wall)) (windows_long wall n)
      (omega (arith, terms_long wall)) e in
      let first : List (Call V) = set_optimization_goal goal ∷ new_input_variable (Ok claim.grade) ∷ [] in
      ap (λ (l : List (Call V)). (first ++ (naming wall.readings.now ++ l)) ++ judging r)
      (ap₂ (λ (a : List (Call V)) (ts : List (Term V)). a ++ last_calls ts) (windows_lie wall claim.squares.now places n s.0)
      (s.1 3 (omega (arith, terms_long wall))))
