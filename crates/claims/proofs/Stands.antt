-- What the variables of a claim are worth, where its calls were all accepted. Assumes nothing.
use Rattle.std.proofs.Common.{◌≡◌, ℕ, suc, ◌+◌, ◌-◌, ◌*◌, ◌<◌, ◌≤◌, true, cond, List, [], ◌∷◌, ◌++◌, map, length, get_or, Some, None, Option, sym, refl, ap, ap₂, ◌∙◌, subst, append_assoc, arith, length-append}
use lib.ListN.{length-map}
use Rattle.std.specs.List.{slice_get}
use Rattle.std.specs.Result.{result_ok}
use Rattle.std.proofs.lemmas.List.{get_or-map, get_or_append_left, get_or-append-add, map-append, append-nil}
use Rattle.std.proofs.lemmas.Option.{get_or_from_slice_get}
use Rattle.std.proofs.lemmas.Bool.{ne_eqb}
use Rattle.field.specs.Laws.{Model, Keeps}
use Rattle.variables.specs.declared.Variable.{Variable}
use Rattle.variables.specs.declared.Variable.TheVariants.{Zero, One, Instance, Witness}
use Rattle.variables.specs.declared.Term.{Term}
use Rattle.variables.specs.Worth.{value, worth}
use Rattle.account.specs.declared.SynthesisMode.TheVariants.{Prove}
use Rattle.account.specs.declared.OptimizationGoal.{OptimizationGoal}
use Rattle.account.specs.Given.{Given, lists}
use Rattle.account.specs.Worths.{worths}
use Rattle.account.specs.Rows.{Row, each, Holds, FirstFailing, last_of}
use Rattle.account.specs.Account.{Account, Effect, KeepsValues, kept_of}
use Rattle.account.specs.Calls as account
use Rattle.account.specs.Calls.{Call, which_is_unsatisfied, finalize, to_matrices, Event, accepted, accepted_all, lists_in, mode_in, instance_in, witness_in, constraint_in, accepted_constraints}
use Rattle.account.specs.Promise.{Promised}
use Rattle.account.proofs.Worths.{worths_solve}
use Rattle.claims.specs.declared.Wall.{Wall}
use Rattle.claims.specs.declared.Claim.{Claim}
use Rattle.claims.specs.Grades.{windows_of, handed, symbol, sum_of, loss_of, square_of, total_before, loss_alone, square_alone, constraining, ending, grading, reading_at, loss_at, square_at, squares_to, Judged}
use Rattle.claims.proofs.Accepted.{AllOk, brought, calls_in, all_brought, all_append}
use Rattle.claims.proofs.Brings.{stacked, part_of, without_readings, nothing, witnesses}
use Rattle.claims.proofs.Wrong.{two_worth, three_worth, loss_worth, row_worth, claim_rows, rows_more, judged}

-- how long parts of one length are together
six_long : {X : Type 0} (g : ℕ → List X) (n : ℕ) → ((w : ℕ) → length (g w) ≡ 6) → length (stacked g n) ≡ 6 * n
six_long g ℕ.zero h = refl
six_long g (suc n) h = omega (arith, length-append (stacked g n) (g n), six_long g n h, h n)

one_long : {X : Type 0} (g : ℕ → List X) (n : ℕ) → ((w : ℕ) → length (g w) ≡ 1) → length (stacked g n) ≡ n
one_long g ℕ.zero h = refl
one_long g (suc n) h = omega (arith, length-append (stacked g n) (g n), one_long g n h, h n)

-- the square that was handed in, where it was a value
was_handed : {V : Type 0} (o : Option V) (v : V) → Some v ≡ result_ok (handed o) → o ≡ Some v
was_handed (Some s) v e = cc
was_handed None v e = let never : ⊥ = cc in absurd never

module _ {V : Type 0} {m : Model V} (keeps : Keeps m) (goal : OptimizationGoal) (wall : Wall V) (claim : Claim V) where
  open m.ring use {Member, zero, one, ◌⊕◌ as add, ◌⊗◌ as mul, neg}

  -- the events of the last four calls, and the whole log
  module _ (work work' cells ends : ℕ) (a b c d : account.Answer V) (past : List (Event V)) where
    abbrev pub four : List (Event V)
    four = accepted (which_is_unsatisfied work) a ∷ accepted finalize b ∷ accepted (which_is_unsatisfied work') c ∷ accepted
        (to_matrices cells ends) d ∷ []

    abbrev pub log : List (Event V)
    log = past ++ four

    module _ (promised : Promised m log) (ok : AllOk past) (are : calls_in past ≡ grading m goal wall claim) where
      abbrev readings : List V
      readings = wall.readings.now

      abbrev squares : List V
      squares = claim.squares.now

      abbrev pub end : Account V
      end = account.account m log

      -- what the calls bring
      all_of : {X : Type 0} (f : Effect V → List X) → accepted_all f four ≡ [] → accepted_all f log ≡ brought f (grading m goal wall claim)
      all_of f quiet = all_append f past four ∙ ap₂ (λ x y. x ++ y) (all_brought f past ok ∙ ap (brought f) are) quiet
          ∙ append-nil (brought f (grading m goal wall claim))

      pub proves : end.mode ≡ Prove true
      proves = promised.last_set.0 ∙ ap (last_of (Prove true)) (all_of mode_in refl ∙ nothing m wall goal claim mode_in (λ _. refl) (λ _. refl) refl)

      kept : KeepsValues end.mode
      kept = subst KeepsValues (sym proves) tt

      -- the lists of a window, and of the last constraint
      abbrev given_of : ℕ → List (Given V)
      given_of w = brought (lists_in (Prove true)) (constraining m wall squares w)

      abbrev last_given : List (Given V)
      last_given = brought (lists_in {V = V} (Prove true)) (ending m wall)

      given_is : end.given ≡ stacked given_of (windows_of wall) ++ last_given
      given_is =
          promised.lists_handed ∙ ap (λ mode. accepted_all (lists_in mode) log) proves ∙ all_of (lists_in (Prove true)) refl
          ∙ without_readings m wall goal claim (lists_in (Prove true)) (λ _. refl)

      -- the squares as they were handed in
      abbrev square_handed : ℕ → List (Option V)
      square_handed w = brought witness_in (constraining m wall squares w)

      witnesses_are : map Some end.witnesses.kept ≡ map Some readings ++ stacked square_handed (windows_of wall)
      witnesses_are = (promised.values_handed kept).1 ∙ all_of witness_in refl ∙ witnesses m wall goal claim

      instances_are : map Some end.instances.kept ≡ Some m.one ∷ Some claim.grade ∷ []
      instances_are =
          (promised.values_handed kept).0
          ∙ ap (λ (l : List (Option V)). Some m.one ∷ l)
          (all_of instance_in refl ∙ ap (λ (l : List (Option V)). Some claim.grade ∷ l)
          (nothing m wall goal claim instance_in (λ _. refl) (λ _. refl) refl))

      -- the constraints that were accepted
      abbrev rows_of : ℕ → List (Row (List (Term V)))
      rows_of w = brought constraint_in (constraining m wall squares w)

      pub constraints_are : accepted_constraints past ≡ stacked rows_of (windows_of wall) ++ brought constraint_in (ending m wall)
      constraints_are = all_brought constraint_in past ok ∙ ap (brought constraint_in) are
          ∙ without_readings m wall goal claim constraint_in (λ _. refl)

      -- what a variable is worth at the end
      abbrev pub at : Variable → Member
      at = value m end.instances.count (kept_of m end) (worths m end.instances.count (kept_of m end) (lists end.given))

      symbol_is : (i j : ℕ) (front mid rest : List (Given V)) → end.given ≡ front ++ (mid ++ rest) → i ≡ length front + j → j < length mid
          → at (symbol i) ≡ worth m at (get_or (lists mid) j [])
      symbol_is i j front mid rest e place lt =
          let all = lists end.given in
          let terms = λ (g : Given V). g.terms in
          let all_is : all ≡ lists front ++ (lists mid ++ lists rest) = ap lists e ∙ map-append terms front (mid ++ rest)
          ∙ ap (λ l. lists front ++ l) (map-append terms mid rest) in
          let within : i < length end.given = omega (arith, ap length e, length-append front (mid ++ rest), length-append mid rest) in
          let here : i ≡ length (lists front) + j = omega (arith, length-map front terms) in
          (worths_solve keeps end.instances.count end.witnesses.count (kept_of m end) end.given promised.known.terms).symbols i
          (omega (arith, length-map end.given terms))
          ∙ ap (worth m at)
          (ap₂ (λ (l : List (List (Term V))) (n : ℕ). get_or l n []) all_is here ∙ get_or-append-add (lists front) (lists mid ++ lists rest) j []
          ∙ get_or_append_left (lists mid) (lists rest) [] j (omega (arith, length-map mid terms)))

      window_symbol : (w i j : ℕ) → w < windows_of wall → i ≡ 6 * w + j → j < 6 → at (symbol i) ≡ worth m at (get_or (lists (given_of w)) j [])
      window_symbol w i j lt place few =
          let p = part_of given_of (windows_of wall) w lt in
          let e : end.given ≡ stacked given_of w ++ (given_of w ++ (p.rest ++ last_given))
          = given_is ∙ ap (λ l. l ++ last_given) p.is ∙ append_assoc (stacked given_of w) (given_of w ++ p.rest) last_given
          ∙ ap (λ l. stacked given_of w ++ l) (append_assoc (given_of w) p.rest last_given) in
          symbol_is i j (stacked given_of w) (given_of w) (p.rest ++ last_given) e (omega (arith, six_long given_of w (λ _. refl))) few

      -- values that are kept
      some_at : (xs : List V) (os : List (Option V)) (i : ℕ) → map Some xs ≡ os → i < length xs → Some (get_or xs i m.zero) ≡ get_or os i None
      some_at xs os i e lt = sym (get_or-map Some xs i m.zero None lt) ∙ ap (λ l. get_or l i None) e

      instances_long : length end.instances.kept ≡ end.instances.count
      instances_long = omega (arith, length-map end.instances.kept Some, ap length (promised.values_handed kept).0, promised.named_counted.0)

      witness_is : (i : ℕ) → i < length end.witnesses.kept → at (Witness i) ≡ m.stands (get_or end.witnesses.kept i m.zero)
      witness_is i lt =
          let ns = end.instances.kept in
          let ws = end.witnesses.kept in
          ap (λ n. get_or (kept_of m end) (n + i) zero) (sym instances_long)
          ∙ get_or-map m.stands (ns ++ ws) (length ns + i) m.zero zero (omega (arith, length-append ns ws))
          ∙ ap m.stands (get_or-append-add ns ws i m.zero)

      -- how many they are
      instances_many : length end.instances.kept ≡ 2
      instances_many = omega (arith, length-map end.instances.kept Some, ap length instances_are)

      witnesses_many : length end.witnesses.kept ≡ length readings + windows_of wall
      witnesses_many =
          omega (
            arith,
            length-map end.witnesses.kept Some,
            ap length witnesses_are,
            length-append (map Some readings) (stacked square_handed (windows_of wall)),
            length-map readings Some,
            one_long square_handed (windows_of wall) (λ _. refl),
          )

      -- the grade, the readings and the squares stand where they are claimed to
      grade_is : at (Instance 1) ≡ m.stands claim.grade
      grade_is =
          let ns = end.instances.kept in
          let ws = end.witnesses.kept in
          let kept_one = some_at ns (Some m.one ∷ Some claim.grade ∷ []) 1 instances_are (omega (arith, instances_many)) in
          let same : get_or ns 1 m.zero ≡ claim.grade = cc in
          get_or-map m.stands (ns ++ ws) 1 m.zero zero (omega (arith, length-append ns ws, instances_many))
          ∙ ap m.stands (get_or_append_left ns ws m.zero 1 (omega (arith, instances_many)) ∙ same)

      reading_is : (i : ℕ) → i < length readings → at (Witness i) ≡ reading_at m wall i
      reading_is i lt =
          let ws = end.witnesses.kept in
          let kept_there : Some (get_or ws i m.zero) ≡ Some (get_or readings i m.zero)
          = some_at ws (map Some readings ++ stacked square_handed (windows_of wall)) i witnesses_are (omega (arith, witnesses_many))
          ∙ get_or_append_left (map Some readings) (stacked square_handed (windows_of wall)) None i (omega (arith, length-map readings Some))
          ∙ get_or-map Some readings i m.zero None lt in
          let same : get_or ws i m.zero ≡ get_or readings i m.zero = cc in
          witness_is i (omega (arith, witnesses_many)) ∙ ap m.stands same

      square_is : (w : ℕ) → w < windows_of wall → at (square_of wall w) ≡ square_at m squares w
      square_is w lt =
          let ws = end.witnesses.kept in
          let i = length readings + w in
          let handed_all = stacked square_handed (windows_of wall) in
          let p = part_of square_handed (windows_of wall) w lt in
          let there : w ≡ length (stacked square_handed w) + 0 = omega (arith, one_long square_handed w (λ _. refl)) in
          let v = get_or ws i m.zero in
          let kept_there : Some v ≡ result_ok (handed (slice_get squares w))
          = some_at ws (map Some readings ++ handed_all) i witnesses_are (omega (arith, witnesses_many))
          ∙ ap (λ n. get_or (map Some readings ++ handed_all) (n + w) None) (sym (length-map readings Some))
          ∙ get_or-append-add (map Some readings) handed_all w None
          ∙ ap₂ (λ (l : List (Option V)) (n : ℕ). get_or l n None) p.is there
          ∙ get_or-append-add (stacked square_handed w) (square_handed w ++ p.rest) 0 None in
          witness_is i (omega (arith, witnesses_many))
          ∙ ap m.stands (sym (get_or_from_slice_get squares w v m.zero (was_handed (slice_get squares w) v kept_there)))

      -- So do the loss of each window, and the total before each.
      sum_is : (w : ℕ) → w < windows_of wall → at (sum_of w) ≡ add (add (reading_at m wall w) (reading_at m wall (w + 1))) (reading_at m wall (w + 2))
      sum_is w lt =
          window_symbol w (6 * w) 0 lt (omega arith) (omega arith) ∙ three_worth keeps at (Witness w) (Witness (w + 1)) (Witness (w + 2))
          ∙ ap₂ add (ap₂ add (reading_is w (omega arith)) (reading_is (w + 1) (omega arith))) (reading_is (w + 2) (omega arith))

      loss_is : (w : ℕ) → w < windows_of wall → at (loss_of w) ≡ loss_at m wall w
      loss_is w lt =
          window_symbol w (6 * w + 1) 1 lt (omega arith) (omega arith) ∙ loss_worth keeps at wall.whole (sum_of w) refl
          ∙ ap (λ x. add (m.stands wall.whole) (neg x)) (sum_is w lt)

      total_is : (n : ℕ) → n ≤ windows_of wall → at (total_before n) ≡ squares_to m squares n
      total_is ℕ.zero le = refl
      total_is (suc n) le =
          ap (λ b. at (cond b Zero (symbol (6 * suc n - 1)))) (ne_eqb (suc n) 0 (λ e. absurd (omega arith)))
          ∙ window_symbol n (6 * suc n - 1) 5 (omega arith) (omega arith) (omega arith) ∙ two_worth keeps at (total_before n) (square_of wall n)
          ∙ ap₂ add (total_is n (omega arith)) (square_is n (omega arith))

      -- the constraints are worth what they claim
      abbrev row_at : ℕ → Row Member
      row_at w = record { a = loss_at m wall w; b = loss_at m wall w; c = square_at m squares w }

      row_is : (w : ℕ) → w < windows_of wall
          → each (worth m at) (record { a = loss_alone m w; b = loss_alone m w; c = square_alone m wall w }) ≡ row_at w
      row_is w lt = row_worth keeps at (loss_of w) (loss_of w) (square_of wall w)
          ∙ (λ i. record { a = loss_is w lt i; b = loss_is w lt i; c = square_is w lt i })

      rows_are : (n : ℕ) → n ≤ windows_of wall → map (each (worth m at)) (stacked rows_of n) ≡ claim_rows keeps wall squares 0 n
      rows_are ℕ.zero le = refl
      rows_are (suc n) le =
          let same : n ≡ 0 + n = omega arith in
          map-append (each (worth m at)) (stacked rows_of n) (rows_of n)
          ∙ ap₂ (λ (l : List (Row Member)) (r : Row Member). l ++ r ∷ []) (rows_are n (omega arith)) (row_is n (omega arith) ∙ ap row_at same)
          ∙ sym (rows_more keeps wall squares n 0)

      -- An answer that names the first constraint that fails names the first claim that is wrong.
      pub judges : (answer : Option ℕ) → FirstFailing (Holds m) (map (each (worth m at)) (accepted_constraints past)) answer
          → Judged m wall squares claim.grade answer
      judges answer h =
          let n = windows_of wall in
          let total = at (total_before n) in
          let row : Row Member = record { a = total; b = one; c = at (Instance 1) } in
          let all : map (each (worth m at)) (accepted_constraints past) ≡ claim_rows keeps wall squares 0 n ++ row ∷ []
          = ap (map (each (worth m at))) constraints_are ∙ map-append (each (worth m at)) (stacked rows_of n) (brought constraint_in (ending m wall))
          ∙ ap₂ (λ (l : List (Row Member)) (r : Row Member). l ++ r ∷ []) (rows_are n (omega arith))
          (row_worth keeps at (total_before n) One (Instance 1)) in
          let sum : mul total one ≡ squares_to m squares n = keeps.laws.times_one total ∙ total_is n (omega arith) in
          judged keeps wall squares claim.grade row (λ r. sum ∙ r ∙ sym grade_is) (λ r. sym sum ∙ r ∙ grade_is) answer
          (subst (λ rs. FirstFailing (Holds m) rs answer) all h)
