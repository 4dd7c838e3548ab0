-- What a circuit answers at its kept values: checks and single values. Assumes nothing.
use Rattle.std.proofs.Common.{◌≡◌, ℕ, suc, ◌+◌, ◌↔◌, true, false, not, List, [], ◌∷◌, ◌++◌, map, length, get_or, Some, None, Option, sym, refl, ap, ◌∙◌, subst, ap₂, subst₂, append-nil, arith, length-append}
use lib.ListN.{length-map}
use Rattle.std.specs.List.{AllByRecursion, slice_get}
use Rattle.std.proofs.lemmas.Option.{slice_get-get_or}
use Rattle.std.proofs.ByRecursion.{All-map}
use Rattle.std.proofs.lemmas.Bool.{cond_both, true≢false}
use Rattle.std.specs.Option.{option_map}
use Rattle.field.specs.Laws.{Model, Keeps}
use Rattle.variables.specs.declared.Variable.{Variable}
use Rattle.variables.specs.declared.Variable.TheVariants.{Zero, One, Instance, Witness, SymbolicLc}
use Rattle.variables.specs.declared.Term.{Term}
use Rattle.variables.specs.Worth.{value, worth}
use Rattle.variables.specs.Evaluate.{SymbolFree, read, evaluated}
use Rattle.variables.specs.Laws.{Means}
use Rattle.account.specs.declared.Mark.TheVariants.{Plain, A}
use Rattle.account.specs.declared.SynthesisMode.{SynthesisMode}
use Rattle.account.specs.declared.SynthesisMode.TheVariants.{Setup, Prove}
use Rattle.account.specs.Given.{marks, lists, KnownVariable, Known}
use Rattle.account.specs.Worths.{worths}
use Rattle.account.specs.Rows.{Row, each, row_at, starts_from, constraints, FirstFailing, Holds, rows_at, cells, Marlin}
use Rattle.account.specs.Finish.{Rule, finish}
use Rattle.account.specs.Evaluate.{filled, added_values, or_zero, failing}
use Rattle.account.specs.Account.{Finished, Account, Effect, asks, checks, writes, finalises}
use Rattle.account.specs.Account.{LeavesAlone, KeepsMatrices, KeepsValues, is_open, builds, Checkable, nothing_made, added_kept, rule_of, rows_of, opened, with_finished, kept_of, all_kept_of, constraints_kept, finish_of, made, made_in, changed, values_of, failing_of, if_plain, symbol_value, value_of}
use Rattle.account.specs.Laws.{SymbolFreeRow, WellFormed, combination_worths, FailsAlike}
use Rattle.account.specs.Promise.{Faithful}
use Rattle.account.proofs.Worths.{worths_long}
use Rattle.account.proofs.Counts.{Only}
use Rattle.account.proofs.Checks.{rows_each}
use Rattle.account.proofs.Finalises.{constraints_worths, matrices_exact, well_formed, exact, fails_alike}
use Rattle.account.proofs.Evaluates.{read_means, merged_means, work_stands, added_stand}
use Rattle.account.proofs.Outlines.{outlined_plain, none_outlined}
use Rattle.account.proofs.Picks.{outlines, finished_rise}
use Rattle.account.proofs.Sounds.{Keeping}

module _ {V : Type 0} where
  pub open_means : (o : Option (Finished V)) → is_open o ≡ true → o ≡ None
  open_means None e = refl
  open_means (Some done) e = absurd (true≢false (sym e))

  pub finished_means : (o : Option (Finished V)) → not (is_open o) ≡ true → (done : Finished V) × (o ≡ Some done)
  finished_means None e = absurd (true≢false (sym e))
  finished_means (Some done) e = (done, refl)

  pub closed : (o : Option (Finished V)) (done : Finished V) → o ≡ None → o ≡ Some done → ⊥
  closed o done p q = let z : ◌≡◌ {A = ℕ} 0 1 = cc in omega arith

  -- of a finished circuit nothing else builds
  pub left_alone : (x : Account V) (e : Effect V) → builds x e ≡ true → (done : Finished V) → x.finished ≡ Some done → LeavesAlone e
  left_alone x asks b done e = tt
  left_alone x checks b done e = tt
  left_alone x writes b done e = tt
  left_alone x other b done e = absurd (closed x.finished done (open_means x.finished b) e)

  -- of an open circuit the value of a known variable is read off the work table
  pub value_read : (m : Model V) (x : Account V) → x.finished ≡ None → (v : Variable) → KnownVariable x.instances.count x.witnesses.count (marks x.given) v
      → value_of m x v ≡ read m x.instances.kept x.witnesses.kept (filled m x.instances.kept x.witnesses.kept (lists x.given)) v
  value_read m x unfinished Zero h = refl
  value_read m x unfinished One h = refl
  value_read m x unfinished (Instance i) h = refl
  value_read m x unfinished (Witness i) h = ap (λ l. slice_get l i) (ap (λ o. x.witnesses.kept ++ added_kept o) unfinished ∙ append-nil x.witnesses.kept)
  value_read m x unfinished (SymbolicLc j) h =
      let table = filled m x.instances.kept x.witnesses.kept (lists x.given) in
      ap (λ o. symbol_value m o x j.0) unfinished
      ∙ ap (λ o. if_plain m o (get_or table j.0 None)) (slice_get-get_or (marks x.given) j.0 A h.0 ∙ ap Some h.1)

  -- The lists of a circuit are known, in bare mode without a constraint, and where values are kept there is one for each variable.
  pub record Valued (x : Account V) : Type 0 where
    pub known : Known x.instances.count x.witnesses.count x.given
    pub bare : (KeepsMatrices x.mode → ⊥) → constraints x.given ≡ []
    pub instances_kept : KeepsValues x.mode → length x.instances.kept ≡ x.instances.count
    pub witnesses_kept : KeepsValues x.mode → length x.witnesses.kept ≡ x.witnesses.count

  pub valued_in_run : (m : Model V) (cs : List (Row (List (Term V)))) (x : Account V) → Keeping m cs x → Valued x
  valued_in_run m cs x s = record { known = s.known; bare = s.bare; instances_kept = s.instances_kept; witnesses_kept = s.witnesses_kept }

  module _ {m : Model V} (keeps : Keeps m) where
    open m.ring use {Member, zero, one}

    -- what was finished is faithful to the account, and in bare mode nothing was made
    pub record Right (x : Account V) : Type 0 where
      pub faithful : KeepsMatrices x.mode → (done : Finished V) → x.finished ≡ Some done → Faithful m x (constraints x.given) done
      pub bare : (KeepsMatrices x.mode → ⊥) → (done : Finished V) → x.finished ≡ Some done → done ≡ nothing_made

    pub open_right : (x : Account V) → x.finished ≡ None → Right x
    open_right x o = record { faithful = λ k done e. absurd (closed x.finished done o e); bare = λ k done e. absurd (closed x.finished done o e) }

    pub opened_right : Right (opened m)
    opened_right = open_right (opened m) refl

    pub bare_made : (mode : SynthesisMode) (x : Account V) → (KeepsMatrices mode → ⊥) → made_in m mode x ≡ nothing_made
    bare_made Setup x h = absurd (h tt)
    bare_made (Prove true) x h = absurd (h tt)
    bare_made (Prove false) x h = refl

    pub kept_long : (x : Account V) → length x.instances.kept ≡ x.instances.count → length x.witnesses.kept ≡ x.witnesses.count
        → length (kept_of m x) ≡ x.instances.count + x.witnesses.count
    kept_long x i j = length-map (x.instances.kept ++ x.witnesses.kept) m.stands ∙ length-append x.instances.kept x.witnesses.kept ∙ ap₂ ◌+◌ i j

    -- the values worked out for the added witnesses are those of the lists that they stand for
    pub added_worths : (x : Account V) → Known x.instances.count x.witnesses.count x.given
        → length x.instances.kept ≡ x.instances.count → length x.witnesses.kept ≡ x.witnesses.count
        → map m.stands (added_values m x.instances.kept x.witnesses.kept (finish_of m x).outlined)
        ≡ combination_worths m x.instances.count x.given (map (λ o. o.entry) (finish_of m x).outlined) (kept_of m x)
    added_worths x known i j =
        let rule = rule_of m x.goal (lists x.given) in
        subst₂ (λ a b. Known a b x.given
        → map m.stands (added_values m x.instances.kept x.witnesses.kept (finish m rule b (lists x.given)).outlined)
        ≡ combination_worths m a x.given (map (λ o. o.entry) (finish m rule b (lists x.given)).outlined) (kept_of m x))
        i j (added_stand keeps rule x.instances.kept x.witnesses.kept x.given) known

    module _ (cs : List (Row (List (Term V)))) (x : Account V) (s : Keeping m cs x) where
      abbrev n : ℕ
      n = x.instances.count

      abbrev w : ℕ
      w = x.witnesses.count

      abbrev rule : Rule V
      rule = rule_of m x.goal (lists x.given)

      -- the account that finalising makes
      abbrev ended : Finished V → Account V
      ended done = with_finished x (Some done)

      -- where the added values are those of the combinations, Marlin's condition fails first where the constraints do
      kept_marlin : (done : Finished V) → WellFormed n w x.given (constraints x.given) done.lists done.combinations → FailsAlike m n w x.given (constraints x.given) done.lists done.combinations
          → map m.stands done.added ≡ combination_worths m n x.given done.combinations (kept_of m x) → length x.instances.kept ≡ n → length x.witnesses.kept ≡ w → (answer : Option ℕ)
          → FirstFailing (Marlin m (all_kept_of m x done)) (map (each (cells m n)) (rows_of x done)) answer ↔ FirstFailing (Holds m) (constraints_kept m x (constraints x.given)) answer
      kept_marlin done formed alike added i j answer =
          let long : length (kept_of m x) ≡ n + w = kept_long x i j in
          let more : length (map m.stands done.added) ≡ length done.combinations = ap length added ∙ length-map done.combinations _ in
          let whole : length (all_kept_of m x done) ≡ n + (w + length done.combinations) = omega (arith, long, more, length-append (kept_of m x) (map m.stands done.added)) in
          let first_one : get_or (all_kept_of m x done) 0 zero ≡ one
          = ap (λ l. get_or (map m.stands (l ++ x.witnesses.kept) ++ map m.stands done.added) 0 zero) s.begins.1 ∙ keeps.one_stands in
          let by_worth = matrices_exact keeps n (w + length done.combinations) (rows_of x done) formed.rows_symbol_free (all_kept_of m x done) whole first_one answer in
          let alike' = (alike (kept_of m x) long).same answer in
          let same : rows_at m n (all_kept_of m x done) (rows_of x done) ≡ rows_at m n (kept_of m x ++ combination_worths m n x.given done.combinations (kept_of m x)) (rows_of x done)
          = ap (λ vs. rows_at m n (kept_of m x ++ vs) (rows_of x done)) added in (
            λ h. alike'.0 (subst (λ rs. FirstFailing (Holds m) rs answer) same (by_worth.0 h)),
            λ h. by_worth.1 (subst (λ rs. FirstFailing (Holds m) rs answer) (sym same) (alike'.1 h)),
          )

      made_with : (added : List V) → ((KeepsValues x.mode → ⊥) → added ≡ [])
          → (KeepsValues x.mode → map m.stands added ≡ combination_worths m n x.given (map (λ o. o.entry) (finish_of m x).outlined) (kept_of m x))
          → Faithful m (ended (made m added x)) (constraints x.given) (made m added x)
      made_with added none h =
          let formed = well_formed keeps rule n w x.given s.known in
          let alike = fails_alike keeps rule n w x.given s.known in
          record {
            formed = formed;
            outlined = outlines m rule w x.given;
            weight_alone = λ g. ap (map (λ o. o.entry)) (none_outlined m w (lists x.given) x.goal g);
            plain = All-map (λ k. slice_get (marks x.given) k ≡ Some Plain) (λ o. o.entry) (finish_of m x).outlined (outlined_plain m n w x.given s.known x.goal);
            rises = finished_rise m rule w (lists x.given);
            vectors = exact keeps rule n w x.given s.known;
            fails_alike = alike;
            no_added = none;
            added = h;
            kept_fails = λ k answer. kept_marlin (made m added x) formed alike (h k) (s.instances_kept k) (s.witnesses_kept k) answer;
          }

      -- what finalising makes is faithful, by mode
      made_right : (mode : SynthesisMode) → x.mode ≡ mode → KeepsMatrices mode → Faithful m (ended (made_in m mode x)) (constraints x.given) (made_in m mode x)
      made_right Setup e k = made_with [] (λ _. refl) (λ v. absurd (subst KeepsValues e v))
      made_right (Prove true) e k = made_with _ (λ empty. absurd (empty (subst KeepsValues (sym e) tt))) (λ v. added_worths x s.known (s.instances_kept v) (s.witnesses_kept v))
      made_right (Prove false) e k = absurd k

    pub right_changed : (cs : List (Row (List (Term V)))) (x : Account V) (e : Effect V) → builds x e ≡ true → Keeping m cs x → Right x → Right (changed m x e)
    right_changed cs x asks b s r = r
    right_changed cs x checks b s r = r
    right_changed cs x writes b s r = r
    right_changed cs x finalises b s r = record {
      faithful = λ k done e.
          let same : made_in m x.mode x ≡ done = cc in
          subst (λ d. Faithful m (changed m x finalises) (constraints x.given) d) same (made_right cs x s x.mode refl k);
      bare = λ k done e. let same : made_in m x.mode x ≡ done = cc in sym same ∙ bare_made x.mode x k;
    }
    right_changed cs x other b s r = open_right (changed m x other) (open_means x.finished b)

    -- the first row that fails the test is the first that does not hold
    first_next : (xs : List (Row Member)) (r : Row Member) (answer : Option ℕ) → Holds m r → FirstFailing (Holds m) xs answer → FirstFailing (Holds m) (r ∷ xs) (option_map suc answer)
    first_next xs r None h f = (h, f)
    first_next xs r (Some j) h f = (h, f)

    pub failing_right : (rs : List (Row V)) → FirstFailing (Holds m) (map (each m.stands) rs) (failing m rs)
    failing_right [] = tt
    failing_right (r ∷ rs) =
        cond_both (m.same (m.times r.a r.b) r.c) _ _ (FirstFailing (Holds m) (map (each m.stands) (r ∷ rs)))
        (λ e. first_next (map (each m.stands) rs) (each m.stands r) (failing m rs) (sym (keeps.times_stands r.a r.b) ∙ keeps.same_means _ _ e) (failing_right rs))
        (λ e h. true≢false (sym (keeps.means_same _ _ (keeps.times_stands r.a r.b ∙ h)) ∙ e))

    or_zero_some : (vs : List V) → map (or_zero m) (map Some vs) ≡ vs
    or_zero_some [] = refl
    or_zero_some (v ∷ vs) = ap (λ l. v ∷ l) (or_zero_some vs)

    pub or_zero_means : (o : Option V) (a : Member) → Means m o a → m.stands (or_zero m o) ≡ a
    or_zero_means o a h = ap (λ p. m.stands (or_zero m p)) h.1 ∙ h.2

    -- a circuit whose values are kept
    module _ (x : Account V) (s : Valued x) (k : KeepsValues x.mode) where
      abbrev instances : ℕ
      instances = x.instances.count

      abbrev table : List (Option V)
      table = filled m x.instances.kept x.witnesses.kept (lists x.given)

      -- the work table has a value for each list, and it stands for the list's worth
      worked_out : (vs : List V) × (table ≡ map Some vs) × (map m.stands vs ≡ worths m instances (kept_of m x) (lists x.given))
      worked_out =
          let known = subst₂ (λ a b. Known a b x.given) (sym (s.instances_kept k)) (sym (s.witnesses_kept k)) s.known in
          let got = work_stands keeps x.instances.kept x.witnesses.kept x.given known in
          (got.0, got.1, got.2 ∙ ap (λ i. worths m i (kept_of m x) (lists x.given)) (s.instances_kept k))

      -- of an open circuit a check reads the constraints as written
      open_read : map (each m.stands) (values_of m x None) ≡ constraints_kept m x (constraints x.given)
      open_read =
          let got = worked_out in
          let starts = starts_from 0 (marks x.given) in
          let read_off : map m.stands (map (or_zero m) table) ≡ worths m instances (kept_of m x) (lists x.given)
          = ap (λ t. map m.stands (map (or_zero m) t)) got.1 ∙ ap (map m.stands) (or_zero_some got.0) ∙ got.2 in
          rows_each m.stands m.zero _ starts ∙ ap₂ (λ d xs. map (row_at d xs) starts) keeps.zero_stands read_off
          ∙ sym (constraints_worths keeps instances x.witnesses.count x.given s.known (kept_of m x))

      -- of a finished one its rows
      module _ (done : Finished V) (long : length done.added ≡ length done.combinations) where
        abbrev all_values : List Member
        all_values = all_kept_of m x done

        abbrev worked : List (Term V) → V
        worked ts = or_zero m (evaluated m (read m x.instances.kept (x.witnesses.kept ++ done.added) []) ts)

        list_read : (ts : List (Term V)) → Only (SymbolFree instances (x.witnesses.count + length done.combinations)) ts
            → m.stands (worked ts) ≡ worth m (value m instances all_values []) ts
        list_read ts h =
            let h' = subst₂ (λ i j. Only (SymbolFree i j) ts) (sym (s.instances_kept k)) (ap₂ ◌+◌ (sym (s.witnesses_kept k)) (sym long)) h in
            or_zero_means _ _ (merged_means keeps x.instances.kept x.witnesses.kept done.added ts h')
            ∙ ap (λ i. worth m (value m i all_values []) ts) (s.instances_kept k)

        rows_read : (rs : List (Row (List (Term V)))) → AllByRecursion (SymbolFreeRow instances (x.witnesses.count + length done.combinations)) rs
            → map (each m.stands) (map (each worked) rs) ≡ rows_at m instances all_values rs
        rows_read [] h = refl
        rows_read (r ∷ rs) h =
            ap₂ (λ y ys. y ∷ ys) (λ i. record { a = list_read r.a h.0.0 i; b = list_read r.b h.0.1 i; c = list_read r.c h.0.2 i }) (rows_read rs h.1)

      module _ (done : Finished V) (f : Faithful m x (constraints x.given) done) where
        as_many : length done.added ≡ length done.combinations
        as_many = sym (length-map done.added m.stands) ∙ ap length (f.added k) ∙ length-map done.combinations _

        finished_read : map (each m.stands) (values_of m x (Some done)) ≡ rows_at m instances (all_kept_of m x done) (rows_of x done)
        finished_read = rows_read done as_many (rows_of x done) f.formed.rows_symbol_free

        -- what a finished check answers, by worth
        finished_fails : FirstFailing (Holds m) (rows_at m instances (all_kept_of m x done) (rows_of x done)) (failing m (values_of m x (Some done)))
        finished_fails = subst (λ rs. FirstFailing (Holds m) rs (failing m (values_of m x (Some done)))) finished_read (failing_right (values_of m x (Some done)))

        -- .. by the constraints as written
        pub written_fails : FirstFailing (Holds m) (constraints_kept m x (constraints x.given)) (failing m (values_of m x (Some done)))
        written_fails =
            let answer = failing m (values_of m x (Some done)) in
            ((f.fails_alike (kept_of m x) (kept_long x (s.instances_kept k) (s.witnesses_kept k))).same answer).0
            (subst (λ vs. FirstFailing (Holds m) (rows_at m instances (kept_of m x ++ vs) (rows_of x done)) answer) (f.added k) finished_fails)

        -- .. and by Marlin's condition
        pub marlin_fails : FirstFailing (Marlin m (all_kept_of m x done)) (map (each (cells m instances)) (rows_of x done)) (failing m (values_of m x (Some done)))
        marlin_fails = (f.kept_fails k (failing m (values_of m x (Some done)))).1 written_fails

      -- whether the circuit is open or finished with its matrices
      pub reads_fail : (o : Option (Finished V)) → ((done : Finished V) → o ≡ Some done → Faithful m x (constraints x.given) done) → FirstFailing (Holds m) (constraints_kept m x (constraints x.given)) (failing m (values_of m x o))
      reads_fail None f = subst (λ rs. FirstFailing (Holds m) rs (failing m (values_of m x None))) open_read (failing_right (values_of m x None))
      reads_fail (Some done) f = written_fails done (f done refl)

      -- of an open circuit a known variable has a value, which stands for its worth
      pub value_means : x.finished ≡ None → (v : Variable) → KnownVariable instances x.witnesses.count (marks x.given) v
          → Means m (value_of m x v) (value m instances (kept_of m x) (worths m instances (kept_of m x) (lists x.given)) v)
      value_means unfinished v h =
          let got = worked_out in
          let vs = got.0 in
          let i = s.instances_kept k in
          let long : length (marks x.given) ≡ length vs
          = length-map x.given _ ∙ sym (length-map x.given (λ g. g.terms)) ∙ omega (arith, worths_long keeps instances (kept_of m x) [] (lists x.given), ap length got.2, length-map vs m.stands) in
          let reads = read_means keeps x.instances.kept x.witnesses.kept vs (marks x.given) long v (subst₂ (λ a b. KnownVariable a b (marks x.given) v) (sym i) (sym (s.witnesses_kept k)) h) in
          let stands = subst₂ (λ a ws. Means m (read m x.instances.kept x.witnesses.kept (map Some vs) v) (value m a (kept_of m x) ws v)) i got.2 reads in
          subst (λ o. Means m o (value m instances (kept_of m x) (worths m instances (kept_of m x) (lists x.given)) v)) (sym (value_read m x unfinished v h ∙ ap (λ t. read m x.instances.kept x.witnesses.kept t v) got.1)) stands

    -- an accepted check, by mode
    pub check_keeps : (mode : SynthesisMode) (x : Account V) → Checkable mode x → KeepsValues mode
    check_keeps Setup x h = absurd h
    check_keeps (Prove matrices) x h = tt

    -- the answer names the first constraint that fails as written
    pub check_right : (x : Account V) → Valued x → Right x → (mode : SynthesisMode) → x.mode ≡ mode → Checkable mode x
        → FirstFailing (Holds m) (constraints_kept m x (constraints x.given)) (failing_of m mode x)
    check_right x s r Setup e h = absurd h
    check_right x s r (Prove true) e h = reads_fail x s (subst KeepsValues (sym e) tt) x.finished (r.faithful (subst KeepsMatrices (sym e) tt))
    check_right x s r (Prove false) e h =
        let none_written = s.bare (λ k. subst KeepsMatrices e k) in
        subst (λ rs. AllByRecursion (Holds m) (map (each (worth m (value m x.instances.count (kept_of m x) (worths m x.instances.count (kept_of m x) (lists x.given))))) rs)) (sym none_written) tt

    pub check_marlin : (x : Account V) → Valued x → Right x → (mode : SynthesisMode) → x.mode ≡ mode → Checkable mode x
        → KeepsMatrices mode → (done : Finished V) → x.finished ≡ Some done
        → FirstFailing (Marlin m (all_kept_of m x done)) (map (each (cells m x.instances.count)) (rows_of x done)) (failing_of m mode x)
    check_marlin x s r Setup e h j done f = absurd h
    check_marlin x s r (Prove true) e h j done f =
        subst (λ o. FirstFailing (Marlin m (all_kept_of m x done)) (map (each (cells m x.instances.count)) (rows_of x done)) (failing m (values_of m x o))) (sym f)
        (marlin_fails x s (subst KeepsValues (sym e) tt) done (r.faithful (subst KeepsMatrices (sym e) tt) done f))
    check_marlin x s r (Prove false) e h j done f = absurd j
