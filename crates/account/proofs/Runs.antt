-- The main promise, over any run. Assumes nothing.
use Rattle.std.proofs.Common.{◌≡◌, ℕ, ◌+◌, true, false, List, [], ◌∷◌, ◌++◌, map, length, Some, None, Ok, Err, Result, sym, refl, ap, ◌∙◌, subst, ap₂, inl, inr, append_assoc, arith}
use Rattle.std.specs.List.{slice_get}
use Rattle.std.proofs.lemmas.List.{nil_from_length}
use Rattle.std.specs.Result.{result_ok}
use Rattle.field.specs.Laws.{Model, Keeps}
use Rattle.variables.specs.declared.Variable.{Variable}
use Rattle.variables.specs.declared.Variable.TheVariants.{Instance, Witness, SymbolicLc}
use Rattle.variables.specs.declared.Term.{Term}
use Rattle.variables.specs.Refusals.{Told}
use Rattle.account.specs.declared.SynthesisMode.{SynthesisMode}
use Rattle.account.specs.declared.SynthesisMode.TheVariants.{Setup, Prove}
use Rattle.variables.specs.declared.SynthesisError.{SynthesisError}
use Rattle.account.specs.declared.Mark.TheVariants.{Plain}
use Rattle.account.specs.Given.{lists, marked}
use Rattle.account.specs.Rows.{Row, each, constraints, FirstFailing, Holds, constraints_at, cells, Marlin, Matrices}
use Rattle.account.specs.Account.{Finished, Account, KeepsMatrices, KeepsValues, HasValue, kept_value, builds, Checkable, Allows, rows_of, opened, all_kept_of, constraints_kept, made_in, changed, failing_of, value_of, matrices_from, matrices_in, matrices_of}
use Rattle.account.specs.Calls.{Call, new_input_variable, new_witness_variable, new_lc, which_is_unsatisfied, assigned_value, finalize, to_matrices, Answer, unit, named, unsatisfied, assigned, written, Event, accepted, effect_of, accepted_constraints, accepted_instances, accepted_witnesses, answer_of, after_answer, after, after_all, account}
use Rattle.account.specs.Run.{Lawful, Run}
use Rattle.account.specs.Laws.{WellFormed, ReadsBack, Admits}
use Rattle.account.specs.Promise.{Accepted, Faithful, Checks, Questions, CountsWritten, Writes, Writings, AnyRefusals, GivenKnown, WrittenCounted, ChecksByMatrices, ChecksAgree}
use Rattle.account.proofs.ReadsBack.{read_back}
use Rattle.account.proofs.Finalises.{one_each}
use Rattle.account.proofs.Sounds.{Keeping}
use Rattle.account.proofs.Contents.{totals, Brought, opened_brought, event_brought, log_brought, kept_so}
use Rattle.account.proofs.Extends.{slice_get_there, Extends, run_extends}
use Rattle.account.proofs.SoundLists.{account_sound}
use Rattle.account.proofs.Values.{finished_means, closed, left_alone, valued_in_run, Right, opened_right, right_changed, value_means, check_keeps, check_right, check_marlin}
use Rattle.account.proofs.Questions.{few_kept, open_found, finished_found}

abbrev Constraints : Type 0 → Type 0
Constraints V = List (Row (List (Term V)))

module _ {V : Type 0} where
  module _ {m : Model V} (keeps : Keeps m) where
    right_event : (past : List (Event V)) (x : Account V) (call : Call V) (answer : Result (Answer V) Told) → Lawful m x call answer → Brought m (totals past) x → Right keeps x
        → Right keeps (after_answer m answer x (effect_of call))
    right_event past x call (Ok a) ok b r = right_changed keeps (accepted_constraints past) x (effect_of call) ok.0 (kept_so m (totals past) x b) r
    right_event past x call (Err f) ok b r = r

    right_run : (log past : List (Event V)) (x : Account V) → Run m x log → Brought m (totals past) x → Right keeps x → Right keeps (after_all m x log)
    right_run [] past x run b r = r
    right_run (e ∷ es) past x run b r =
        right_run es (past ++ e ∷ []) (after m x e) run.1 (event_brought m past x e.call e.answer run.0 b) (right_event past x e.call e.answer run.0 b r)

    log_right : (log : List (Event V)) → Run m (opened m) log → Right keeps (account m log)
    log_right log run = right_run log [] (opened m) run (opened_brought m) (opened_right keeps)

    log_kept : (log : List (Event V)) → Run m (opened m) log → Keeping m (accepted_constraints log) (account m log)
    log_kept log run = kept_so m (totals log) (account m log) (log_brought m log run)

    pub run_past : (past rest : List (Event V)) (x : Account V) → Run m x (past ++ rest) → Run m x past
    run_past [] rest x run = tt
    run_past (e ∷ past) rest x run = (run.0, run_past past rest (after m x e) run.1)

    -- what a call owes, at its place in a run
    owed : (past future : List (Event V)) (e : Event V) (x : Account V) → Run m x (past ++ e ∷ future) → Lawful m (after_all m x past) e.call e.answer
    owed [] future e x run = run.0
    owed (a ∷ past) future e x run = owed past future e (after m x a) run.1

    run_future : (past future : List (Event V)) (e : Event V) (x : Account V) → Run m x (past ++ e ∷ future) → Run m (after m (after_all m x past) e) future
    run_future [] future e x run = run.1
    run_future (a ∷ past) future e x run = run_future past future e (after m x a) run.1

    pub after_append : (past rest : List (Event V)) (x : Account V) → after_all m x (past ++ rest) ≡ after_all m (after_all m x past) rest
    after_append [] rest x = refl
    after_append (e ∷ past) rest x = after_append past rest (after m x e)

    -- what the account has after a call it has at the end
    after_log : (past future : List (Event V)) (e : Event V) (x : Account V) (log : List (Event V)) → log ≡ past ++ e ∷ future → Run m x log
        → Extends (after m (after_all m x past) e) (after_all m x log)
    after_log past future e x log at run =
        subst (Extends (after m (after_all m x past) e)) (sym (ap (after_all m x) at ∙ after_append past (e ∷ future) x))
        (run_extends m future (after m (after_all m x past) e) (run_future past future e x (subst (Run m x) at run)))

    -- what holds where a call of the run was accepted
    record Met (log past : List (Event V)) (call : Call V) (answer : Answer V) : Type 0 where
      sound : Keeping m (accepted_constraints past) (account m past)
      right : Right keeps (account m past)
      built : builds (account m past) (effect_of call) ≡ true
      allowed : Allows (account m past) (effect_of call)
      answers : answer ≡ answer_of m (account m past) call
      brought : Brought m (totals past) (account m past)
      grows : Extends (changed m (account m past) (effect_of call)) (account m log)

    met : (log past : List (Event V)) (call : Call V) (answer : Answer V) → Run m (opened m) log → Accepted m log past call answer → Met log past call answer
    met log past call answer run at =
        let run' = subst (Run m (opened m)) at.1 run in
        let before = run_past past (accepted call answer ∷ at.0) (opened m) run' in
        let ok = owed past at.0 (accepted call answer) (opened m) run' in
        record {
          sound = log_kept past before;
          right = log_right past before;
          built = ok.0;
          allowed = ok.1;
          answers = ok.2;
          brought = log_brought m past before;
          grows = after_log past at.0 (accepted call answer) (opened m) log at.1 run;
        }

    -- where a check is accepted the constraints among the lists are all that were accepted
    all_listed : (cs : Constraints V) (x : Account V) → Keeping m cs x → (mode : SynthesisMode) → x.mode ≡ mode → Checkable mode x → constraints x.given ≡ cs
    all_listed cs x s Setup e h = absurd h
    all_listed cs x s (Prove true) e h = s.as_written (subst KeepsMatrices (sym e) tt)
    all_listed cs x s (Prove false) e h = s.bare (λ k. subst KeepsMatrices e k) ∙ sym (nil_from_length cs (sym s.counted ∙ h))

    module _ (past : List (Event V)) where
      abbrev x : Account V
      x = account m past

      -- .. by the lists of the account
      listed_check : Keeping m (accepted_constraints past) x → Right keeps x → Checkable x.mode x → FirstFailing (Holds m) (constraints_kept m x (constraints x.given)) (failing_of m x.mode x)
      listed_check s r ok = check_right keeps x (valued_in_run m (accepted_constraints past) x s) r x.mode refl ok

      -- what the answer to each call says
      said_check : Keeping m (accepted_constraints past) x → Right keeps x → Checkable x.mode x → Checks m past (unsatisfied (failing_of m x.mode x))
      said_check s r ok = record {
        answer = failing_of m x.mode x;
        is = refl;
        fails_first = subst (λ cs. FirstFailing (Holds m) (constraints_kept m x cs) (failing_of m x.mode x)) (all_listed (accepted_constraints past) x s x.mode refl ok) (listed_check s r ok);
        by_matrices = λ k done e. check_marlin keeps x (valued_in_run m (accepted_constraints past) x s) r x.mode refl ok k done e;
      }

      said_question : (v : Variable) → Keeping m (accepted_constraints past) x → Questions m past v (assigned (value_of m x v))
      said_question v s = record {
        answer = value_of m x v;
        is = refl;
        while_open = λ o. open_found keeps x o s.known (few_kept m (accepted_constraints past) x s x.mode refl) v;
        while_kept = λ o k known. value_means keeps x (valued_in_run m (accepted_constraints past) x s) k o v known;
        when_finished = λ done e. finished_found keeps x done e v;
      }

      -- what is written, by mode
      is_written : (mode : SynthesisMode) (done : Finished V) → KeepsMatrices mode → matrices_in m mode x done ≡ Some (matrices_from m x done)
      is_written Setup done k = refl
      is_written (Prove true) done k = refl
      is_written (Prove false) done k = absurd k

      not_written : (mode : SynthesisMode) (done : Finished V) → (KeepsMatrices mode → ⊥) → matrices_in m mode x done ≡ None
      not_written Setup done k = absurd (k tt)
      not_written (Prove true) done k = absurd (k tt)
      not_written (Prove false) done k = refl

      -- the matrices of a circuit that is finished with them
      module _ (s : Keeping m (accepted_constraints past) x) (r : Right keeps x) (b : Brought m (totals past) x) (k : KeepsMatrices x.mode) (done : Finished V) (e : x.finished ≡ Some done) where
        abbrev counted : Matrices V
        counted = matrices_from m x done

        formed : WellFormed x.instances.count x.witnesses.count x.given (constraints x.given) done.lists done.combinations
        formed = (r.faithful k done e).formed

        back : ReadsBack m x.instances.count (x.witnesses.count + length done.combinations) (rows_of x done)
        back = read_back m x.instances.count (x.witnesses.count + length done.combinations) (rows_of x done)

        counts_written : CountsWritten past done counted
        counts_written = record {
          instances = b.instances;
          witnesses = ap (λ i. i + length done.combinations) b.witnesses;
          rows = formed.rows_counted ∙ ap (λ (cs : Constraints V). length cs + length done.combinations) (s.as_written k);
          cells = back.counts;
        }

        writes : Writes m past counted
        writes = record {
          done = done;
          finished = e;
          exactly = refl;
          counts = counts_written;
          reads = back.rows;
          vectors = subst (Admits m x.instances.count x.witnesses.count x.given (accepted_constraints past) done.combinations) (sym back.rows)
              (subst (λ cs. Faithful m x cs done) (s.as_written k) (r.faithful k done e)).vectors;
        }

      said_writing : Keeping m (accepted_constraints past) x → Right keeps x → Brought m (totals past) x → (done : Finished V) → x.finished ≡ Some done → Writings m past (written (matrices_of m x x.finished))
      said_writing s r b done e = record {
        answer = matrices_of m x x.finished;
        is = refl;
        of_finished = λ o. closed x.finished done o e;
        kept = λ k. (matrices_from m x done, ap (matrices_of m x) e ∙ is_written x.mode done k, writes s r b k done e);
        bare = λ k. ap (matrices_of m x) e ∙ not_written x.mode done k;
      }

      kept_one : (mode : SynthesisMode) (value : V) → KeepsValues mode → kept_value mode (Some value) ≡ value ∷ []
      kept_one Setup value k = absurd k
      kept_one (Prove matrices) value k = refl

      -- outside Setup an accepted naming was handed a value
      handed_value : (mode : SynthesisMode) (handed : Result V SynthesisError) → HasValue mode (result_ok handed) → KeepsValues mode → (value : V) × (handed ≡ Ok value)
      handed_value Setup handed h k = absurd k
      handed_value (Prove matrices) (Ok value) h k = (value, refl)
      handed_value (Prove matrices) (Err e) h k = absurd h

    module _ (log past : List (Event V)) where
      abbrev before : Account V
      before = account m past

      abbrev after_log_is : Account V
      after_log_is = account m log

      -- what a call named is what was handed in
      met_list : (ts : List (Term V)) (a : Answer V) → Met log past (new_lc ts) a
          → let k = length before.given in (a ≡ named (SymbolicLc (record { 0 = k }))) × (slice_get after_log_is.given k ≡ Some (marked Plain ts))
      met_list ts a h =
          let more = h.grows.given in
          let whole : after_log_is.given ≡ before.given ++ marked Plain ts ∷ more.0 = more.1 ∙ append_assoc before.given (marked Plain ts ∷ []) more.0 in
          (h.answers, ap (λ l. slice_get l (length before.given)) whole ∙ slice_get_there before.given (marked Plain ts) more.0)

      met_instance : (handed : Result V SynthesisError) (a : Answer V) → Met log past (new_input_variable handed) a
          → let i = 1 + length (accepted_instances past) in
          (a ≡ named (Instance i)) × (KeepsValues after_log_is.mode → (value : V) × (handed ≡ Ok value) × (slice_get after_log_is.instances.kept i ≡ Some value))
      met_instance handed a h = (
        h.answers ∙ ap (λ i. named (Instance i)) h.brought.instances,
        λ k.
            let more = h.grows.instances in
            let some = h.sound.some_instance in
            let keep : KeepsValues before.mode = subst KeepsValues (h.grows.mode (inl (omega arith))) k in
            let got = handed_value past before.mode handed h.allowed keep in
            let value = got.0 in
            let here : kept_value before.mode (result_ok handed) ≡ value ∷ [] = ap (λ (r : Result V SynthesisError). kept_value before.mode (result_ok r)) got.1 ∙ kept_one past before.mode value keep in
            let whole : after_log_is.instances.kept ≡ before.instances.kept ++ value ∷ more.0
            = more.1 ∙ ap (λ l. (before.instances.kept ++ l) ++ more.0) here ∙ append_assoc before.instances.kept (value ∷ []) more.0 in
            (value, got.1, ap₂ slice_get whole (sym (h.sound.instances_kept keep ∙ h.brought.instances)) ∙ slice_get_there before.instances.kept value more.0),
      )

      met_witness : (handed : Result V SynthesisError) (a : Answer V) → Met log past (new_witness_variable handed) a
          → let i = length (accepted_witnesses past) in
          (a ≡ named (Witness i)) × (KeepsValues after_log_is.mode → (value : V) × (handed ≡ Ok value) × (slice_get after_log_is.witnesses.kept i ≡ Some value))
      met_witness handed a h = (
        h.answers ∙ ap (λ i. named (Witness i)) h.brought.witnesses,
        λ k.
            let more = h.grows.witnesses in
            let keep : KeepsValues before.mode = subst KeepsValues (h.grows.mode (inr (omega arith))) k in
            let got = handed_value past before.mode handed h.allowed keep in
            let value = got.0 in
            let here : kept_value before.mode (result_ok handed) ≡ value ∷ [] = ap (λ (r : Result V SynthesisError). kept_value before.mode (result_ok r)) got.1 ∙ kept_one past before.mode value keep in
            let whole : after_log_is.witnesses.kept ≡ before.witnesses.kept ++ value ∷ more.0
            = more.1 ∙ ap (λ l. (before.witnesses.kept ++ l) ++ more.0) here ∙ append_assoc before.witnesses.kept (value ∷ []) more.0 in
            (value, got.1, ap₂ slice_get whole (sym (h.sound.witnesses_kept keep ∙ h.brought.witnesses)) ∙ slice_get_there before.witnesses.kept value more.0),
      )

      met_finishing : (a : Answer V) → Met log past finalize a → (a ≡ unit) × (after_log_is.finished ≡ Some (made_in m before.mode before))
      met_finishing a h = (h.answers, h.grows.finished _ refl)

      met_check : (work : ℕ) (a : Answer V) → Met log past (which_is_unsatisfied work) a → Checks m past a
      met_check work a h = subst (Checks m past) (sym h.answers) (said_check past h.sound h.right h.allowed)

      met_question : (work : ℕ) (v : Variable) (a : Answer V) → Met log past (assigned_value work v) a → Questions m past v a
      met_question work v a h = subst (Questions m past v) (sym h.answers) (said_question past v h.sound)

      met_writing : (cells ends : ℕ) (a : Answer V) → Met log past (to_matrices cells ends) a → Writings m past a
      met_writing cells' ends a h =
          let is = finished_means before.finished h.built in
          subst (Writings m past) (sym h.answers) (said_writing past h.sound h.right h.brought is.0 is.1)

    pub any_refusals : AnyRefusals m
    any_refusals log run =
        let sound = log_kept log run in
        let right = log_right log run in
        let brought = log_brought m log run in
        let at : (past : List (Event V)) (call : Call V) (a : Answer V) → Accepted m log past call a → Met log past call a = λ past call a is. met log past call a run is in
        record {
          known = sound.known;
          sound = account_sound keeps (accepted_constraints log) (account m log) sound right;
          lists_handed = brought.given;
          as_written = sound.as_written;
          bare = sound.bare;
          counted = sound.counted;
          named_counted = (brought.instances, brought.witnesses);
          last_set = (brought.mode, brought.goal);
          begins = sound.begins;
          in_setup = sound.in_setup;
          values_handed = λ k. (brought.kept_instances k, brought.kept_witnesses k);
          named_lists = λ past ts a is. met_list log past ts a (at past _ a is);
          named_instances = λ past handed a is. met_instance log past handed a (at past _ a is);
          named_witnesses = λ past handed a is. met_witness log past handed a (at past _ a is);
          finishes = λ past a is. met_finishing log past a (at past _ a is);
          unfinished = brought.unfinished;
          closed = λ past call a is done e. left_alone (account m past) (effect_of call) (at past call a is).built done e;
          faithful = λ k done e. subst (λ cs. Faithful m (account m log) cs done) (sound.as_written k) (right.faithful k done e);
          bare_finished = right.bare;
          answers = λ past call a is. (at past call a is).answers;
          checks = λ past work a is. met_check log past work a (at past _ a is);
          questions = λ past work v a is. met_question log past work v a (at past _ a is);
          writings = λ past cells ends a is. met_writing log past cells ends a (at past _ a is);
        }

    pub given_known : GivenKnown m
    given_known log run = (any_refusals log run).known

    -- matrices that were written, by mode
    was_written : (mode : SynthesisMode) (x : Account V) (answer : Matrices V) (done : Finished V) → Some answer ≡ matrices_in m mode x done → KeepsMatrices mode × (answer ≡ matrices_from m x done)
    was_written Setup x answer done e = (tt, cc)
    was_written (Prove true) x answer done e = (tt, cc)
    was_written (Prove false) x answer done e = absurd (let z : ◌≡◌ {A = ℕ} 0 1 = cc in omega arith)

    pub written_counted : WrittenCounted m
    written_counted log past cells' ends answer run is done e =
        let h = met log past (to_matrices cells' ends) (written (Some answer)) run is in
        let x = account m past in
        let answers = h.answers in
        let same : Some answer ≡ matrices_of m x x.finished = cc in
        let made = was_written x.mode x answer done (same ∙ ap (matrices_of m x) e) in
        subst (CountsWritten past done) (sym made.1) (counts_written past h.sound h.right h.brought made.0 done e)

    pub checks_by_matrices : ChecksByMatrices m
    checks_by_matrices log past work answer run is k done e =
        let said = (any_refusals log run).checks past work (unsatisfied answer) is in
        let x = account m past in
        let is' = said.is in
        let same : said.answer ≡ answer = cc in
        subst (FirstFailing (Marlin m (all_kept_of m x done)) (map (each (cells m x.instances.count)) (rows_of x done))) same (said.by_matrices k done e)

    pub checks_agree : ChecksAgree m
    checks_agree log log' past past' work work' a a' run run' is is' g i w =
        let h = met log past (which_is_unsatisfied work) a run is in
        let k = met log' past' (which_is_unsatisfied work') a' run' is' in
        let x = account m past in
        let y = account m past' in
        let n : x.instances.count ≡ y.instances.count
        = sym (h.sound.instances_kept (check_keeps keeps x.mode x h.allowed)) ∙ ap length i ∙ k.sound.instances_kept (check_keeps keeps y.mode y k.allowed) in
        let same : constraints_kept m x (constraints x.given) ≡ constraints_kept m y (constraints y.given)
        = λ t. constraints_at m (n t) (map m.stands (i t ++ w t)) (lists (g t)) (constraints (g t)) in
        let one = one_each keeps (constraints_kept m y (constraints y.given)) (failing_of m x.mode x) (failing_of m y.mode y)
        (subst (λ rs. FirstFailing (Holds m) rs (failing_of m x.mode x)) same (listed_check past h.sound h.right h.allowed)) (listed_check past' k.sound k.right k.allowed) in
        h.answers ∙ ap unsatisfied one ∙ sym k.answers
