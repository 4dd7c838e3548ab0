-- What accepted finalising leaves: sound tables that show the account of the finished circuit. Assumes nothing.
use Rattle.std.proofs.Common.{◌≡◌, ℕ, ◌+◌, ◌≤◌, true, false, ◌++◌, length, drop, Some, None, Ok, sym, refl, ap, ◌∙◌, subst, arith}
use lib.ListN.{length-map}
use Rattle.std.specs.List.{AllByRecursion}
use Rattle.field.specs.Laws.{Model, Keeps}
use Rattle.variables.specs.Evaluate.{SymbolFree}
use Rattle.account.specs.declared.SynthesisMode.{SynthesisMode}
use Rattle.account.specs.declared.SynthesisMode.TheVariants.{Setup, Prove}
use Rattle.account.specs.Given.{lists}
use Rattle.account.specs.Finish.{Outlined, Stage, untaken, places, finish_within}
use Rattle.account.specs.Rows.{constraints, row_marks}
use Rattle.account.specs.Account.{Account, KeepsMatrices, KeepsValues, added_given, with_finished, rule_of, finish_of, made_in}
use Rattle.account.specs.Refusals.{room_of, start_of, stages_of}
use Rattle.account.specs.Laws.{WellFormed}
use Rattle.account.specs.Sound.{SoundLists}
use Rattle.account.specs.Finished.{Leaves}
use Rattle.account.proofs.Counts.{Only}
use Rattle.account.proofs.Accepts.{for_values, with_values}
use Rattle.account.proofs.Finalises.{finalised_formed}
use Rattle.account.proofs.Leaves.{counts_left}
use Rattle.account.proofs.SoundLists.{beside, open_lists, rows_sound}
use Rattle.tables.specs.Held.{Held, State, lengths, room, counted, KeepsBeyond}
use Rattle.tables.specs.Sound.{given_of, kept_instances, account_of, SoundTables}
use Rattle.tables.specs.Follows.{Shows}
use Rattle.tables.proofs.Holds.{many_given}
use Rattle.finishing.specs.Sound.{SoundFinished}
use Rattle.finishing.specs.Finalising.{stages_in, outlined_in, Finalised}
use Rattle.finishing.specs.Follows.{ShowsFinished}
use Rattle.finishing.proofs.Decodes.{left_in, picked, made, stages_within, same_many, terms_used, entries_fit, finished_after, given_after, given_within, finished_within}

module _ {V : Type 0} (m : Model V) (s : State V) (shows : Shows s (account_of s)) where
  -- the steps over tables that show their account are those of the account
  pub stages_same : stages_in m s ≡ stages_of m (lengths s.tables) (account_of s)
  stages_same =
      let x = account_of s in
      let used : s.counts.terms ≡ places (lists (given_of s)) = omega (arith, shows.terms) in
      ap (λ u. finish_within m (rule_of m x.goal (lists x.given)) (room_of (lengths s.tables) x) (start_of x) (record { lists = untaken; used = u }) (lists x.given))
      used

module _ {V : Type 0} (m : Model V) (s : State V) where
  -- where matrices are kept, what is made has the finished lists, and those of the added rows beside
  made_lists : (mode : SynthesisMode) → KeepsMatrices mode → made m s ≡ (made_in m mode (account_of s)).lists
  made_lists Setup k = refl
  made_lists (Prove true) k = refl
  made_lists (Prove false) k = absurd k

  made_beside : (mode : SynthesisMode) → KeepsMatrices mode
      → let j = length (given_of s) in beside (row_marks (picked m s)) (drop j (made m s)) ≡ added_given j (Some (made_in m mode (account_of s)))
  made_beside Setup k = refl
  made_beside (Prove true) k = refl
  made_beside (Prove false) k = absurd k

module _ {V : Type 0} {m : Model V} (keeps : Keeps m) (s : State V) (shows : Shows s (account_of s)) (end : Stage V) (e : stages_in m s ≡ Ok end)
    (h : Held V) (beyond : KeepsBeyond s.tables h) (fin : Finalised m s (left_in m s h)) (k : KeepsMatrices s.counts.mode) where
  abbrev t : State V
  t = left_in m s h

  abbrev x : Account V
  x = account_of s

  abbrev n : ℕ
  n = s.counts.instances

  abbrev w : ℕ
  w = s.counts.witnesses

  abbrev added : ℕ
  added = outlined_in m s

  many : length (picked m s) ≡ added
  many = length-map (finish_of m x).outlined (λ (o : Outlined V). o.entry)

  formed : WellFormed n w x.given (constraints x.given) (made m s) (picked m s)
  formed = finalised_formed keeps (rule_of m x.goal (lists x.given)) n w x.given shows.sound.lists.known

  lists_sound : SoundLists s.counts.mode n (w + added) (s.counts.constraints + added) (given_of t) None
  lists_sound =
      let all = rows_sound s.counts.mode n w s.counts.constraints x.given (made m s) (picked m s) k shows.sound.lists formed in
      let same = given_after m s shows.sound end e h fin in
      subst (λ g. SoundLists s.counts.mode n (w + added) (s.counts.constraints + added) g None) (sym same)
      (subst (λ i. SoundLists s.counts.mode n (w + i) (s.counts.constraints + i) (x.given ++ beside (row_marks (picked m s)) (drop (length x.given) (made m s))) None)
      many
      (open_lists s.counts.mode _ _ _ _ all.known all.triples all.bare))

  witnesses_fit : KeepsValues s.counts.mode → w + added ≤ room s.tables.witnesses
  witnesses_fit v =
      let within = stages_within m s shows.sound end e in
      let room = with_values s.counts.mode w (length s.tables.witnesses) (shows.sound.witnesses v) v in
      let free = for_values s.counts.mode _ (length s.tables.witnesses) (within.witnesses_fit room) v in
      omega (arith, free, same_many m s shows.sound end e)

  tables_sound : SoundTables t
  tables_sound = record {
    terms =
        let within = stages_within m s shows.sound end e in
        omega (arith, terms_used m s shows.sound end e, within.terms_fit shows.sound.terms, beyond.terms.length);
    entries = omega (arith, entries_fit m s shows.sound end e h fin, beyond.index.length);
    first = λ setup. omega (arith, shows.sound.first setup, beyond.instances.length);
    instances = λ v. omega (arith, shows.sound.instances v, beyond.instances.length);
    witnesses = λ v. omega (arith, witnesses_fit v, beyond.witnesses.length);
    spans = given_within m s shows.sound end e h fin;
    lists = lists_sound;
  }

  finished_sound : SoundFinished t
  finished_sound = record {
    given = tables_sound;
    spans = λ _. finished_within m s shows.sound end e h fin;
    symbol_free = λ _.
        subst (AllByRecursion (Only (SymbolFree n (w + added)))) (sym (finished_after m s shows.sound end e h fin))
        (subst (λ i. AllByRecursion (Only (SymbolFree n (w + i))) (made m s)) many formed.symbol_free);
  }

  -- the tables show what finalising makes of the account
  pub shows_made : let x = account_of s in let done = made_in m x.mode x in ShowsFinished (left_in m s h) (with_finished x (Some done)) done
  shows_made =
      let left : Leaves m x end = counts_left m (lengths s.tables) x end k (sym (stages_same m s shows) ∙ e) in
      let same = same_many m s shows.sound end e in
      record {
        sound = finished_sound;
        mode = refl;
        goal = refl;
        instance_count = refl;
        witnesses_counted = ap (λ i. w + i) (sym same) ∙ sym left.witnesses;
        constraints = ap (λ i. s.counts.constraints + i) (sym same) ∙ sym left.constraints;
        entries = omega (arith, many_given s shows.sound.entries, same, left.entries);
        terms = terms_used m s shows.sound end e ∙ sym left.terms;
        instances = ap (λ l. kept_instances s.counts.mode n (counted l)) fin.instances;
        witnesses = fin.witnesses;
        given = given_after m s shows.sound end e h fin ∙ ap (λ g. x.given ++ g) (made_beside m s s.counts.mode k);
        finished = λ _. finished_after m s shows.sound end e h fin ∙ made_lists m s s.counts.mode k;
        bare = λ bare. absurd (bare k);
      }
