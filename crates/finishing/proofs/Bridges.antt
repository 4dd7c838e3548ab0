-- The steps over what is in use come to what the definition over lists says. Assumes nothing.
use Rattle.std.proofs.Common.{◌≡◌, ℕ, suc, ◌+◌, ◌*◌, ◌≤◌, true, false, List, [], ◌∷◌, ◌++◌, map, length, take, drop, Ok, Err, Result, sym, refl, ap, ◌∙◌, subst, ap₂, subst₂, append-nil, arith, length-append, length-take}
use Rattle.std.specs.List.{AllByRecursion}
use Rattle.std.proofs.lemmas.List.{take_at, take-take, take-append-drop, length-take-le}
use Rattle.std.proofs.ByRecursion.{All-weaker}
use Rattle.field.specs.Laws.{Model, Keeps}
use Rattle.variables.specs.declared.Term.{Term}
use Rattle.variables.specs.Refusals.{Told}
use Rattle.account.specs.declared.SynthesisMode.{SynthesisMode}
use Rattle.account.specs.declared.SynthesisMode.TheVariants.{Setup, Prove}
use Rattle.account.specs.Given.{Given, lists}
use Rattle.account.specs.Finish.{Rule, Finishing, Stage, untaken, and_then, inlined, taken, finish_after, step, finish_within}
use Rattle.account.specs.Evaluate.{added_values}
use Rattle.account.specs.Account.{Account, KeepsMatrices, KeepsValues, rule_of, finish_of, made_in}
use Rattle.account.specs.Refusals.{limit, room_of, start_of}
use Rattle.tables.specs.declared.Entry.{Entry}
use Rattle.tables.specs.Held.{State, lengths, counted, room}
use Rattle.tables.specs.Sound.{given_in, entries_of, account_of, kept_witnesses, SoundTables}
use Rattle.tables.proofs.Puts.{counted_long}
use Rattle.finishing.specs.Layout.{Laid, laid_one, laid_after, laid}
use Rattle.finishing.specs.Finalising.{stages_in}
use Rattle.finishing.specs.Steps.{Picks, by_uses, with_uses, next_entry, next_entries, started, places_of, Comes, stepping, StepsCome}
use Rattle.finishing.proofs.Lays.{given_still}
use Rattle.finishing.proofs.Turns.{Alike, ls, base, beyond, index_at, state_at, stage_at, Turn, Next, turned}

module _ {X Y : Type 0} (R : X → Y → Type 0) where
  alike_then : {Z W : Type 0} (S : Z → W → Type 0) (a : Result X Told) (b : Result Y Told) (f : X → Result Z Told) (g : Y → Result W Told)
      → Alike R a b → ((x : X) (y : Y) → R x y → Alike S (f x) (g y)) → Alike S (and_then a f) (and_then b g)
  alike_then S (Ok x) (Ok y) f g h next = next x y h
  alike_then S (Ok x) (Err e) f g h next = absurd h
  alike_then S (Err d) (Ok y) f g h next = absurd h
  alike_then S (Err d) (Err e) f g h next = h

  alike_ok : (x : X) (b : Result Y Told) → Alike R (Ok x) b → (y : Y) × (b ≡ Ok y) × R x y
  alike_ok x (Ok y) h = (y, refl, h)
  alike_ok x (Err e) h = absurd h

  alike_err : (d : Told) (b : Result Y Told) → Alike R (Err d) b → b ≡ Err d
  alike_err d (Ok y) h = absurd h
  alike_err d (Err e) h = ap Err (sym h)

-- where values are kept and matrices too, the values of added witnesses are those worked out
added_made : {V : Type 0} (m : Model V) (mode : SynthesisMode) (x : Account V) → KeepsMatrices mode → KeepsValues mode
    → added_values m x.instances.kept x.witnesses.kept (finish_of m x).outlined ≡ (made_in m mode x).added
added_made m Setup x j k = absurd k
added_made m (Prove true) x j k = refl
added_made m (Prove false) x j k = absurd j

none_added : {V : Type 0} (mode : SynthesisMode) (w : ℕ) (values : List V) → KeepsValues mode → take (w + 0) values ≡ kept_witnesses mode w values ++ []
none_added Setup w values k = absurd k
none_added (Prove matrices) w values k = let same : w + 0 ≡ w = omega arith in ap (λ n. take n values) same ∙ sym (append-nil (take w values))

module _ {V : Type 0} {m : Model V} (keeps : Keeps m) (picks : Picks V) (s : State V) (sound : SoundTables s) (rule : Rule V) where
  abbrev all : List (List (Term V))
  all = ls keeps picks s sound rule

  -- all entries were taken
  record Ended (f : Finishing V) (d : Laid V) (u : State V) (x : Stage V) : Type 0 where
    count : ℕ
    now : List V
    state : u ≡ state_at keeps picks s sound rule count [] f d now
    turn : Turn keeps picks s sound rule count [] f d now

  turns : by_uses picks all ≡ rule → (rest : List Entry) (i : ℕ) (f : Finishing V) (d : Laid V) (now : List V)
      → Turn keeps picks s sound rule i rest f d now
      → let left = lists (map (given_in s.tables.terms) rest) in
      Alike (Ended (finish_after m rule s.counts.witnesses f left) (laid_after m rule s.counts.witnesses s.tables.terms f d rest))
      (next_entries m picks (room s.tables.terms) i (length rest) (state_at keeps picks s sound rule i rest f d now))
      (finish_within m rule (room_of (lengths s.tables) (account_of s)) (start_of (account_of s)) (stage_at keeps picks s sound rule f d) left)
  turns same [] i f d now t = record { count = i; now = now; state = refl; turn = t }
  turns same (e ∷ rest) i f d now t =
      let w = s.counts.witnesses in
      let places = room s.tables.terms in
      let rooms = room_of (lengths s.tables) (account_of s) in
      let start = start_of (account_of s) in
      let l = (given_in s.tables.terms e).terms in
      let left = lists (map (given_in s.tables.terms) rest) in
      let merged = inlined m f.finished l in
      let f' = taken m rule w f merged in
      let d' = laid_one m rule w f d e merged in
      let S = Ended (finish_after m rule w f' left) (laid_after m rule w s.tables.terms f' d' rest) in
      alike_then (Next keeps picks s sound rule (suc i) rest f' d') S
      (next_entry m picks places i (state_at keeps picks s sound rule i (e ∷ rest) f d now))
      (step m rule rooms start (stage_at keeps picks s sound rule f d) l)
      (λ u. next_entries m picks places (suc i) (length rest) u) (λ x. finish_within m rule rooms start x left)
      (turned keeps picks s sound rule i e rest f d now t same)
      (λ u x next.
      subst₂ (λ v y. Alike S (next_entries m picks places (suc i) (length rest) v) (finish_within m rule rooms start y left)) (sym next.state) (sym next.stage)
      (turns same rest (suc i) f' d' next.now next.turn))

  abbrev bare : Laid V
  bare = record { terms = base keeps picks s sound rule; taken = []; rows = [] }

  abbrev values : List V
  values = counted s.tables.witnesses

  many : length (entries_of s) ≡ s.counts.entries
  many = counted_long s.tables.index s.counts.entries sound.entries

  -- before the first entry is taken
  begins : Turn keeps picks s sound rule 0 (entries_of s) untaken bare values
  begins = record {
    front = ([], sym (append-nil (base keeps picks s sound rule)));
    taken_long = refl;
    finished_long = refl;
    rows_long = omega arith;
    total = omega (arith, many);
    fits = omega (arith, sound.entries);
    spans = sound.spans;
    lies = record { finished = refl; finished_fit = tt; rows_given = refl; rows_finished = refl; rows_given_fit = tt; rows_finished_fit = tt };
    ends = refl;
    values = record {
      long = refl;
      fit = λ k. omega (arith, sound.witnesses k, length-take limit s.tables.witnesses);
      there = λ k. none_added s.counts.mode s.counts.witnesses values k;
      setup = λ _. refl;
    };
  }

  begin : started (places_of s) ≡ state_at keeps picks s sound rule 0 (entries_of s) untaken bare values
  begin =
      let es = entries_of s in
      let ts = s.tables.terms in
      let n = s.counts.terms in
      let more = beyond keeps picks s sound rule in
      let within : AllByRecursion (λ (e : Entry). e.given_start + e.given_len ≤ length (counted ts)) es
      = All-weaker _ _ (λ e h. omega (arith, h, sound.terms, length-take limit ts)) es sound.spans in
      let givens : map (given_in (counted ts)) es ≡ map (given_in ts) es
      = sym (given_still (counted ts) (drop limit ts) es within) ∙ ap (λ z. map (given_in z) es) (take-append-drop limit ts) in
      let terms : take n (counted ts) ≡ take n ts = take-take n limit ts (omega (arith, sound.terms)) in
      let index : with_uses (lists (map (given_in (counted ts)) es)) 0 es ++ more ≡ index_at keeps picks s sound rule 0 es bare
      = ap (λ (z : List (Given V)). with_uses (lists z) 0 es ++ more) givens ∙ ap (λ z. z ++ more) (sym (append-nil (with_uses all 0 es))) in
      let witnesses : s.counts.witnesses ≡ s.counts.witnesses + 0 = omega arith in
      let constraints : s.counts.constraints ≡ s.counts.constraints + 0 = omega arith in
      let entries : s.counts.entries ≡ s.counts.entries + 3 * 0 = omega arith in
      let used : n ≡ length (take n ts) = sym (length-take-le n ts (omega (arith, sound.terms))) in
      λ j. record {
        counts = record s.counts { witnesses = witnesses j; constraints = constraints j; entries = entries j; terms = used j };
        tables = record { terms = terms j; index = index j; instances = take s.counts.instances (counted s.tables.instances); witnesses = values };
      }

module _ {V : Type 0} {m : Model V} (keeps : Keeps m) (picks : Picks V) (s : State V) (sound : SoundTables s) (kept : KeepsMatrices s.counts.mode) where
  abbrev rule : Rule V
  rule = rule_of m s.counts.goal (lists (account_of s).given)

  abbrev all_taken : Finishing V
  all_taken = finish_of m (account_of s)

  -- the steps begin where nothing is taken
  come : by_uses picks (lists (account_of s).given) ≡ rule → Alike (Ended keeps picks s sound rule all_taken (laid m s)) (stepping m picks s) (stages_in m s)
  come same =
      let x = account_of s in
      let es = entries_of s in
      let nothing = bare keeps picks s sound rule in
      let first = state_at keeps picks s sound rule 0 es untaken nothing (counted s.tables.witnesses) in
      let stage : record { lists = untaken; used = s.counts.terms } ≡ stage_at keeps picks s sound rule untaken nothing
      = ap (λ n. record { lists = untaken; used = n }) (sym (length-take-le s.counts.terms s.tables.terms (omega (arith, sound.terms)))) in
      let mine : stepping m picks s ≡ next_entries m picks (room s.tables.terms) 0 (length es) first
      = ap₂ (λ n u. next_entries m picks (room s.tables.terms) 0 n u) (sym (many keeps picks s sound rule)) (begin keeps picks s sound rule) in
      let within : Stage V → Result (Stage V) Told = λ y. finish_within m rule (room_of (lengths s.tables) x) (start_of x) y (lists x.given) in
      let due : stages_in m s ≡ within (stage_at keeps picks s sound rule untaken nothing) = ap within stage in
      subst₂ (Alike (Ended keeps picks s sound rule all_taken (laid m s))) (sym mine) (sym due)
      (turns keeps picks s sound rule same es 0 untaken nothing (counted s.tables.witnesses) (begins keeps picks s sound rule))

  comes : (t : State V) (end : Stage V) → stages_in m s ≡ Ok end → Ended keeps picks s sound rule all_taken (laid m s) t end → Comes m s t
  comes t end is e =
      let d = laid m s in
      let x = account_of s in
      let n = s.counts.entries + 3 * length all_taken.outlined in
      let long : length (d.taken ++ [] ++ d.rows) ≡ n
      = omega (arith, length-append (d.taken ++ []) d.rows, length-append d.taken [], e.turn.taken_long, e.turn.total, e.turn.rows_long) in
      record {
        end = end;
        is = is;
        counts = ap (λ (u : State V). u.counts) e.state;
        terms = ap (λ (u : State V). u.tables.terms) e.state;
        index = ap (λ (u : State V). take u.counts.entries u.tables.index) e.state
            ∙ take_at (d.taken ++ [] ++ d.rows) (drop (length d.rows) (beyond keeps picks s sound rule)) n long ∙ ap (λ z. z ++ d.rows) (append-nil d.taken);
        witnesses = λ k.
            ap (λ (u : State V). take u.counts.witnesses u.tables.witnesses) e.state ∙ e.turn.values.there k
            ∙ ap (λ z. x.witnesses.kept ++ z) (added_made m s.counts.mode x kept k);
        setup = λ none. ap (λ (u : State V). u.tables.witnesses) e.state ∙ e.turn.values.setup none;
      }

module _ {V : Type 0} {m : Model V} (keeps : Keeps m) where
  -- Over sound tables, where matrices are kept and lists are picked as the goal says, the steps come to what the definition over lists says.
  pub steps_come : (picks : Picks V) (s : State V) → SoundTables s → KeepsMatrices s.counts.mode
      → ((given : List (List (Term V))) → by_uses picks given ≡ rule_of m s.counts.goal given) → StepsCome m picks s
  steps_come picks s sound kept same =
      let R = Ended keeps picks s sound (rule_of m s.counts.goal (lists (account_of s).given)) (finish_of m (account_of s)) (laid m s) in
      let h = come keeps picks s sound kept (same (lists (account_of s).given)) in
      record {
        accepted = λ t e.
            let got = alike_ok R t (stages_in m s) (subst (λ z. Alike R z (stages_in m s)) e h) in
            comes keeps picks s sound kept t got.0 got.1 got.2;
        refused = λ r e. alike_err R r (stages_in m s) (subst (λ z. Alike R z (stages_in m s)) e h);
      }
