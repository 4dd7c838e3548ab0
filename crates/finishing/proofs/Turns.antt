-- One entry taken over what is in use is one step on the lists. Assumes nothing.
use Rattle.std.proofs.Common.{◌≡◌, ℕ, suc, ◌+◌, ◌*◌, ◌≤◌, Bool, true, false, cond, List, [], ◌∷◌, ◌++◌, map, length, get_or, take, drop, set, Ok, Err, Result, sym, refl, ap, ◌∙◌, subst, ap₂, subst₂, append_assoc, arith, length-append, length-drop, length-take}
use lib.ListN.{length-map}
use Rattle.std.specs.List.{AllByRecursion}
use Rattle.std.proofs.lemmas.List.{take_at, take-take, drop_at, drop-drop, drop-take, get_or_at, set_at, length-take-le, length_push}
use Rattle.std.proofs.lemmas.Bool.{cond-true, cond-false, ltb-false}
use Rattle.field.specs.Laws.{Model, Keeps}
use Rattle.variables.specs.declared.Variable.TheVariants.{One, Witness}
use Rattle.variables.specs.declared.Term.{Term}
use Rattle.variables.specs.Refusals.{Told}
use Rattle.variables.specs.Terms.{once}
use Rattle.variables.specs.Evaluate.{SymbolFree}
use Rattle.account.specs.declared.Mark.TheVariants.{Plain}
use Rattle.account.specs.declared.SynthesisMode.{SynthesisMode}
use Rattle.account.specs.declared.SynthesisMode.TheVariants.{Setup, Prove}
use Rattle.account.specs.Given.{lists}
use Rattle.account.specs.Finish.{Rule, Outlined, Finishing, Stage, uses, lacks, unless, expanded, inlined, single, taken, finish_after, finish, step}
use Rattle.account.specs.Account.{KeepsValues}
use Rattle.account.specs.Refusals.{limit, capacity, value_places, room_of, start_of}
use Rattle.account.proofs.Lists.{all_split}
use Rattle.account.proofs.Counts.{Only, earlier, finish_early, lists_counted}
use Rattle.tables.specs.declared.Counts.{Counts}
use Rattle.tables.specs.declared.Entry.{Entry}
use Rattle.tables.specs.Held.{State, lengths, counted, room, put, entry}
use Rattle.tables.specs.Sound.{given_in, entries_of, account_of, SoundTables}
use Rattle.tables.proofs.Puts.{counted_long}
use Rattle.finishing.specs.Layout.{Laid, with_finished, row_entries, laid_one}
use Rattle.finishing.specs.Steps.{Picks, by_uses, with_uses, with_added, entry_at, kept_at, worth_of, outlined_at, finished_before, expanded_at, merged_at, settle_at, next_entry}
use Rattle.finishing.proofs.Lays.{span_same, Lies, lies_one}
use Rattle.finishing.proofs.Adds.{Values, values_more}

-- Two results of like steps: both refused alike, or both accepted, and what they come to is so related.
abbrev pub Alike : {X Y : Type 0} → (X → Y → Type 0) → Result X Told → Result Y Told → Type 0
Alike R (Ok x) (Ok y) = R x y
Alike R (Ok x) (Err e) = ⊥
Alike R (Err d) (Ok y) = ⊥
Alike R (Err d) (Err e) = d ≡ e

module _ {X Y : Type 0} (R : X → Y → Type 0) where
  alike_unless : (b c : Bool) (k : ℕ) (x : Result X Told) (y : Result Y Told) → b ≡ c → (c ≡ false → Alike R x y)
      → Alike R (unless b k x) (unless c k y)
  alike_unless b true k x y e h = subst (λ z. Alike R (unless z k x) (unless true k y)) (sym e) refl
  alike_unless b false k x y e h = subst (λ z. Alike R (unless z k x) (unless false k y)) (sym e) (h refl)

  alike_cond : (b c : Bool) (x x' : Result X Told) (y y' : Result Y Told) → b ≡ c → (c ≡ true → Alike R x y) → (c ≡ false → Alike R x' y')
      → Alike R (cond b x x') (cond c y y')
  alike_cond b true x x' y y' e f g = subst (λ z. Alike R (cond z x x') y) (sym e) (f refl)
  alike_cond b false x x' y y' e f g = subst (λ z. Alike R (cond z x x') y') (sym e) (g refl)

-- the parts of an index, one entry of which is next
module _ {X : Type 0} (a b c d : List X) where
  next_in : (x : X) → a ++ x ∷ b ++ c ++ d ≡ a ++ x ∷ (b ++ c ++ d)
  next_in x = ap (λ l. l ++ d) (append_assoc a (x ∷ b) c) ∙ append_assoc a (x ∷ (b ++ c)) d

  set_next : (i : ℕ) (x y : X) → length a ≡ i → set (a ++ x ∷ b ++ c ++ d) i y ≡ a ++ y ∷ [] ++ b ++ c ++ d
  set_next i x y e =
      ap (λ l. set l i y) (next_in x) ∙ set_at a x (b ++ c ++ d) y i e ∙ sym (next_in y) ∙ ap (λ l. l ++ c ++ d) (sym (append_assoc a (y ∷ []) b))

  -- more behind the third part
  put_behind : (n : ℕ) (rest : List X) → n ≡ length a + length b + length c
      → put (a ++ b ++ c ++ drop (length c) rest) n d ≡ a ++ b ++ (c ++ d) ++ drop (length (c ++ d)) rest
  put_behind n rest e =
      let front = a ++ b ++ c in
      let long : length front ≡ n = omega (arith, e, length-append (a ++ b) c, length-append a b) in
      let past : drop (n + length d) (front ++ drop (length c) rest) ≡ drop (length (c ++ d)) rest
      = sym (drop-drop (length d) n (front ++ drop (length c) rest)) ∙ ap (drop (length d)) (drop_at front (drop (length c) rest) n long)
      ∙ drop-drop (length d) (length c) rest ∙ ap (λ k. drop k rest) (sym (length-append c d)) in
      ap₂ (λ x y. x ++ d ++ y) (take_at front (drop (length c) rest) n long) past ∙ ap (λ l. l ++ drop (length (c ++ d)) rest) (append_assoc (a ++ b) c d)

pub uses_long : {V : Type 0} (ls : List (List (Term V))) (k : ℕ) (es : List Entry) → length (with_uses ls k es) ≡ length es
uses_long ls k [] = refl
uses_long ls k (e ∷ es) = ap suc (uses_long ls (suc k) es)

module _ {V : Type 0} {m : Model V} (keeps : Keeps m) (picks : Picks V) (s : State V) (sound : SoundTables s) (rule : Rule V) where
  abbrev pub ls : List (List (Term V))
  ls = lists (map (given_in s.tables.terms) (entries_of s))

  abbrev pub N : ℕ
  N = s.counts.entries

  abbrev pub W : ℕ
  W = s.counts.witnesses

  abbrev pub base : List (Term V)
  base = take s.counts.terms s.tables.terms

  abbrev pub beyond : List Entry
  beyond = drop N (counted s.tables.index)

  -- the circuit after i entries were taken, the rest being left, and the stage of the definition over lists
  abbrev pub index_at : ℕ → List Entry → Laid V → List Entry
  index_at i rest d = d.taken ++ with_uses ls i rest ++ d.rows ++ drop (length d.rows) beyond

  abbrev pub counts_at : (k terms : ℕ) → Counts
  counts_at k terms = record s.counts { witnesses = W + k; constraints = s.counts.constraints + k; entries = N + 3 * k; terms = terms }

  abbrev pub state_at : ℕ → List Entry → Finishing V → Laid V → List V → State V
  state_at i rest f d now = record {
    counts = counts_at (length f.outlined) (length d.terms);
    tables = record {
      terms = d.terms;
      index = index_at i rest d;
      instances = take s.counts.instances (counted s.tables.instances);
      witnesses = now;
    };
  }

  abbrev pub stage_at : Finishing V → Laid V → Stage V
  stage_at f d = record { lists = f; used = length d.terms }

  -- what holds after i entries were taken, the rest being left
  pub record Turn (i : ℕ) (rest : List Entry) (f : Finishing V) (d : Laid V) (now : List V) : Type 0 where
    pub front : (more : List (Term V)) × (d.terms ≡ base ++ more)
    pub taken_long : length d.taken ≡ i
    pub finished_long : length f.finished ≡ i
    pub rows_long : length d.rows ≡ 3 * length f.outlined
    pub total : i + length rest ≡ N
    pub fits : N + 3 * length f.outlined ≤ room s.tables.index
    pub spans : AllByRecursion (λ e. e.given_start + e.given_len ≤ s.counts.terms) rest
    pub lies : Lies m f d
    pub ends : finish_after m rule W f (lists (map (given_in s.tables.terms) rest)) ≡ finish m rule W ls
    pub values : Values keeps s.counts.instances W (counted s.tables.instances) (counted s.tables.witnesses) s.counts.mode f.outlined now

  -- what one step more comes to, over what is in use and over lists
  pub record Next (i : ℕ) (rest : List Entry) (f : Finishing V) (d : Laid V) (u : State V) (x : Stage V) : Type 0 where
    pub now : List V
    pub state : u ≡ state_at i rest f d now
    pub stage : x ≡ stage_at f d
    pub turn : Turn i rest f d now

  base_long : length base ≡ s.counts.terms
  base_long = length-take-le s.counts.terms s.tables.terms (omega (arith, sound.terms))

  places_same : (mode : SynthesisMode) (a b : ℕ) → capacity a ≡ capacity b → value_places mode a ≡ value_places mode b
  places_same Setup a b e = refl
  places_same (Prove matrices) a b e = e

  places_within : (mode : SynthesisMode) (a b : ℕ) → KeepsValues mode → a ≤ value_places mode b → a ≤ capacity b
  places_within Setup a b k h = absurd k
  places_within (Prove matrices) a b k h = h

  module _ (i : ℕ) (e : Entry) (rest : List Entry) (f : Finishing V) (d : Laid V) (now : List V) (t : Turn i (e ∷ rest) f d now) where
    abbrev u : State V
    u = state_at i (e ∷ rest) f d now

    abbrev l : List (Term V)
    l = (given_in s.tables.terms e).terms

    abbrev merged : List (Term V)
    merged = inlined m f.finished l

    abbrev k : ℕ
    k = length f.outlined

    -- the entry with its uses, the entries after it with theirs, and the index past the added rows
    abbrev counted_in : Entry
    counted_in = with_finished 0 (uses ls i) e

    abbrev left : List Entry
    left = with_uses ls (suc i) rest

    abbrev past : List Entry
    past = drop (length d.rows) beyond

    abbrev lists_left : List (List (Term V))
    lists_left = lists (map (given_in s.tables.terms) rest)

    here : entry_at u i ≡ counted_in
    here =
        ap (λ z. get_or z i (entry Plain 0 0)) (next_in d.taken left d.rows past counted_in)
        ∙ get_or_at d.taken counted_in (left ++ d.rows ++ past) (entry Plain 0 0) i t.taken_long

    -- what is in use at it: the finished lists before it, and its own list
    before : finished_before m u i ≡ f.finished
    before =
        ap (λ z. map (λ (y : Entry). take y.finished_len (drop y.finished_start d.terms)) z)
        (ap (take i) (next_in d.taken left d.rows past counted_in) ∙ take_at d.taken (counted_in ∷ (left ++ d.rows ++ past)) i t.taken_long)
        ∙ t.lies.finished

    given : take (entry_at u i).given_len (drop (entry_at u i).given_start d.terms) ≡ l
    given =
        let n = s.counts.terms in
        let a = e.given_start in
        let len = e.given_len in
        let all = s.tables.terms in
        let within : a + len ≤ n = t.spans.0 in
        ap (λ (z : Entry). take z.given_len (drop z.given_start d.terms)) here ∙ ap (λ z. take len (drop a z)) t.front.1
        ∙ span_same a len base t.front.0 (omega (arith, within, base_long))
        ∙ sym (drop-take a len base) ∙ ap (drop a) (take-take (a + len) n all within) ∙ drop-take a len all

    expanded_here : expanded_at m u i ≡ expanded m f.finished l
    expanded_here = ap₂ (λ x y. expanded m x y) before given

    merged_here : merged_at m u i ≡ merged
    merged_here = ap₂ (λ x y. inlined m x y) before given

    abbrev o : Outlined V
    o = record { entry = length f.finished; witness = W + k; merged = merged }

    abbrev start : ℕ
    start = length d.terms

    abbrev len : ℕ
    len = length merged

    abbrev picked : Bool
    picked = rule (length f.finished) merged

    -- what comes of an entry that is outlined, and of any other
    abbrev outlined_f : Finishing V
    outlined_f = record { finished = f.finished ++ single m (Witness (W + k)) ∷ []; outlined = f.outlined ++ o ∷ [] }

    abbrev kept_f : Finishing V
    kept_f = record { finished = f.finished ++ merged ∷ []; outlined = f.outlined }

    abbrev outlined_d : Laid V
    outlined_d = record {
      terms = d.terms ++ merged ++ once m One ∷ once m (Witness (W + k)) ∷ [];
      taken = d.taken ++ with_finished (start + len + 1) 1 e ∷ [];
      rows = d.rows ++ row_entries start len;
    }

    abbrev kept_d : Laid V
    kept_d = record { terms = d.terms ++ merged; taken = d.taken ++ with_finished start len e ∷ []; rows = d.rows }

    abbrev next_f : Finishing V
    next_f = taken m rule W f merged

    abbrev next_d : Laid V
    next_d = laid_one m rule W f d e merged

    -- what is outlined names no symbol, and only witnesses that are there
    free : picked ≡ true → Only (SymbolFree s.counts.instances (W + k)) merged
    free is =
        let n = s.counts.instances in
        let P : Outlined V → Type 0 = λ x. Only (SymbolFree n x.witness) x.merged in
        let all = (finish_early m rule W n ls (lists_counted n W [] (map (given_in s.tables.terms) (entries_of s)) sound.lists.known.terms)).1 in
        let so_far : AllByRecursion P next_f.outlined
        = earlier m rule W P lists_left next_f (subst (λ (x : Finishing V). AllByRecursion P x.outlined) (sym t.ends) all) in
        (all_split P f.outlined (o ∷ []) (subst (λ (x : Finishing V). AllByRecursion P x.outlined) (cond-true picked outlined_f kept_f is) so_far)).1.0

    -- the circuit after an entry that is not outlined, and after one that is
    kept_next : picked ≡ false → Next (suc i) rest next_f next_d (kept_at u i merged) (record { lists = next_f; used = start + len })
    kept_next is =
        let fs = cond-false picked outlined_f kept_f is in
        let ds = cond-false picked outlined_d kept_d is in
        let y = with_finished start len e in
        let size : start + len ≡ length kept_d.terms = sym (length-append d.terms merged) in
        let index : set (index_at i (e ∷ rest) d) i (with_finished start len (entry_at u i)) ≡ index_at (suc i) rest kept_d
        = ap (λ z. set (index_at i (e ∷ rest) d) i (with_finished start len z)) here ∙ set_next d.taken left d.rows past i counted_in y t.taken_long in
        let more = t.front.0 in
        subst₂ (λ f' d'. Next (suc i) rest f' d' (kept_at u i merged) (record { lists = f'; used = start + len })) (sym fs) (sym ds)
        (record {
          now = now;
          state = λ j. record {
            counts = counts_at k (size j);
            tables = record { terms = kept_d.terms; index = index j; instances = take s.counts.instances (counted s.tables.instances); witnesses = now };
          };
          stage = ap (λ n. record { lists = kept_f; used = n }) size;
          turn = record {
            front = (more ++ merged, ap (λ z. z ++ merged) t.front.1 ∙ append_assoc base more merged);
            taken_long = omega (arith, length_push d.taken y, t.taken_long);
            finished_long = omega (arith, length_push f.finished merged, t.finished_long);
            rows_long = t.rows_long;
            total = omega (arith, t.total);
            fits = t.fits;
            spans = t.spans.1;
            lies = subst₂ (Lies m) fs ds (lies_one m rule W f d e merged t.lies);
            ends = subst (λ f'. finish_after m rule W f' lists_left ≡ finish m rule W ls) fs t.ends;
            values = t.values;
          };
        })

    outlined_next : picked ≡ true → (KeepsValues s.counts.mode → W + k + 1 ≤ length now) → N + 3 * k + 3 ≤ room s.tables.index
        → Next (suc i) rest next_f next_d (outlined_at m u i merged) (record { lists = next_f; used = start + len + 2 })
    outlined_next is room_left entries_left =
        let fs = cond-true picked outlined_f kept_f is in
        let ds = cond-true picked outlined_d kept_d is in
        let y = with_finished (start + len + 1) 1 e in
        let behind = once m One ∷ once m (Witness (W + k)) ∷ [] in
        let many = length_push f.outlined o in
        let size : start + len + 2 ≡ length outlined_d.terms = omega (arith, length-append (d.terms ++ merged) behind, length-append d.terms merged) in
        let witnesses : W + k + 1 ≡ W + length outlined_f.outlined = omega (arith, many) in
        let constraints : s.counts.constraints + k + 1 ≡ s.counts.constraints + length outlined_f.outlined = omega (arith, many) in
        let entries : N + 3 * k + 3 ≡ N + 3 * length outlined_f.outlined = omega (arith, many) in
        let three = row_entries start len in
        let place : N + 3 * k ≡ length (d.taken ++ y ∷ []) + length left + length d.rows
        = omega (arith, length_push d.taken y, t.taken_long, uses_long ls (suc i) rest, t.rows_long, t.total) in
        let index : put (set (index_at i (e ∷ rest) d) i (with_finished (start + len + 1) 1 (entry_at u i))) (N + 3 * k) three
        ≡ index_at (suc i) rest outlined_d
        = ap (λ z. put (set (index_at i (e ∷ rest) d) i (with_finished (start + len + 1) 1 z)) (N + 3 * k) three) here
        ∙ ap (λ z. put z (N + 3 * k) three) (set_next d.taken left d.rows past i counted_in y t.taken_long)
        ∙ put_behind (d.taken ++ y ∷ []) left d.rows three (N + 3 * k) beyond place in
        let more = t.front.0 in
        let then = with_added s.counts.mode (worth_of m u merged) (W + k) now in
        subst₂ (λ f' d'. Next (suc i) rest f' d' (outlined_at m u i merged) (record { lists = f'; used = start + len + 2 })) (sym fs) (sym ds)
        (record {
          now = then;
          state = λ j. record {
            counts = record s.counts { witnesses = witnesses j; constraints = constraints j; entries = entries j; terms = size j };
            tables = record { terms = outlined_d.terms; index = index j; instances = take s.counts.instances (counted s.tables.instances); witnesses = then };
          };
          stage = ap (λ n. record { lists = outlined_f; used = n }) size;
          turn = record {
            front = (
              more ++ merged ++ behind,
              ap (λ z. z ++ merged ++ behind) t.front.1 ∙ ap (λ z. z ++ behind) (append_assoc base more merged) ∙ append_assoc base (more ++ merged) behind,
            );
            taken_long = omega (arith, length_push d.taken y, t.taken_long);
            finished_long = omega (arith, length_push f.finished (single m (Witness (W + k))), t.finished_long);
            rows_long = omega (arith, length-append d.rows three, t.rows_long, many);
            total = omega (arith, t.total);
            fits = omega (arith, entries_left, many);
            spans = t.spans.1;
            lies = subst₂ (Lies m) fs ds (lies_one m rule W f d e merged t.lies);
            ends = subst (λ f'. finish_after m rule W f' lists_left ≡ finish m rule W ls) fs t.ends;
            values = values_more keeps s.counts.instances W (counted s.tables.instances) (counted s.tables.witnesses) s.counts.mode f.outlined o now
                (λ kept. omega (arith, sound.instances kept, length-take limit s.tables.instances)) room_left (free is) t.values;
          };
        })

    given_long : length (account_of s).given ≡ N
    given_long = length-map (entries_of s) (given_in s.tables.terms) ∙ counted_long s.tables.index N sound.entries

    -- the index is as long as its places that count
    index_long : length (index_at i (e ∷ rest) d) ≡ room s.tables.index
    index_long =
        let all = with_uses ls i (e ∷ rest) in
        omega (
          arith,
          length-append (d.taken ++ all ++ d.rows) past,
          length-append (d.taken ++ all) d.rows,
          length-append d.taken all,
          uses_long ls i (e ∷ rest),
          length-drop (length d.rows) beyond,
          length-drop N (counted s.tables.index),
          length-take limit s.tables.index,
          t.taken_long,
          t.rows_long,
          t.total,
          t.fits,
        )

    -- one entry taken is one step
    pub turned : by_uses picks ls ≡ rule
        → Alike (Next (suc i) rest next_f next_d) (next_entry m picks (room s.tables.terms) i u)
        (step m rule (room_of (lengths s.tables) (account_of s)) (start_of (account_of s)) (stage_at f d) l)
    unfolding next_entry
    turned same =
        let R = Next (suc i) rest next_f next_d in
        let places = room s.tables.terms in
        let mode = s.counts.mode in
        let long = t.values.long in
        let pick : picks (entry_at u i).finished_len merged ≡ picked
        = ap (λ (z : Entry). picks z.finished_len merged) here ∙ ap (λ (r : Rule V). r i merged) same ∙ ap (λ n. rule n merged) (sym t.finished_long) in
        let some : capacity (length now) ≡ capacity (length s.tables.witnesses) = omega (arith, long, length-take limit s.tables.witnesses) in
        let second : lacks (W + k + 1) (value_places mode (length now)) ≡ lacks (W + k + 1) (value_places mode (length s.tables.witnesses))
        = ap (lacks (W + k + 1)) (places_same mode _ _ some) in
        let third : lacks (N + 3 * k + 3) (length (index_at i (e ∷ rest) d)) ≡ lacks (length (account_of s).given + 3 * k + 3) (room s.tables.index)
        = ap₂ lacks (ap (λ n. n + 3 * k + 3) (sym given_long)) index_long in
        let needed = lacks (start + length (expanded m f.finished l)) places in
        let mine_terms = lacks (start + len + 2) places in
        let mine_witnesses = lacks (W + k + 1) (value_places mode (length now)) in
        let due_witnesses = lacks (W + k + 1) (value_places mode (length s.tables.witnesses)) in
        let mine_entries = lacks (N + 3 * k + 3) (length (index_at i (e ∷ rest) d)) in
        let due_entries = lacks (length (account_of s).given + 3 * k + 3) (room s.tables.index) in
        let mine_last : Result (State V) Told = Ok (outlined_at m u i merged) in
        let due_last : Result (Stage V) Told = Ok (record { lists = next_f; used = start + len + 2 }) in
        let mine_third = unless mine_entries 13 mine_last in
        let due_third = unless due_entries 13 due_last in
        let mine_second = unless mine_witnesses 12 mine_third in
        let due_second = unless due_witnesses 12 due_third in
        let mine_first = unless mine_terms 14 mine_second in
        let due_first = unless mine_terms 14 due_second in
        let mine_plain : Result (State V) Told = Ok (kept_at u i merged) in
        let due_plain : Result (Stage V) Told = Ok (record { lists = next_f; used = start + len }) in
        let is : unless (lacks (start + length (expanded_at m u i)) places) 14 (settle_at m picks places u i (merged_at m u i))
        ≡ unless needed 14 (settle_at m picks places u i merged)
        = λ j. unless (lacks (start + length (expanded_here j)) places) 14 (settle_at m picks places u i (merged_here j)) in
        subst (λ z. Alike R z (step m rule (room_of (lengths s.tables) (account_of s)) (start_of (account_of s)) (stage_at f d) l)) (sym is)
        (alike_unless R needed needed 14 (settle_at m picks places u i merged) (cond picked due_first due_plain) refl (λ _.
        alike_cond R (picks (entry_at u i).finished_len merged) picked mine_first mine_plain due_first due_plain pick
        (λ yes_picked.
        alike_unless R mine_terms mine_terms 14 mine_second due_second refl (λ _.
        alike_unless R mine_witnesses due_witnesses 12 mine_third due_third second (λ found.
        alike_unless R mine_entries due_entries 13 mine_last due_last third (λ free_entries.
        outlined_next yes_picked
        (λ kept.
        omega (arith, places_within mode (W + k + 1) (length s.tables.witnesses) kept (ltb-false _ _ found), long, length-take limit s.tables.witnesses))
        (omega (arith, ltb-false _ _ free_entries, given_long))))))
        (λ not_picked. kept_next not_picked)))
