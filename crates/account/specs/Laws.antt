-- What is promised of lists and of finalising them, for every field that keeps the laws. Assumes nothing.
use Rattle.std.specs.Prelude.{◌≡◌, ℕ, ◌+◌, ◌*◌, ◌<◌, ◌≤◌, ◌⊎◌, ◌↔◌, true, false, List, [], ◌∷◌, ◌++◌, map, length, take, Some, None, Ok, Err, Option, ◌≢◌, slice_index_or}
use Rattle.std.specs.List.{AllByRecursion, Contains, slice_get}
use Rattle.field.specs.Laws.{Model}
use Rattle.variables.specs.declared.Variable.{Variable}
use Rattle.variables.specs.declared.Variable.TheVariants.{One, Witness, SymbolicLc}
use Rattle.variables.specs.declared.Term.{Term}
use Rattle.variables.specs.Order.{Rises}
use Rattle.variables.specs.Refusals.{Told, refused}
use Rattle.variables.specs.Worth.{value, worth}
use Rattle.variables.specs.Evaluate.{SymbolFree, read}
use Rattle.account.specs.declared.Mark.{Mark}
use Rattle.account.specs.declared.Mark.TheVariants.{Plain}
use Rattle.account.specs.Given.{Given, marks, lists, KnownVariable, KnownTerms, Known}
use Rattle.account.specs.Worths.{worths, followed}
use Rattle.account.specs.Rests.{AllKept, Found}
use Rattle.account.specs.Finish.{Rule, Finishing, Room, Start, Stage, untaken, places, expanded, inlined, single, finish, finish_within, most_places}
use Rattle.account.specs.Rows.{Row, each, row_at, Cell, constraints, finished_rows, finished_lists, FirstFailing, Holds, concatenated, rows_in, last_of, constraints_at, rows_at, cells, Marlin, matrices}
use Rattle.account.specs.Evaluate.{filled, added_values}
use Rattle.account.specs.Refusals.{variable_refusal, terms_refusal}

-- A term is refused exactly when its variable is not known: by 16 where it is a symbol whose list comes before and is a constraint's own,
-- and else by 15.
pub record Refuses (n w : ℕ) (before : List Mark) (v : Variable) : Type 0 where
  pub known : (variable_refusal n w before v ≡ None) ↔ KnownVariable n w before v
  pub own : (variable_refusal n w before v ≡ Some 16) ↔ ((k : ℕ) × (v ≡ SymbolicLc (record { 0 = k })) × (k < length before) × (slice_index_or before k Plain ≢ Plain))
  pub numbers : (number : ℕ) → variable_refusal n w before v ≡ Some number → (number ≡ 15) ⊎ (number ≡ 16)

abbrev pub VariablesRefused : Type 0
VariablesRefused = (n w : ℕ) (before : List Mark) (v : Variable) → Refuses n w before v

-- A list is refused exactly when it names something that is not known, and then by its first such term, whose place it tells.
pub record RefusesList {V : Type 0} (n w : ℕ) (before : List Mark) (list : ℕ) (ts : List (Term V)) : Type 0 where
  pub known : (terms_refusal n w before list 0 ts ≡ None) ↔ KnownTerms n w before ts
  pub at_first : (r : Told) → terms_refusal n w before list 0 ts ≡ Some r
      → (k : ℕ) × (t : Term V) × (number : ℕ) × (slice_get ts k ≡ Some t) × KnownTerms n w before (take k ts)
      × (variable_refusal n w before t.variable ≡ Some number) × (r ≡ record { number = number; values = list ∷ k ∷ [] })

abbrev pub ListsRefused : Type 0 → Type 0
ListsRefused V = (n w : ℕ) (before : List Mark) (list : ℕ) (ts : List (Term V)) → RefusesList n w before list ts

-- what the lists of a row may name: no symbol, and the rest below its count
abbrev pub SymbolFreeRow : {V : Type 0} → ℕ → ℕ → Row (List (Term V)) → Type 0
SymbolFreeRow n w r =
    AllByRecursion (λ t. SymbolFree n w t.variable) r.a × AllByRecursion (λ t. SymbolFree n w t.variable) r.b × AllByRecursion (λ t. SymbolFree n w t.variable) r.c

-- The finished lists of the lists given, over n instances, w witnesses and an added witness for each of `combinations`, the numbers of the
-- lists that they stand for: there is one for each list and three for each added witness, and none holds a symbol, nor does a row; the
-- rows number the constraints plus the added witnesses; and each added witness stands for one of the lists given.
pub record WellFormed {V : Type 0} (n w : ℕ) (given : List (Given V)) (cs : List (Row (List (Term V)))) (finished : List (List (Term V))) (combinations : List ℕ) : Type 0 where
  pub long : length finished ≡ length given + 3 * length combinations
  pub symbol_free : AllByRecursion (λ ts. AllByRecursion (λ t. SymbolFree n (w + length combinations) t.variable) ts) finished
  pub rows_symbol_free : AllByRecursion (SymbolFreeRow n (w + length combinations)) (finished_rows given finished combinations)
  pub rows_counted : length (finished_rows given finished combinations) ≡ length cs + length combinations
  pub standing : AllByRecursion (λ k. k < length given) combinations

module _ {V : Type 0} (m : Model V) where
  open m.ring use {Member, zero, one}

  -- each symbol is worth the list of its number
  pub record Solves (n : ℕ) (z : List Member) (lists : List (List (Term V))) (ws : List Member) : Type 0 where
    pub long : length ws ≡ length lists
    pub symbols : (k : ℕ) → k < length lists → slice_index_or ws k zero ≡ worth m (value m n z ws) (slice_index_or lists k [])

  -- What known lists are worth in rising order is the one way to give each symbol the worth of its list; and following symbols, as deep
  -- as there are lists, gives the same.
  pub record Meant (n w : ℕ) (z : List Member) (given : List (Given V)) : Type 0 where
    pub solves : Solves n z (lists given) (worths m n z (lists given))
    pub unique : (ws : List Member) → Solves n z (lists given) ws → ws ≡ worths m n z (lists given)
    pub follows : (d : ℕ) → length given ≤ d → (v : Variable) → KnownVariable n w (marks given) v
        → followed m d n z (lists given) v ≡ value m n z (worths m n z (lists given)) v

  abbrev pub WorthsMeant : Type 0
  WorthsMeant = (n w : ℕ) (z : List Member) (given : List (Given V)) → Known n w given → Meant n w z given

  -- a check has one answer
  abbrev pub OneAnswer : Type 0
  OneAnswer = (rs : List (Row Member)) (r s : Option ℕ) → FirstFailing (Holds m) rs r → FirstFailing (Holds m) rs s → r ≡ s

  -- Under a vector that begins with one, an answer names the first row that fails Marlin's condition on the matrices of some rows without
  -- symbols exactly when it names the first that fails by worth.
  abbrev pub MatricesExact : Type 0
  MatricesExact = (n w : ℕ) (rs : List (Row (List (Term V)))) → AllByRecursion (SymbolFreeRow n w) rs
      → (z : List Member) → length z ≡ n + w → slice_index_or z 0 zero ≡ one → (answer : Option ℕ)
      → FirstFailing (Marlin m z) (map (each (cells m n)) rs) answer ↔ FirstFailing (Holds m) (rows_at m n z rs) answer

  -- What is written of some rows is read back as their cells, and these are counted; there are three ends for each row, none is below the
  -- one before it, and the last is the place past the last cell.
  pub record ReadsBack (n w : ℕ) (rs : List (Row (List (Term V)))) : Type 0 where
    pub rows : rows_in (matrices m n w rs) ≡ map (each (cells m n)) rs
    pub counts : let read = rows_in (matrices m n w rs) in
        (matrices m n w rs).cell_counts ≡ (length (concatenated (map (λ r. r.a) read)), length (concatenated (map (λ r. r.b) read)), length (concatenated (map (λ r. r.c) read)))
    pub cells_counted : let counts = (matrices m n w rs).cell_counts in length (matrices m n w rs).cells ≡ counts.0 + counts.1 + counts.2
    pub ends_counted : length (matrices m n w rs).ends ≡ 3 * length rs
    pub ends_in_order : (i j : ℕ) → i ≤ j → j < length (matrices m n w rs).ends → slice_index_or (matrices m n w rs).ends i 0 ≤ slice_index_or (matrices m n w rs).ends j 0
    pub last_end : last_of 0 (matrices m n w rs).ends ≡ length (matrices m n w rs).cells

  abbrev pub ReadBack : Type 0
  ReadBack = (n w : ℕ) (rs : List (Row (List (Term V)))) → ReadsBack n w rs

  -- the worth of each of `combinations` at the original part of a vector
  abbrev pub combination_worths : ℕ → List (Given V) → List ℕ → List Member → List Member
  combination_worths n given combinations original = map (λ k. slice_index_or (worths m n original (lists given)) k zero) combinations

  -- Every vector that begins with one satisfies these rows of cells, by Marlin's condition, exactly when its original part satisfies every
  -- constraint as written and each added witness equals the combination it stands for.
  abbrev pub Admits : ℕ → ℕ → List (Given V) → List (Row (List (Term V))) → List ℕ → List (Row (List (Cell V))) → Type 0
  Admits n w given cs combinations rs =
      (original added : List Member) → length original ≡ n + w → length added ≡ length combinations → slice_index_or (original ++ added) 0 zero ≡ one
      → AllByRecursion (Marlin m (original ++ added)) rs
      ↔ (AllByRecursion (Holds m) (constraints_at m n original (lists given) cs) × (added ≡ combination_worths n given combinations original))

  abbrev pub Exact : ℕ → ℕ → List (Given V) → List (Row (List (Term V))) → List (List (Term V)) → List ℕ → Type 0
  Exact n w given cs finished combinations = Admits n w given cs combinations (map (each (cells m n)) (finished_rows given finished combinations))

  -- what an added row is worth where its witness has the worth x of its combination
  abbrev pub added_worth : Member → Row Member
  added_worth x = record { a = x; b = one; c = x }

  -- Where each added witness has the worth of its combination: each finished list is worth what its list as given is; so the finished rows
  -- are worth, list by list, what the constraints are as written, and after them come the added rows, which hold. So an answer names the
  -- first finished row that fails exactly when it names the first constraint that fails as written.
  pub record SameFailing (n : ℕ) (given : List (Given V)) (cs : List (Row (List (Term V)))) (finished : List (List (Term V))) (combinations : List ℕ) (kept : List Member) : Type 0 where
    pub lists_worth : map (worth m (value m n (kept ++ combination_worths n given combinations kept) [])) (take (length given) finished) ≡ worths m n kept (lists given)
    pub rows_worth : rows_at m n (kept ++ combination_worths n given combinations kept) (finished_rows given finished combinations)
        ≡ constraints_at m n kept (lists given) cs ++ map added_worth (combination_worths n given combinations kept)
    pub same : (answer : Option ℕ)
        → FirstFailing (Holds m) (rows_at m n (kept ++ combination_worths n given combinations kept) (finished_rows given finished combinations)) answer
        ↔ FirstFailing (Holds m) (constraints_at m n kept (lists given) cs) answer

  abbrev pub FailsAlike : ℕ → ℕ → List (Given V) → List (Row (List (Term V))) → List (List (Term V)) → List ℕ → Type 0
  FailsAlike n w given cs finished combinations = (kept : List Member) → length kept ≡ n + w → SameFailing n given cs finished combinations kept

  -- P holds of what finalising makes of known lists and their constraints, whatever rule picks the lists to outline
  abbrev pub Finalised : (ℕ → ℕ → List (Given V) → List (Row (List (Term V))) → List (List (Term V)) → List ℕ → Type 0) → Type 0
  Finalised P = (rule : Rule V) (n w : ℕ) (given : List (Given V)) → Known n w given
      → let done = finish m rule w (lists given) in P n w given (constraints given) (finished_lists m done) (map (λ o. o.entry) done.outlined)

  -- the merged list of entry k: the list as given, written out over the finished lists before it, with equal variables put together
  abbrev pub merged_at : List (Given V) → List (List (Term V)) → ℕ → List (Term V)
  merged_at given finished k = inlined m (take k finished) (slice_index_or (lists given) k [])

  -- Of the finished lists of all entries, those of the added rows last, `combinations` are the entries that a rule outlines, where w
  -- witnesses were there at the start:
  pub record OutlinedBy (rule : Rule V) (w : ℕ) (given : List (Given V)) (finished : List (List (Term V))) (combinations : List ℕ) : Type 0 where
    -- They rise.
    pub rising : (i j : ℕ) → i < j → j < length combinations → slice_index_or combinations i 0 < slice_index_or combinations j 0
    -- The rule picks the merged list of each. Its finished list is an added witness, and its added row asks that witness to be the merged
    -- list.
    pub picked : (j : ℕ) → j < length combinations → let k = slice_index_or combinations j 0 in
        (rule k (merged_at given finished k) ≡ true)
        × (slice_index_or finished k [] ≡ single m (Witness (w + j)))
        × (row_at [] finished (length given + 3 * j) ≡ record { a = merged_at given finished k; b = single m One; c = single m (Witness (w + j)) })
    -- Of no other entry does the rule pick the merged list, and that is its finished list.
    pub not_picked : (k : ℕ) → k < length given → (Contains combinations k → ⊥)
        → (rule k (merged_at given finished k) ≡ false) × (slice_index_or finished k [] ≡ merged_at given finished k)

  -- exactly those lists are outlined whose merged list the rule picks
  abbrev pub Outlines : Type 0
  Outlines = (rule : Rule V) (w : ℕ) (given : List (Given V))
      → let done = finish m rule w (lists given) in OutlinedBy rule w given (finished_lists m done) (map (λ o. o.entry) done.outlined)

  -- There is one way only: whatever finished lists and combinations meet this, with one list for each that is given and three for each
  -- combination, and each combination the number of a list that is given, they are what finalising makes.
  abbrev pub OutlinedOnce : Type 0
  OutlinedOnce = (rule : Rule V) (w : ℕ) (given : List (Given V)) (finished : List (List (Term V))) (combinations : List ℕ)
      → length finished ≡ length given + 3 * length combinations → AllByRecursion (λ k. k < length given) combinations
      → OutlinedBy rule w given finished combinations
      → let done = finish m rule w (lists given) in (finished ≡ finished_lists m done) × (combinations ≡ map (λ o. o.entry) done.outlined)

  -- each finished list, those of the added rows too, rises by variable
  abbrev pub FinishedRise : Type 0
  FinishedRise = (rule : Rule V) (w : ℕ) (ls : List (List (Term V))) → AllByRecursion Rises (finished_lists m (finish m rule w ls))

  -- Where every value is kept, the work table holds a value for each list, and each stands for what its list is worth.
  abbrev pub WorkStands : Type 0
  WorkStands = (instances witnesses : List V) (given : List (Given V)) → Known (length instances) (length witnesses) given
      → (vs : List V) × (filled m instances witnesses (lists given) ≡ map Some vs)
      × (map m.stands vs ≡ worths m (length instances) (map m.stands (instances ++ witnesses)) (lists given))

  -- Whichever values are kept, from the first on, a known variable has a value exactly where all that it rests on is kept, and the value
  -- stands for what the variable is worth.
  abbrev pub ValuesFound : Type 0
  ValuesFound = (instances witnesses : List V) (n w : ℕ) (given : List (Given V)) → Known n w given → (v : Variable) → KnownVariable n w (marks given) v
      → Found m n instances witnesses (AllKept (length instances) (length witnesses) (lists given) v) (λ z. value m n z (worths m n z (lists given)) v)
      (read m instances witnesses (filled m instances witnesses (lists given)) v)

  -- Where every value is kept, each added witness has a value, and it stands for what the list is worth that the witness stands for.
  abbrev pub AddedStand : Type 0
  AddedStand = (rule : Rule V) (instances witnesses : List V) (given : List (Given V)) → Known (length instances) (length witnesses) given
      → let outlined = (finish m rule (length witnesses) (lists given)).outlined in
      map m.stands (added_values m instances witnesses outlined)
      ≡ combination_worths (length instances) given (map (λ o. o.entry) outlined) (map m.stands (instances ++ witnesses))

  -- Where finalising is not refused, the lists come out as with no bound; the term places in use are those at the start and one for each
  -- term of a finished list, an outlined entry's own list lying in the C of its row; and what fits at the start fits at the end.
  pub record Within (rule : Rule V) (room : Room) (start : Start) (used : ℕ) (given : List (List (Term V))) (end : Stage V) : Type 0 where
    pub same : end.lists ≡ finish m rule start.witnesses given
    pub takes : end.used + length end.lists.outlined ≡ used + places (finished_lists m end.lists)
    pub terms_fit : used ≤ room.terms → end.used ≤ room.terms
    pub entries_fit : start.entries ≤ room.entries → start.entries + 3 * length end.lists.outlined ≤ room.entries
    pub witnesses_fit : start.witnesses ≤ room.witnesses → start.witnesses + length end.lists.outlined ≤ room.witnesses

  abbrev pub PlacesTaken : Type 0
  PlacesTaken = (rule : Rule V) (room : Room) (start : Start) (used : ℕ) (given : List (List (Term V))) (end : Stage V)
      → finish_within m rule room start (record { lists = untaken; used = used }) given ≡ Ok end → Within rule room start used given end

  -- finalising is refused by 14, 12 or 13 alone
  abbrev pub PlacesRefused : Type 0
  PlacesRefused = (rule : Rule V) (room : Room) (start : Start) (used : ℕ) (given : List (List (Term V))) (r : Told)
      → finish_within m rule room start (record { lists = untaken; used = used }) given ≡ Err r
      → (r ≡ record { number = 14; values = [] }) ⊎ ((r ≡ record { number = 12; values = [] }) ⊎ (r ≡ record { number = 13; values = [] }))

  -- there are as many term places as any step has in use, and a witness and three entries for each list that is outlined
  pub record FindsPlaces (rule : Rule V) (room : Room) (start : Start) (used : ℕ) (given : List (List (Term V))) : Type 0 where
    pub terms : most_places m rule start.witnesses untaken used given ≤ room.terms
    pub witnesses : let outlined = length (finish m rule start.witnesses given).outlined in 0 < outlined → start.witnesses + outlined ≤ room.witnesses
    pub entries : let outlined = length (finish m rule start.witnesses given).outlined in 0 < outlined → start.entries + 3 * outlined ≤ room.entries

  -- finalising is not refused exactly where it finds its places
  abbrev pub PlacesSuffice : Type 0
  PlacesSuffice = (rule : Rule V) (room : Room) (start : Start) (used : ℕ) (given : List (List (Term V))) → used ≤ room.terms
      → ((end : Stage V) × (finish_within m rule room start (record { lists = untaken; used = used }) given ≡ Ok end)) ↔ FindsPlaces rule room start used given

  -- What finalising lacks at an entry of this list, where f is what it made of the entries before and `used` term places are in use:
  pub data Lacks (rule : Rule V) (room : Room) (start : Start) (f : Finishing V) (used : ℕ) (l : List (Term V)) : ℕ → Type 0 where
    -- 14: places for the list written out;
    written_out : room.terms < used + length (expanded m f.finished l) → Lacks rule room start f used l 14
    -- of an entry that is outlined, 14: two term places beside those of the merged list; ..
    two_terms : used + length (expanded m f.finished l) ≤ room.terms → rule (length f.finished) (inlined m f.finished l) ≡ true
        → room.terms < used + length (inlined m f.finished l) + 2 → Lacks rule room start f used l 14
    -- .. else 12: a witness; ..
    a_witness : used + length (expanded m f.finished l) ≤ room.terms → rule (length f.finished) (inlined m f.finished l) ≡ true
        → used + length (inlined m f.finished l) + 2 ≤ room.terms
        → room.witnesses < start.witnesses + length f.outlined + 1 → Lacks rule room start f used l 12
    -- .. else 13: three entries.
    three_entries : used + length (expanded m f.finished l) ≤ room.terms → rule (length f.finished) (inlined m f.finished l) ≡ true
        → used + length (inlined m f.finished l) + 2 ≤ room.terms → start.witnesses + length f.outlined + 1 ≤ room.witnesses
        → room.entries < start.entries + 3 * length f.outlined + 3 → Lacks rule room start f used l 13

  -- The entries of the lists `past` find their places, and an entry of list l after them does not.
  pub record StopsAt (rule : Rule V) (room : Room) (start : Start) (used : ℕ) (past : List (List (Term V))) (l : List (Term V)) (number : ℕ) : Type 0 where
    pub found : FindsPlaces rule room start used past
    pub in_use : ℕ
    pub counted : let f = finish m rule start.witnesses past in in_use + length f.outlined ≡ used + places (finished_lists m f)
    pub lacks : Lacks rule room start (finish m rule start.witnesses past) in_use l number

  -- finalising is refused exactly where some entry does not find its places, by what the first such entry lacks
  abbrev pub PlacesLacking : Type 0
  PlacesLacking = (rule : Rule V) (room : Room) (start : Start) (used : ℕ) (given : List (List (Term V))) (number : ℕ) → used ≤ room.terms
      → (finish_within m rule room start (record { lists = untaken; used = used }) given ≡ refused number)
      ↔ ((past : List (List (Term V))) × (l : List (Term V)) × (future : List (List (Term V))) × (given ≡ past ++ l ∷ future) × StopsAt rule room start used past l number)
