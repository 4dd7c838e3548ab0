-- Finalising on lists, and the places that it takes. Assumes nothing.
use Rattle.std.specs.Prelude.{ℕ, ◌+◌, ◌*◌, max, Bool, false, cond, List, [], ◌∷◌, ◌++◌, length, Ok, Err, Result, ◌==◌, nat_lt, slice_index_or}
use Rattle.std.specs.List.{flat_map}
use Rattle.field.specs.Laws.{Model}
use Rattle.variables.specs.declared.Variable.{Variable}
use Rattle.variables.specs.declared.Variable.TheVariants.{Witness, SymbolicLc}
use Rattle.variables.specs.declared.Term.{Term}
use Rattle.variables.specs.Refusals.{Told, refused}
use Rattle.variables.specs.Terms.{term, once, scaled}
use Rattle.variables.specs.Compact.{compactify}

-- Which lists are outlined: by the entry, which is the number of the list, and its merged list.
abbrev pub Rule : Type 0 → Type 0
Rule V = ℕ → List (Term V) → Bool

abbrev pub outline_none : {V : Type 0} → Rule V
outline_none entry merged = false

-- 1 where a variable names entry k, else 0
abbrev pub names : ℕ → Variable → ℕ
names k (SymbolicLc j) = cond (j.0 == k) 1 0
names k other = 0

-- how often a list names entry k
abbrev pub uses_in : {V : Type 0} → ℕ → List (Term V) → ℕ
uses_in k [] = 0
uses_in k (t ∷ ts) = names k t.variable + uses_in k ts

-- the uses of entry k, over all lists
abbrev pub uses : {V : Type 0} → List (List (Term V)) → ℕ → ℕ
uses [] k = 0
uses (l ∷ ls) k = uses_in k l + uses ls k

-- u × n > u + 2 + n
abbrev pub outweighs : (u n : ℕ) → Bool
outweighs u n = nat_lt (u + 2 + n) (u * n)

-- Weight: with u the uses plus 1 and n the length
abbrev pub weighs_more : (uses n : ℕ) → Bool
weighs_more uses n = outweighs (uses + 1) n

abbrev pub outline_by_weight : {V : Type 0} → List (List (Term V)) → Rule V
outline_by_weight lists entry merged = weighs_more (uses lists entry) (length merged)

-- an added witness: the entry that it stands for, its number among the witnesses, and the merged list of that entry
pub record Outlined (V : Type 0) : Type 0 where
  pub entry : ℕ
  pub witness : ℕ
  pub merged : List (Term V)

-- finalising so far: the finished list of each entry taken, and the added witnesses
pub record Finishing (V : Type 0) : Type 0 where
  pub finished : List (List (Term V))
  pub outlined : List (Outlined V)

abbrev pub untaken : {V : Type 0} → Finishing V
untaken = record { finished = []; outlined = [] }

-- the places that there are
pub record Room : Type 0 where
  pub terms : ℕ
  pub entries : ℕ
  pub witnesses : ℕ

-- the witnesses and entries that are there at the start
pub record Start : Type 0 where
  pub witnesses : ℕ
  pub entries : ℕ

-- finalising so far, and the term places in use
pub record Stage (V : Type 0) : Type 0 where
  pub lists : Finishing V
  pub used : ℕ

-- the places of some lists
abbrev pub places : {X : Type 0} → List (List X) → ℕ
places [] = 0
places (l ∷ ls) = length l + places ls

-- fewer places than are due
abbrev pub lacks : (due places : ℕ) → Bool
lacks due places = nat_lt places due

-- a step that is refused where its test says so, and else goes on
abbrev pub unless : {X : Type 0} → Bool → ℕ → Result X Told → Result X Told
unless fails number next = cond fails (refused number) next

abbrev pub and_then : {X Y : Type 0} → Result X Told → (X → Result Y Told) → Result Y Told
and_then (Ok x) next = next x
and_then (Err e) next = Err e

module _ {V : Type 0} (m : Model V) where
  -- a symbol's term gives way to its finished list with every number multiplied by the term's
  abbrev pub replaced : List (List (Term V)) → V → Variable → List (Term V)
  replaced finished k (SymbolicLc j) = scaled m k (slice_index_or finished j.0 [])
  replaced finished k v = term k v ∷ []

  -- a list written out
  abbrev pub expanded : List (List (Term V)) → List (Term V) → List (Term V)
  expanded finished ts = flat_map (λ t. replaced finished t.number t.variable) ts

  -- a list written out, and equal variables put together
  abbrev pub inlined : List (List (Term V)) → List (Term V) → List (Term V)
  inlined finished ts = compactify m (expanded finished ts)

  -- the list of 1 times v
  abbrev pub single : Variable → List (Term V)
  single v = once m v ∷ []

  module _ (rule : Rule V) (w : ℕ) where
    -- One entry more, whose merged list is given, where w witnesses were there at the start: an outlined one has the new witness as its
    -- finished list, any other its merged list.
    abbrev pub taken : Finishing V → List (Term V) → Finishing V
    taken s merged =
        let entry = length s.finished in
        let witness = w + length s.outlined in
        cond (rule entry merged)
        (record {
          finished = s.finished ++ single (Witness witness) ∷ [];
          outlined = s.outlined ++ record { entry = entry; witness = witness; merged = merged } ∷ [];
        })
        (record { finished = s.finished ++ merged ∷ []; outlined = s.outlined })

    abbrev pub finish_after : Finishing V → List (List (Term V)) → Finishing V
    finish_after s [] = s
    finish_after s (l ∷ ls) = finish_after (taken s (inlined s.finished l)) ls

    -- the entries in rising order
    abbrev pub finish : List (List (Term V)) → Finishing V
    finish lists = finish_after untaken lists

  -- The same with the places that each step takes, and the refusal of the first step that finds too few.
  module _ (rule : Rule V) (room : Room) (start : Start) where
    -- The merged list is in use. An outlined entry takes two term places, a witness and three entries more.
    abbrev pub settled : Stage V → List (Term V) → Result (Stage V) Told
    settled s merged =
        let before = length s.lists.outlined in
        let used = s.used + length merged in
        let next = taken rule start.witnesses s.lists merged in
        cond (rule (length s.lists.finished) merged)
        (unless (lacks (used + 2) room.terms) 14
        (unless (lacks (start.witnesses + before + 1) room.witnesses) 12
        (unless (lacks (start.entries + 3 * before + 3) room.entries) 13
        (Ok (record { lists = next; used = used + 2 })))))
        (Ok (record { lists = next; used = used }))

    -- One entry more: as many places must be free as its list has terms when it is written out.
    abbrev pub step : Stage V → List (Term V) → Result (Stage V) Told
    step s l =
        unless (lacks (s.used + length (expanded s.lists.finished l)) room.terms) 14 (settled s (inlined s.lists.finished l))

    abbrev pub finish_within : Stage V → List (List (Term V)) → Result (Stage V) Told
    finish_within s [] = Ok s
    finish_within s (l ∷ ls) = and_then (step s l) (λ next. finish_within next ls)

  -- The most term places that any step has in use, where `used` are before the first: those of a list written out, and then of what stays.
  module _ (rule : Rule V) (w : ℕ) where
    abbrev pub most_places : Finishing V → ℕ → List (List (Term V)) → ℕ
    most_places s used [] = used
    most_places s used (l ∷ ls) =
        let merged = inlined s.finished l in
        let after = used + length merged + cond (rule (length s.finished) merged) 2 0 in
        max (used + length (expanded s.finished l)) (max after (most_places (taken rule w s merged) after ls))
