-- Lists as they were handed in, and which variables each may name. Assumes nothing.
use Rattle.std.specs.Prelude.{◌≡◌, ℕ, ◌<◌, List, [], ◌∷◌, ◌++◌, map, length, slice_index_or}
use Rattle.std.specs.List.{AllByRecursion}
use Rattle.variables.specs.declared.Variable.{Variable}
use Rattle.variables.specs.declared.Variable.TheVariants.{Zero, One, Instance, Witness, SymbolicLc}
use Rattle.variables.specs.declared.Term.{Term}
use Rattle.account.specs.declared.Mark.{Mark}
use Rattle.account.specs.declared.Mark.TheVariants.{Plain, A, B, C}

-- a list as handed in, with its mark; the symbol k stands for the list k
pub record Given (V : Type 0) : Type 0 where
  pub mark : Mark
  pub terms : List (Term V)

abbrev pub marks : {V : Type 0} → List (Given V) → List Mark
marks given = map (λ g. g.mark) given

abbrev pub lists : {V : Type 0} → List (Given V) → List (List (Term V))
lists given = map (λ g. g.terms) given

abbrev pub marked : {V : Type 0} → Mark → List (Term V) → Given V
marked mark ts = record { mark = mark; terms = ts }

-- Zero and One are known, an instance or witness below its count, and a symbol whose list comes before and is plain
abbrev pub KnownVariable : ℕ → ℕ → List Mark → Variable → Type 0
KnownVariable n w before Zero = Unit {0}
KnownVariable n w before One = Unit {0}
KnownVariable n w before (Instance i) = i < n
KnownVariable n w before (Witness i) = i < w
KnownVariable n w before (SymbolicLc k) = (k.0 < length before) × (slice_index_or before k.0 A ≡ Plain)

abbrev pub KnownTerms : {V : Type 0} → ℕ → ℕ → List Mark → List (Term V) → Type 0
KnownTerms n w before ts = AllByRecursion (λ t. KnownVariable n w before t.variable) ts

-- lists that come after those with the marks `before`
abbrev pub KnownAfter : {V : Type 0} → ℕ → ℕ → List Mark → List (Given V) → Type 0
KnownAfter n w before [] = Unit {0}
KnownAfter n w before (g ∷ gs) = KnownTerms n w before g.terms × KnownAfter n w (before ++ g.mark ∷ []) gs

-- marks other than plain come in triples A, B, C
pub data Triples : List Mark → Type 0 where
  none : Triples []
  plain : {ms : List Mark} → Triples ms → Triples (Plain ∷ ms)
  triple : {ms : List Mark} → Triples ms → Triples (A ∷ B ∷ C ∷ ms)

-- over n instances and w witnesses each list names only what is known where it stands, and the lists of constraints come in threes
pub record Known {V : Type 0} (n w : ℕ) (given : List (Given V)) : Type 0 where
  pub terms : KnownAfter n w [] given
  pub triples : Triples (marks given)
