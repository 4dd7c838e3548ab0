-- Which symbols lists name, and how uses add up. Assumes nothing.
use Rattle.std.specs.Prelude.{ℕ, suc, ◌+◌, ◌<◌, ◌^◌, List, [], ◌∷◌}
use Rattle.std.specs.List.{AllByRecursion}
use Rattle.variables.specs.declared.Variable.{Variable}
use Rattle.variables.specs.declared.Variable.TheVariants.{Zero, One, Instance, Witness, SymbolicLc}
use Rattle.variables.specs.declared.Term.{Term}
use Rattle.tables.specs.declared.Entry.{Entry}

-- a symbol below k, or no symbol
abbrev pub SymbolBelow : ℕ → Variable → Type 0
SymbolBelow k Zero = Unit {0}
SymbolBelow k One = Unit {0}
SymbolBelow k (Instance i) = Unit {0}
SymbolBelow k (Witness i) = Unit {0}
SymbolBelow k (SymbolicLc j) = j.0 < k

abbrev pub AllBelow : {V : Type 0} → ℕ → List (Term V) → Type 0
AllBelow k ts = AllByRecursion (λ t. SymbolBelow k t.variable) ts

abbrev pub ListsBelow : {V : Type 0} → ℕ → List (List (Term V)) → Type 0
ListsBelow k ls = AllByRecursion (AllBelow k) ls

-- the finished length of each entry, from number k on, gains f of its number
abbrev pub gaining : (ℕ → ℕ) → ℕ → List Entry → List Entry
gaining f k [] = []
gaining f k (e ∷ es) = record e { finished_len = e.finished_len + f k } ∷ gaining f (suc k) es

-- each finished length and so many more are a number of 64 bits
abbrev pub HasRoom : ℕ → List Entry → Type 0
HasRoom n es = AllByRecursion (λ e. e.finished_len + n < 2 ^ 64) es
