-- What can be asked of a variable. Assumes nothing.
use Rattle.std.specs.Prelude.{ℕ, ◌+◌, ◌^◌, Bool, true, false, cond, Some, None, Option, nat_lt}
use Rattle.variables.specs.declared.LcIndex.{LcIndex}
use Rattle.variables.specs.declared.Variable.{Variable}
use Rattle.variables.specs.declared.Variable.TheVariants.{Zero, One, Instance, Witness, SymbolicLc}

abbrev pub is_zero : Variable → Bool
is_zero Zero = true
is_zero other = false

abbrev pub is_one : Variable → Bool
is_one One = true
is_one other = false

abbrev pub is_instance : Variable → Bool
is_instance (Instance i) = true
is_instance other = false

abbrev pub is_witness : Variable → Bool
is_witness (Witness i) = true
is_witness other = false

abbrev pub is_lc : Variable → Bool
is_lc (SymbolicLc k) = true
is_lc other = false

abbrev pub lc_index : Variable → Option LcIndex
lc_index (SymbolicLc k) = Some k
lc_index other = None

-- the column of a variable: One is column 0, Instance(i) column i, Witness(i) the offset plus i
abbrev pub column : ℕ → Variable → Option ℕ
column offset Zero = None
column offset One = Some 0
column offset (Instance i) = Some i
column offset (Witness i) = Some (offset + i)
column offset (SymbolicLc k) = None

-- a number where it is one of 64 bits, and else none
abbrev pub if_word : Option ℕ → Option ℕ
if_word None = None
if_word (Some j) = cond (nat_lt j (2 ^ 64)) (Some j) None

-- the column of a variable, where it is a number of 64 bits
abbrev pub column_of : ℕ → Variable → Option ℕ
column_of offset v = if_word (column offset v)
