-- What makes the lists of a circuit sound. Assumes nothing.
use Rattle.std.specs.Prelude.{◌≡◌, ℕ, List, length, Some, Option}
use Rattle.std.specs.List.{AllByRecursion}
use Rattle.variables.specs.declared.Term.{Term}
use Rattle.variables.specs.Evaluate.{SymbolFree}
use Rattle.account.specs.declared.Mark.TheVariants.{Plain}
use Rattle.account.specs.declared.SynthesisMode.{SynthesisMode}
use Rattle.account.specs.Given.{Given, marks, Known}
use Rattle.account.specs.Rows.{constraints}
use Rattle.account.specs.Account.{Account, KeepsMatrices, lists_of, witness_count, constraint_count, all_given}

-- The lists of a circuit of n instances, w witnesses and so many constraints are sound:
pub record SoundLists {V : Type 0} (mode : SynthesisMode) (n w count : ℕ) (given : List (Given V)) (finished : Option (List (List (Term V)))) : Type 0 where
  -- Each given list names only what is known where it stands, and marks other than plain come in triples A, B, C, as many as there are
  -- constraints; in bare mode there are none.
  pub known : Known n w given
  pub triples : KeepsMatrices mode → length (constraints given) ≡ count
  pub bare : (KeepsMatrices mode → ⊥) → AllByRecursion (λ mark. mark ≡ Plain) (marks given)
  -- Once finished with matrices there is a finished list for each entry, which names no symbol and only what is known.
  pub long : KeepsMatrices mode → (ls : List (List (Term V))) → finished ≡ Some ls → length ls ≡ length given
  pub symbol_free : KeepsMatrices mode → (ls : List (List (Term V))) → finished ≡ Some ls → AllByRecursion (λ ts. AllByRecursion (λ t. SymbolFree n w t.variable) ts) ls

-- those of an account are: all that were given, the lists of added rows among them, and all finished ones
abbrev pub Sound : {V : Type 0} → Account V → Type 0
Sound x = SoundLists x.mode x.instances.count (witness_count x) (constraint_count x) (all_given x) (lists_of x.finished)
