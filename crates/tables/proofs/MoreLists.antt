-- Lists stay sound with more variables, with lists more and, where there are none, in another mode. Assumes nothing.
use Rattle.std.proofs.Common.{ℕ, ◌+◌, ◌≤◌, List, [], ◌++◌, length, None, refl, ap, ◌∙◌, arith, length-append}
use Rattle.account.specs.declared.SynthesisMode.{SynthesisMode}
use Rattle.account.specs.Given.{Given, none, Known}
use Rattle.account.specs.Rows.{constraints}
use Rattle.account.specs.Account.{Effect}
use Rattle.account.specs.Calls.{constraint_in, lists_in}
use Rattle.account.specs.Sound.{SoundLists}
use Rattle.account.proofs.Sounds.{known_wider, written_in, bare_in}
use Rattle.account.proofs.SoundLists.{plain_where_none, none_where_plain, open_lists}

module _ {V : Type 0} where
  -- over more variables
  pub lists_wider : (mode : SynthesisMode) (n w count n' w' : ℕ) (given : List (Given V)) → n ≤ n' → w ≤ w' → SoundLists mode n w count given None
      → SoundLists mode n' w' count given None
  lists_wider mode n w count n' w' given a b s = open_lists mode n' w' count given (known_wider n w n' w' a b given s.known) s.triples s.bare

  -- no list at all, in every mode
  pub no_lists : (mode : SynthesisMode) (n w : ℕ) → SoundLists {V = V} mode n w 0 [] None
  no_lists mode n w = open_lists mode n w 0 [] (record { terms = tt; triples = none }) (λ k. refl) (λ k. tt)

  -- with the lists that an effect brings, where all is known then
  pub lists_more : (mode : SynthesisMode) (n w count : ℕ) (given : List (Given V)) (e : Effect V) → SoundLists mode n w count given None
      → Known n w (given ++ lists_in mode e) → SoundLists mode n w (count + length (constraint_in e)) (given ++ lists_in mode e) None
  lists_more mode n w count given e s known =
      open_lists mode n w (count + length (constraint_in e)) (given ++ lists_in mode e) known
      (λ k. ap length (written_in mode given e s.known.triples k) ∙ omega (arith, length-append (constraints given) (constraint_in e), s.triples k))
      (λ k. plain_where_none (given ++ lists_in mode e) known.triples (bare_in mode given e s.known.triples k ∙ none_where_plain given (s.bare k)))
