-- A call that is refused as its account says follows the account. Assumes nothing.
use Rattle.std.proofs.Common.{◌≡◌, ◌∙◌, Some, None, Ok, Err, Option, Result, sym, refl, ap, subst}
use Rattle.field.specs.Laws.{Model}
use Rattle.variables.specs.Refusals.{Told}
use Rattle.account.specs.Account.{changed}
use Rattle.account.specs.Calls.{Call, Answer, effect_of, answer_of, after}
use Rattle.account.specs.Refusals.{used_terms, refusal}
use Rattle.account.specs.Run.{by_refusal, due}
use Rattle.tables.specs.Held.{State, lengths}
use Rattle.tables.specs.Sound.{account_of}
use Rattle.tables.specs.Calls.{outcome}
use Rattle.tables.specs.Follows.{Shows, answer_as, Follows}

module _ {V : Type 0} (m : Model V) where
  -- that the account which the tables hold is followed
  abbrev FollowsOwn : Call V → Result (Answer V) Told → (before now : State V) → Type 0
  FollowsOwn call answer before now =
      let x = account_of before in
      Shows before x → (answer ≡ due m (lengths before.tables) x call) × Shows now (after m x (record { call = call; answer = answer }))

  -- this is enough
  follows_own : (call : Call V) (answer : Result (Answer V) Told) (before now : State V) → FollowsOwn call answer before now → Follows m call answer before now
  follows_own call answer before now h x shows =
      subst (λ y. (answer ≡ due m (lengths before.tables) y call) × Shows now (after m y (record { call = call; answer = answer }))) shows.account
      (h (record { sound = shows.sound; account = refl; terms = shows.terms ∙ ap used_terms (sym shows.account) }))

  -- So is to be refused as that account says, and where not refused to answer and leave what it says. Of the tables the call changes what
  -- `state` makes of its outcome.
  pub outcome_follows : {S X : Type 0} (call : Call V) (f : X → Answer V) (state : S → State V) (o : Option Told) (answer : X) (accepted before : S)
      → (let s = state before in Shows s (account_of s) → o ≡ refusal m (lengths s.tables) (account_of s) call)
      → (let s = state before in Shows s (account_of s) → f answer ≡ answer_of m (account_of s) call)
      → (let s = state before in Shows s (account_of s) → o ≡ None → Shows (state accepted) (changed m (account_of s) (effect_of call)))
      → let z = outcome o answer accepted before in Follows m call (answer_as f z.answer) (state before) (state z.state)
  outcome_follows call f state None answer accepted before refused answered leaves =
      follows_own call (Ok (f answer)) (state before) (state accepted)
      (λ shows. (ap Ok (answered shows) ∙ ap (λ o. by_refusal m o (answer_of m (account_of (state before)) call)) (refused shows), leaves shows refl))
  outcome_follows call f state (Some r) answer accepted before refused answered leaves =
      follows_own call (Err r) (state before) (state before)
      (λ shows. (ap (λ o. by_refusal m o (answer_of m (account_of (state before)) call)) (refused shows), shows))
