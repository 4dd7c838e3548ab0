-- That calls on lent tables are those of the account. Assumes nothing.
use Rattle.std.specs.Prelude.{◌≡◌, Result, Ok, Err}
use Rattle.field.specs.Laws.{Model}
use Rattle.variables.specs.declared.Refusal.{Refusal}
use Rattle.variables.specs.Refusals.{Told, told}
use Rattle.account.specs.Account.{Account}
use Rattle.account.specs.Calls.{Call, Answer, after}
use Rattle.account.specs.Refusals.{used_terms}
use Rattle.account.specs.Run.{due}
use Rattle.tables.specs.Held.{State, lengths}
use Rattle.tables.specs.Sound.{account_of, SoundTables}

-- The tables show this account of an open circuit: they are sound, they hold it, and its lists take all term places in use.
pub record Shows {V : Type 0} (s : State V) (x : Account V) : Type 0 where
  pub sound : SoundTables s
  pub account : account_of s ≡ x
  pub terms : s.counts.terms ≡ used_terms x

-- what was returned, as the answer of a call
abbrev pub given_back : {V X E : Type 0} → (E → Told) → (X → Answer V) → Result X E → Result (Answer V) Told
given_back tell f (Ok x) = Ok (f x)
given_back tell f (Err e) = Err (tell e)

abbrev pub answer_by : {V X : Type 0} → (X → Answer V) → Result X Refusal → Result (Answer V) Told
answer_by f r = given_back told f r

-- the same of an answer whose refusal is told already
abbrev pub answer_as : {V X : Type 0} → (X → Answer V) → Result X Told → Result (Answer V) Told
answer_as f r = given_back (λ e. e) f r

module _ {V : Type 0} (m : Model V) where
  -- Whatever account the tables show, the call is answered or refused as is due by it, and after it they show what the account is then.
  abbrev pub Follows : Call V → Result (Answer V) Told → (before now : State V) → Type 0
  Follows call answer before now =
      (x : Account V) → Shows before x → (answer ≡ due m (lengths before.tables) x call) × Shows now (after m x (record { call = call; answer = answer }))
