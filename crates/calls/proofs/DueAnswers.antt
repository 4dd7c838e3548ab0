-- What it says of one call that it is answered as is due. Assumes nothing.
use Rattle.std.proofs.Common.{◌≡◌, ◌≢◌, ◌↔◌, Bool, true, false, cond, Some, None, Ok, Err, Option, refl}
use Rattle.field.specs.Laws.{Model}
use Rattle.variables.specs.Refusals.{Told}
use Rattle.account.specs.Account.{Account, builds}
use Rattle.account.specs.Calls as account
use Rattle.account.specs.Calls.{effect_of, answer_of}
use Rattle.account.specs.Refusals.{Lengths, refusal}
use Rattle.account.specs.Run.{by_refusal}
use Rattle.calls.specs.Promise.{DueTo}
use Rattle.calls.proofs.LogDue.{Due, Said, due_to}

module _ {V : Type 0} where
  -- a call is out of place exactly where it does not build
  none_where : (b : Bool) (d : Due V) (said : Said V) → said ≡ cond b (Some d) None → (said ≡ None) ↔ (b ≡ false)
  none_where true d said e = (λ n. cc, λ f. cc)
  none_where false d said e = (λ _. refl, λ _. e)

  module _ (m : Model V) where
    -- it is refused exactly where it builds and its refusal is that one
    refused_where : (b : Bool) (o : Option Told) (a : account.Answer V) (said : Said V) → said ≡ cond b (Some (by_refusal m o a)) None → (r : Told)
        → (said ≡ Some (Err r)) ↔ ((b ≡ true) × (o ≡ Some r))
    refused_where true None a said e r = (λ h. absurd cc, λ h. let no = h.1 in cc)
    refused_where true (Some s) a said e r = (λ h. (refl, cc), λ h. let same = h.1 in cc)
    refused_where false o a said e r = (λ h. absurd cc, λ h. let no = h.0 in cc)

    -- where it is accepted its answer is that one
    accepted_is : (b : Bool) (o : Option Told) (due : account.Answer V) (said : Said V) → said ≡ cond b (Some (by_refusal m o due)) None
        → (a : account.Answer V) → said ≡ Some (Ok a) → a ≡ due
    accepted_is true None due said e a h = cc
    accepted_is true (Some s) due said e a h = cc
    accepted_is false o due said e a h = cc

    -- a call that is answered as is due, and not refused by 17
    pub answered_due : (k : Lengths) (x : Account V) (call : account.Call V) (said : Said V) → said ≡ due_to m k x call
        → ((r : Told) → said ≡ Some (Err r) → r.number ≢ 17) → DueTo m k x call said
    answered_due k x call said e other =
        let b = builds x (effect_of call) in
        let o = refusal m k x call in
        let a = answer_of m x call in
        record {
          out_of_place = none_where b (by_refusal m o a) said e;
          refused = refused_where b o a said e;
          never_17 = other;
          accepted = accepted_is b o a said e;
        }
