use Rattle.std.proofs.Common.{◌≡◌, map, drop}
use Rattle.account.specs.Refusals.{terms_refusal}
use Rattle.circuits.proofs.scope.Scope.check_list.Given as goal

abbrev pub invariant-loop-term : goal.invariant-loop-term
invariant-loop-term g l =
    let marks = map (λ e. e.mark) l.self.before.now in
    terms_refusal l.self.instances l.self.witnesses marks l.list l.term-counter (drop l.term-counter l.terms)
    ≡ terms_refusal l.self.instances l.self.witnesses marks l.list 0 l.terms
