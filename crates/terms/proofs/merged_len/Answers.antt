use Rattle.std.proofs.Common.{◌+◌, ◌<◌, ◌^◌, length, refl, ◌∙◌, inl, arith, rules}
use Rattle.std.proofs.lemmas.Iterator.Consumers.{count_from_yields_List, YieldsList-from_first}
use Rattle.variables.specs.Merge.{merged}
use Rattle.terms.proofs.Merges.{merged_fits, merged_length}
use Rattle.terms.proofs.merged_len.Goals as goal

pub count-requires-clause-fits : goal.count-requires-clause-fits
count-requires-clause-fits g c =
    let fits : length c.args.left.now + length c.args.right.now < 2 ^ 64 = search rules in
    inl (omega (arith, merged_fits (λ (b : g.row.F.Denot). b) (λ a b. a)))

pub returns : goal.returns
returns g c push combine =
    let xs = c.args.left.now in
    let ys = c.args.right.now in
    count_from_yields_List _ c.count.result c.count.ensures.ran (YieldsList-from_first (λ x. x) _ (merged (λ b. b) (λ a b. a) xs ys) refl)
    ∙ merged_length (λ b. b) push (λ a b. a) combine xs ys
