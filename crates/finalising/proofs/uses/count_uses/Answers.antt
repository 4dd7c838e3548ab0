use Rattle.std.proofs.Common.{rules, arith}
use Rattle.account.specs.declared.Mark.TheVariants.{Plain}
use Rattle.tables.specs.Held.{entry}
use Rattle.finalising.proofs.Counts.{none_counted, may_count, one_list_counted, all_lists_counted}
use Rattle.finalising.proofs.uses.count_uses.Goals as goal

pub loop-k-init : goal.loop-k-init
loop-k-init g c = none_counted c.args.terms.now c.args.index.now _ c.requires.few_entries c.clear.ensures

pub overflow_add-end : goal.overflow_add-end
overflow_add-end g c =
    let r = c.requires in
    let may = may_count c.args.terms.now c.args.index.now r.few_terms r.spans r.known c.loop-k.k _ (entry Plain 0 0) (omega arith) c.loop-k.invariant in
    omega (arith, may.fits)

pub offset_bounds-terms-entry : goal.offset_bounds-terms-entry
offset_bounds-terms-entry g c =
    let r = c.requires in
    let may = may_count c.args.terms.now c.args.index.now r.few_terms r.spans r.known c.loop-k.k _ (entry Plain 0 0) (omega arith) c.loop-k.invariant in
    omega (arith, may.fits)

pub slice_bounds-count_list-end : goal.slice_bounds-count_list-end
slice_bounds-count_list-end g c =
    let r = c.requires in
    let may = may_count c.args.terms.now c.args.index.now r.few_terms r.spans r.known c.loop-k.k _ (entry Plain 0 0) (omega arith) c.loop-k.invariant in
    let fits = may.fits in
    search rules

pub count_list-requires-clause-known : goal.count_list-requires-clause-known
count_list-requires-clause-known g c =
    let r = c.requires in
    (may_count c.args.terms.now c.args.index.now r.few_terms r.spans r.known c.loop-k.k _ (entry Plain 0 0) (omega arith) c.loop-k.invariant).known

pub count_list-requires-clause-few : goal.count_list-requires-clause-few
count_list-requires-clause-few g c =
    let r = c.requires in
    (may_count c.args.terms.now c.args.index.now r.few_terms r.spans r.known c.loop-k.k _ (entry Plain 0 0) (omega arith) c.loop-k.invariant).few

pub loop-k-preserved : goal.loop-k-preserved
loop-k-preserved g c =
    let r = c.requires in
    one_list_counted c.args.terms.now c.args.index.now r.few_terms r.spans r.known c.loop-k.k _ (entry Plain 0 0) (omega arith)
    c.loop-k.invariant _ c.count_list.ensures

pub returns : goal.returns
returns g c = all_lists_counted c.args.terms.now c.args.index.now c.loop-k.k _ (omega arith) c.loop-k.invariant
