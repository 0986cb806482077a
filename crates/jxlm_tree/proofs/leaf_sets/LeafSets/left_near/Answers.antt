use Rattle.std.proofs.Common.{get_or, rules, SFits, w32}
use Rattle.std.specs.Prelude.{pos}
use Rattle.jxlm_tree.proofs.LeafBits.{FitSeven, each-of-seven, entries-of-seven, within-of-seven}
use Rattle.jxlm_tree.proofs.leaf_sets.LeafSets.left_near.Goals as goal

pub left_at-requires : goal.left_at-requires
left_at-requires c =
    within-of-seven c.args.values.now _ _ _ _ _ _ _ c.near_entry.ensures c.near_entry-2.ensures c.near_entry-3.ensures c.near_entry-4.ensures c.near_entry-5.ensures c.near_entry-6.ensures c.near_entry-7.ensures

pub returns-clause-left : goal.returns-clause-left
returns-clause-left c = λ f are i.
    let vs = c.args.values.now in
    let fits : FitSeven vs = each-of-seven (λ k. SFits w32 (get_or vs k (pos 0))) (search rules) (search rules) (search rules) (search rules) (search rules) (search rules) (search rules) in
    c.left_at.ensures.left f
    (entries-of-seven vs f _ _ _ _ _ _ _ fits are c.near_entry.ensures c.near_entry-2.ensures c.near_entry-3.ensures c.near_entry-4.ensures c.near_entry-5.ensures c.near_entry-6.ensures c.near_entry-7.ensures) i
