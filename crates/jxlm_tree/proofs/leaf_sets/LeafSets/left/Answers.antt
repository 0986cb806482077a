use Rattle.std.proofs.Common.{get_or, rules, SFits, w32}
use Rattle.std.specs.Prelude.{pos}
use Rattle.jxlm_tree.proofs.LeafBits.{FitSeven, each-of-seven, values-of-seven}
use Rattle.jxlm_tree.proofs.leaf_sets.LeafSets.left.Goals as goal

pub returns-else-are_near-clause-left : goal.returns-else-are_near-clause-left
returns-else-are_near-clause-left c = λ f are i.
    let vs = c.args.values.now in
    let fits : FitSeven vs = each-of-seven (λ k. SFits w32 (get_or vs k (pos 0))) (search rules) (search rules) (search rules) (search rules) (search rules) (search rules) (search rules) in
    c.left_by.ensures.left f (values-of-seven vs f fits are) i
