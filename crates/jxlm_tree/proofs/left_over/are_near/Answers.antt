use Rattle.std.proofs.Common.{get_or, rules, SFits, w32}
use Rattle.std.specs.Prelude.{pos}
use Rattle.jxlm_tree.proofs.LeafBits.{FitSeven, each-of-seven, near-of-seven}
use Rattle.jxlm_tree.proofs.left_over.are_near.Goals as goal

pub returns : goal.returns
returns c =
    let vs = c.args.values.now in
    let fits : FitSeven vs = each-of-seven (λ k. SFits w32 (get_or vs k (pos 0))) (search rules) (search rules) (search rules) (search rules) (search rules) (search rules) (search rules) in
    near-of-seven vs _ _ _ _ _ _ _ fits c.is_near.ensures c.is_near-2.ensures c.is_near-3.ensures c.is_near-4.ensures c.is_near-5.ensures c.is_near-6.ensures c.is_near-7.ensures
