use Rattle.std.proofs.Common.{◌∷◌, [], ℤ, List, get_or, rules, SFits, w32}
use Rattle.std.specs.Prelude.{pos}
use Rattle.jxlm_tree.proofs.LeafBits.{FitSeven, each-of-seven, entries-of-seven, within-of-seven}
use Rattle.jxlm_tree.proofs.leaf_sets.LeafSets.left_by.Goals as goal

pub left_at-requires : goal.left_at-requires
left_at-requires c =
    let vs : List ℤ = c.args.p9 ∷ c.args.p10 ∷ c.args.p11 ∷ c.args.p12 ∷ c.args.p13 ∷ c.args.p14 ∷ c.args.p15 ∷ [] in
    within-of-seven vs _ _ _ _ _ _ _ c.far_entry.ensures c.far_entry-2.ensures c.far_entry-3.ensures c.far_entry-4.ensures c.far_entry-5.ensures c.far_entry-6.ensures c.far_entry-7.ensures

pub returns-clause-left : goal.returns-clause-left
returns-clause-left c = λ f are i.
    let vs : List ℤ = c.args.p9 ∷ c.args.p10 ∷ c.args.p11 ∷ c.args.p12 ∷ c.args.p13 ∷ c.args.p14 ∷ c.args.p15 ∷ [] in
    let fits : FitSeven vs = each-of-seven (λ k. SFits w32 (get_or vs k (pos 0))) (search rules) (search rules) (search rules) (search rules) (search rules) (search rules) (search rules) in
    c.left_at.ensures.left f
    (entries-of-seven vs f _ _ _ _ _ _ _ fits are c.far_entry.ensures c.far_entry-2.ensures c.far_entry-3.ensures c.far_entry-4.ensures c.far_entry-5.ensures c.far_entry-6.ensures c.far_entry-7.ensures) i
