use Rattle.jxlm_tree.proofs.LeafBits.{left-over}
use Rattle.jxlm_tree.proofs.leaf_sets.LeafSets.left_at.Goals as goal

pub returns-clause-left : goal.returns-clause-left
returns-clause-left c = λ f are i.
    let sets = c.args.self.now.sets.items in
    left-over sets c.args.entries.now f _ _ _ _ _ _ _ i are
    c.set.ensures.set c.set-2.ensures.set c.set-3.ensures.set c.set-4.ensures.set c.set-5.ensures.set c.set-6.ensures.set c.set-7.ensures.set
