use Rattle.std.proofs.Common.{arith}
use Rattle.jxl_coding_build.specs.AnyWriters.{codes_in}
use Rattle.jxl_encode_tree.proofs.CodedTrees.{few_leaves, tree_written}
use Rattle.jxl_encode_tree.proofs.tree.write_tree.Goals as goal

pub write_head-requires-clause-contexts : goal.write_head-requires-clause-contexts
write_head-requires-clause-contexts c =
    let least = few_leaves c.args.nodes.now in
    let contexts = c.requires.contexts in
    let few = c.requires.few in
    omega (arith, least, contexts, few)

pub returns : goal.returns
returns c =
    tree_written c.read_trees_stand.ensures c.each_tree_is_read_exactly.ensures.exactly c.args.nodes.now (codes_in c.args.leaves.now) c.requires.few c.requires.contexts _ _ _ c.in_ok-write_nodes.ensures
    c.in_ok-write_head.ensures
