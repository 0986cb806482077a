use Rattle.std.proofs.Common.{◌∙◌}
use Rattle.jxl_coding_stream_write.specs.Codes.{codes_of}
use Rattle.jxl_encode_tree.proofs.CodedTrees.{written_read, written_refused}
use Rattle.jxl_encode_tree.proofs.tree.read_back.Goals as goal

pub returns-in-Ok-clause-ok : goal.returns-in-Ok-clause-ok
returns-in-Ok-clause-ok c =
    written_read c.each_tree_is_read_exactly.ensures.exactly c.each_tree_is_read_exactly.ensures.one c.args.nodes.now c.args.clusters.now (codes_of c.in_ok-codes.codes)
    (c.in_ok-codes.ensures.clusters ∙ c.in_ok-copied.ensures) c.args.limits.node_limit c.args.limits.depth_limit c.requires.few c.requires.lists c.in_ok-bytes.bytes.items _ _ _ _ c.new-bits.ensures
    c.in_ok-write_tree.ensures c.in_ok-bytes.ensures (c.new-reader.ensures.bytes ∙ c.deref.ensures.value) c.new-reader.ensures.position c.in-Ok.config _ c.in-Ok.ensures.gives

pub returns-clause-err : goal.returns-clause-err
returns-clause-err c =
    written_refused c.each_tree_is_read_exactly.ensures.exactly c.each_tree_is_read_exactly.ensures.one c.args.nodes.now c.args.clusters.now (codes_of c.in_ok-codes.codes)
    (c.in_ok-codes.ensures.clusters ∙ c.in_ok-copied.ensures) c.args.limits.node_limit c.args.limits.depth_limit c.requires.few c.requires.lists c.in_ok-bytes.bytes.items _ _ _ _ c.new-bits.ensures
    c.in_ok-write_tree.ensures c.in_ok-bytes.ensures (c.new-reader.ensures.bytes ∙ c.deref.ensures.value) c.new-reader.ensures.position c.in-Err.error _ c.in-Err.ensures.gives _ c.unless_memory.ensures
