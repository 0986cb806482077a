use Rattle.std.proofs.Common.{◌∙◌}
use Rattle.jxlm_encode.proofs.TreesRead.{not_read, read_back_is}
use Rattle.jxlm_encode.proofs.listing.read_back.Goals as goal

pub returns-in-Ok-clause-ok : goal.returns-in-Ok-clause-ok
returns-in-Ok-clause-ok c =
    read_back_is c.each_tree_is_read_exactly.ensures.exactly c.each_tree_is_read_exactly.ensures.one c.in_ok-bytes.bytes.items c.args.tokens.now _ _ _ c.args.nodes.now c.width_of.result c.args.limit _ c.width_of.ensures.narrow c.width_of.ensures.fits c.requires.tokens c.requires.few c.requires.limit
    c.new-bits.ensures c.in_ok-write_tree.ensures c.in_ok-bytes.ensures (c.new-reader.ensures.bytes ∙ c.deref.ensures.value) c.new-reader.ensures.position c.requires.lists c.in-Ok.config _ c.in-Ok.ensures.gives

pub returns-clause-err : goal.returns-clause-err
returns-clause-err c =
    not_read c.each_tree_is_read_exactly.ensures.exactly c.each_tree_is_read_exactly.ensures.one c.in_ok-bytes.bytes.items c.args.tokens.now _ _ _ c.args.nodes.now c.width_of.result c.args.limit _ c.width_of.ensures.narrow c.width_of.ensures.fits c.requires.tokens c.requires.few c.requires.limit
    c.new-bits.ensures c.in_ok-write_tree.ensures c.in_ok-bytes.ensures (c.new-reader.ensures.bytes ∙ c.deref.ensures.value) c.new-reader.ensures.position c.in-Err.error _ c.in-Err.ensures.gives _ c.unless_memory.ensures
