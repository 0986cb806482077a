use Rattle.std.proofs.Common.{◌≡◌, Ok, map, rules}
use Rattle.jxlm_bits.specs.Bits.{bytes_of, position_of}
use Rattle.jxlm_bits.specs.ErrorKind.{kind_of}
use Rattle.jxlm_ma_tree.specs.Inner.DraftReading.{node_of}
use Rattle.jxlm_ma_tree.specs.TreeReading.{listing_at, with_clusters}
use Rattle.jxlm_ma_tree.proofs.Reading.{too_deep_is_error}
use Rattle.jxlm_ma_tree.proofs.read.parse_tree.Goals as goal

pub returns-in_err-tree-clause-gives : goal.returns-in_err-tree-clause-gives
unfolding listing_at
returns-in_err-tree-clause-gives g c =
    let d = g.D.Decoder.meaning in
    let decoder = c.in_ok-decoder.decoder in
    let nodes = with_clusters (d.cluster_map decoder) 0 (map node_of c.in_ok-nodes.nodes.items) in
    let reads : listing_at d (bytes_of c.args.bits.now) c.args.node_limit (position_of c.args.bits.now) ≡ Ok (record { value = nodes; state = decoder; position = position_of c.parse_decoder-2.new.bits }) = search rules in
    let deep = rw c.cluster_map.ensures at c.in_err-tree.ensures.err in
    let fact = too_deep_is_error d (bytes_of c.args.bits.now) c.args.node_limit c.args.depth_limit (position_of c.args.bits.now) nodes decoder (position_of c.parse_decoder-2.new.bits) (kind_of c.in_err-tree.field-0.0) reads deep in
    search rules
