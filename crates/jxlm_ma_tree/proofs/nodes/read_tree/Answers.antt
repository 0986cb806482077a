use Rattle.std.proofs.Common.{◌≡◌, Ok, map, rules}
use Rattle.jxlm_bits.specs.Bits.{bytes_of, position_of}
use Rattle.jxlm_ma_tree.specs.Inner.DraftReading.{node_of}
use Rattle.jxlm_ma_tree.specs.TreeReading.{drafts_at}
use Rattle.jxlm_ma_tree.proofs.Reading.{drafts_close}
use Rattle.jxlm_ma_tree.proofs.nodes.read_tree.Goals as goal

pub returns-clause-listing : goal.returns-clause-listing
unfolding drafts_at
returns-clause-listing g c =
    let reads : drafts_at g.D.Decoder.meaning (bytes_of c.args.bits.now) c.args.node_limit c.args.decoder.now (position_of c.args.bits.now) ≡ Ok (record { value = map node_of c.in_ok-nodes.nodes.items; position = position_of c.read_nodes.new.bits }) = search rules in
    drafts_close g.D.Decoder.meaning _ c.args.node_limit c.args.decoder.now _ _ reads
