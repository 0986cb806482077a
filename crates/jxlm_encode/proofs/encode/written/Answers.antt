use Rattle.jxlm_encode.proofs.Writings.{all_written}
use Rattle.jxlm_encode.proofs.encode.written.Goals as goal

pub returns : goal.returns
returns c =
    all_written c.into_bytes.result _ c.args.tree.now c.args.nodes.now c.args.tokens.now c.width_of.result c.width_of-width.result _ _ _ _ c.new-bits.ensures c.in_ok-write_header.ensures c.in_ok-write_tree.ensures
    c.in_ok-write_tokens.ensures c.width_of.ensures.fits c.width_of.ensures.least c.width_of-width.ensures.fits c.width_of-width.ensures.least c.requires.nodes c.into_bytes.ensures
