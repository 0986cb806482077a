use Rattle.std.proofs.Common.{map}
use Rattle.jxlm_encode_write.specs.Headers.{transform_of}
use Rattle.jxlm_encode.proofs.Writings.{all_written2}
use Rattle.jxlm_encode.proofs.encode.written2.Goals as goal

pub returns : goal.returns
returns c =
    all_written2 c.into_bytes.result (map transform_of c.args.transforms.now) c.args.tree.now c.args.tokens.now _ _ _ _ c.new-bits.ensures c.in_ok-write_header.ensures c.in_ok-write_gamma_tree.ensures
    c.in_ok-write_gamma_tokens.ensures c.into_bytes.ensures
