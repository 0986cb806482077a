use Rattle.std.proofs.Common.{◌++◌, ◌∙◌, ap}
use Rattle.std.specs.List.{flat_map}
use Rattle.jxlm_bit_writer.specs.Written.{words_back}
use Rattle.jxl_coding_stream_write.proofs.Bits.{blocks_put}
use Rattle.jxl_coding_stream_write.proofs.back.put_words.Goals as goal

pub returns : goal.returns
returns c =
    let e = c.in_ok-put_blocks.ensures ∙ ap (λ xs. xs ++ words_back (flat_map (λ x. x) c.as_rchunks.result.1.now)) c.replace-writer.ensures.value in
    blocks_put c.args.bits.now c.put_blocks.new.bits c.put_each.new.bits c.as_rchunks.result.0.now c.args.words.now c.as_rchunks.result.1.now c.as_rchunks.ensures.front c.as_rchunks.ensures.back e c.in_ok-put_each.ensures
