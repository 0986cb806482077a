use Rattle.std.proofs.Common.{◌++◌, ◌∙◌, ap, append_assoc}
use Rattle.jxlm_bit_writer.specs.Written.{digits, words_back}
use Rattle.jxl_coding_stream_write.proofs.back.put_back.Goals as goal

pub returns : goal.returns
returns c =
    c.in_ok-put_words.ensures
    ∙ ap (λ xs. xs ++ words_back c.args.words.now) c.in_ok-put_first.ensures
    ∙ append_assoc c.args.bits.now (digits c.args.first.count c.args.first.value) (words_back c.args.words.now)
