use Rattle.std.proofs.Common.{◌%◌, ◌^◌, ◌++◌, ◌∙◌, ap}
use Rattle.jxlm_bit_writer.specs.Written.{digits}
use Rattle.jxlm_bit_writer.proofs.HeldBits.{digits_mod}
use Rattle.jxl_coding_stream_write.specs.Inner.Backward.{bits_back}
use Rattle.jxl_coding_stream_write.proofs.back.prepend.Goals as goal

pub returns : goal.returns
returns c =
    c.in_ok-first.ensures
    ∙ ap (λ x. digits c.args.piece.count (x % 2 ^ c.args.piece.count) ++ bits_back c.args.first c.args.words.now.items) c.from.ensures
    ∙ ap (λ xs. xs ++ bits_back c.args.first c.args.words.now.items) (digits_mod c.args.piece.count c.args.piece.value)
