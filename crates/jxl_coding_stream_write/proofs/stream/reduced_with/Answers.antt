use Rattle.std.proofs.Common.{◌+◌, ◌*◌, ◌%◌, ◌^◌, ◌∙◌, ap}
use Rattle.jxlm_bit_writer.specs.Written.{digits}
use Rattle.jxl_coding_stream_write.proofs.Bits.{after_state}
use Rattle.jxl_coding_stream_write.proofs.Reductions.{given, kept}
use Rattle.jxl_coding_stream_write.proofs.stream.reduced_with.Goals as goal

pub returns-then-takes_bits-clause-bits : goal.returns-then-takes_bits-clause-bits
returns-then-takes_bits-clause-bits c = (
  16,
  c.args.state % 65536,
  given c.args.own.now.count c.args.state (c.takes_bits.ensures.more c.if-takes_bits.true),
  ap (λ x. digits (c.args.width + 16) ((x * 65536 + c.from-last.result) % 2 ^ (c.args.width + 16))) c.from-bits.ensures
      ∙ ap (λ x. digits (c.args.width + 16) ((c.args.token * 65536 + x) % 2 ^ (c.args.width + 16))) c.from-last.ensures
      ∙ after_state c.args.width c.args.token c.args.state,
)

pub returns-clause-bits : goal.returns-clause-bits
returns-clause-bits c = (
  0,
  0,
  kept c.args.own.now.count c.args.state (c.takes_bits.ensures.fewer c.if-takes_bits.false),
  ap (λ x. digits c.args.width (x % 2 ^ c.args.width)) c.from-bits.ensures,
)
