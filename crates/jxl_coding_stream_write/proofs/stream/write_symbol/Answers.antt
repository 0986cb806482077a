use Rattle.std.proofs.Common.{◌%◌, ◌++◌, ◌∙◌, ap, refl, arith}
use Rattle.jxlm_bit_writer.specs.Written.{digits}
use Rattle.jxl_coding_stream_write.specs.Inner.Backward.{bits_back}
use Rattle.jxl_coding_stream_write.proofs.Reductions.{given, kept}
use Rattle.jxl_coding_stream_write.proofs.stream.write_symbol.Goals as goal

pub takes_bits-requires : goal.takes_bits-requires
takes_bits-requires c =
    let m = c.slots_of-own.ensures.many in
    let o = c.requires.occurs in
    omega (arith, m, o)

pub returns-then-takes_bits : goal.returns-then-takes_bits
returns-then-takes_bits c =
    let reduced = given c.slots_of-own.result.now.count c.args.after.state (c.takes_bits.ensures.more c.if-takes_bits.true) in
    (16, c.args.after.state % 65536, c.state_before.ensures c.args.after.state 16 (c.args.after.state % 65536) c.requires.state c.requires.below reduced, c.in_ok-first.ensures ∙ ap (λ x. digits 16 (x % 65536) ++ bits_back c.args.after.first c.args.words.now.items) c.from.ensures)

pub returns : goal.returns
returns c =
    let reduced = kept c.slots_of-own.result.now.count c.args.after.state (c.takes_bits.ensures.fewer c.if-takes_bits.false) in
    (0, 0, c.state_before-2.ensures c.args.after.state 0 0 c.requires.state c.requires.below reduced, refl)
