use Rattle.std.proofs.Common.{pos}
use Rattle.jxlm_bits.specs.Bits.{bytes_of, position_of}
use Rattle.jxl_lossless.proofs.Headers.{not_opened, opened_as}
use Rattle.jxl_lossless.proofs.still.opening.read_image.Goals as goal

pub returns-in-Ok-clause-ok : goal.returns-in-Ok-clause-ok
returns-in-Ok-clause-ok g c =
    opened_as g.D.Decoder.meaning (g.S.Sealed.from_int (pos 0)) (bytes_of c.args.bits.now) (position_of c.args.bits.now) c.args.params c.args.params.channels.items (position_of c.parse.new.bits) c.in-Ok.modular
    c.into_image.result c.in-Ok.ensures.gives c.into_image.ensures c.requires.plain

pub returns-in-Err-clause-err : goal.returns-in-Err-clause-err
returns-in-Err-clause-err g c =
    not_opened g.D.Decoder.meaning (g.S.Sealed.from_int (pos 0)) (bytes_of c.args.bits.now) (position_of c.args.bits.now) c.args.params c.args.params.channels.items (position_of c.parse.new.bits) c.in-Err.error c.in-Err.ensures.gives c.requires.plain
