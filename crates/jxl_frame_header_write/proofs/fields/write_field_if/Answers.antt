use Rattle.jxlm_bits.specs.Grammar.{u32}
use Rattle.jxlm_bit_writer.proofs.WriteLaws.{absent}
use Rattle.jxl_image_header_write.proofs.Spellings.{present}
use Rattle.jxl_frame_header_write.proofs.fields.write_field_if.Goals as goal

pub returns-then-not-present : goal.returns-then-not-present
returns-then-not-present c =
    absent c.args.present (u32 c.args.d0 c.args.d1 c.args.d2 c.args.d3) c.args.usual c.args.value c.args.bits.now c.if-not-present.true (c.requires.usual c.if-not-present.true)

pub returns : goal.returns
returns c =
    present c.args.present (u32 c.args.d0 c.args.d1 c.args.d2 c.args.d3) c.args.usual c.args.value c.args.bits.now c.write_u32.new.bits c.if-not-present.false c.in_ok-write_u32.ensures
