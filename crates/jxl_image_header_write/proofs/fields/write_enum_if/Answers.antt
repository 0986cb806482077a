use Rattle.jxl_image_header.specs.Fields.{enum_number}
use Rattle.jxlm_bit_writer.proofs.WriteLaws.{absent}
use Rattle.jxl_image_header_write.proofs.Spellings.{enum_present}
use Rattle.jxl_image_header_write.proofs.fields.write_enum_if.Goals as goal

pub returns-then-not-present : goal.returns-then-not-present
returns-then-not-present c = absent c.args.present enum_number c.args.usual c.args.value c.args.bits.now c.if-not-present.true (c.requires.usual c.if-not-present.true)

pub returns : goal.returns
returns c = enum_present c.args.present c.args.value c.args.usual c.args.bits.now c.write_u32.new.bits c.if-not-present.false c.in_ok-write_u32.ensures
