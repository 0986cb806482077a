use Rattle.std.proofs.Common.{refl}
use Rattle.jxl_image_header.specs.Fields.{extensions}
use Rattle.jxlm_bit_writer.proofs.WriteLaws.{absent}
use Rattle.jxl_image_header_write.proofs.Spellings.{extensions_none}
use Rattle.jxl_image_header_write.proofs.fields.write_no_extensions_if.Goals as goal

pub returns-then-not-present : goal.returns-then-not-present
returns-then-not-present c = absent c.args.present extensions 0 0 c.args.bits.now c.if-not-present.true refl

pub returns : goal.returns
returns c =
    extensions_none c.args.present c.args.bits.now c.write_number.new.bits c.write_number-2.new.bits c.if-not-present.false c.in_ok-write_number.ensures c.in_ok-write_number-2.ensures
