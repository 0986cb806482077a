use Rattle.jxl_image_header_write.proofs.ColourSpellings.{coordinate_present, coordinate_absent}
use Rattle.jxl_image_header_write.proofs.colour.write_coordinate_if.Goals as goal

pub returns-then-not-present : goal.returns-then-not-present
returns-then-not-present c = coordinate_absent c.args.present c.args.value c.args.bits.now c.if-not-present.true (c.requires.usual c.if-not-present.true)

pub returns : goal.returns
returns c = coordinate_present c.args.present c.args.value c.args.bits.now c.write_u32.new.bits c.if-not-present.false c.in_ok-write_u32.ensures
