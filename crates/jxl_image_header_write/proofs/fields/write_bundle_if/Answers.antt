use Rattle.jxl_image_header_write.proofs.Spellings.{bundle_present, bundle_absent}
use Rattle.jxl_image_header_write.proofs.fields.write_bundle_if.Goals as goal

pub returns-then-not-present : goal.returns-then-not-present
returns-then-not-present c = bundle_absent c.args.present c.args.follows c.args.bits.now c.if-not-present.true (c.requires.usual c.if-not-present.true)

pub returns : goal.returns
returns c = bundle_present c.args.present c.args.follows c.args.bits.now c.write_flag.new.bits c.if-not-present.false c.in_ok-write_flag.ensures
