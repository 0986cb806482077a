use Rattle.jxl_frame_header_write.proofs.FilterSpellings.{sigma_given, sigma_absent}
use Rattle.jxl_frame_header_write.proofs.filter.write_sigma_if.Goals as goal

pub returns-then-not-present : goal.returns-then-not-present
returns-then-not-present c = sigma_absent c.args.present c.args.bits.now c.if-not-present.true

pub returns : goal.returns
returns c = sigma_given c.args.present 0x3C00 c.args.bits.now c.write_number.new.bits c.if-not-present.false c.in_ok-write_number.ensures
