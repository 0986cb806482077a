use Rattle.jxl_frame_header_write.proofs.FilterSpellings.{floats_usual, floats_absent}
use Rattle.jxl_frame_header_write.proofs.filter.write_usual_floats_if.Goals as goal

pub returns-then-not-present : goal.returns-then-not-present
returns-then-not-present c = floats_absent c.args.present c.args.count c.args.bits.now c.if-not-present.true

pub returns : goal.returns
returns c = floats_usual c.args.present c.args.count c.args.bits.now c.write_flag.new.bits c.if-not-present.false c.in_ok-write_flag.ensures
