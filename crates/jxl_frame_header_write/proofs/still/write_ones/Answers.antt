use Rattle.jxlm_bit_writer.proofs.WriteLaws.{none_repeated}
use Rattle.jxl_frame_header.specs.Codings.{factor}
use Rattle.jxl_frame_header_write.proofs.StillSpellings.{same_more, same_all}
use Rattle.jxl_frame_header_write.proofs.still.write_ones.Goals as goal

pub loop-init : goal.loop-init
loop-init c = none_repeated factor c.args.bits.now

pub loop-preserved : goal.loop-preserved
loop-preserved c = same_more c.loop.counter factor 1 c.args.bits.now c.loop.bits c.write_one.new.bits c.loop.invariant c.in_ok-write_one.ensures

pub returns : goal.returns
returns c = same_all c.args.count c.loop.counter factor 1 c.args.bits.now c.loop.bits c.loop-test.false c.loop.auto.counter-end c.loop.invariant
