use Rattle.std.proofs.Common.{true, false}
use Rattle.jxlm_bit_writer.proofs.WriteLaws.{none_repeated}
use Rattle.jxl_frame_header.specs.Blendings.{blending_info}
use Rattle.jxl_frame_header_write.specs.Stills.{replaces}
use Rattle.jxl_frame_header_write.proofs.StillSpellings.{same_more, same_all}
use Rattle.jxl_frame_header_write.proofs.still.write_all_replace.Goals as goal

pub loop-init : goal.loop-init
loop-init c = none_repeated (blending_info true c.args.extra false) c.args.bits.now

pub loop-preserved : goal.loop-preserved
loop-preserved c =
    same_more c.loop.counter (blending_info true c.args.extra false) replaces c.args.bits.now c.loop.bits c.write_replaces.new.bits c.loop.invariant c.in_ok-write_replaces.ensures

pub returns : goal.returns
returns c =
    same_all c.args.extra c.loop.counter (blending_info true c.args.extra false) replaces c.args.bits.now c.loop.bits c.loop-test.false c.loop.auto.counter-end c.loop.invariant
