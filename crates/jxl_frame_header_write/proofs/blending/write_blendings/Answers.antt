use Rattle.std.proofs.Common.{true}
use Rattle.jxlm_bit_writer.proofs.WriteLaws.{none_repeated}
use Rattle.jxl_frame_header.specs.Blendings.{blending_info}
use Rattle.jxl_frame_header_write.specs.Stills.{replaces}
use Rattle.jxl_frame_header_write.specs.Writable.{is_blending}
use Rattle.jxl_frame_header_write.proofs.Lists.{item_passes, list_next, list_all_written}
use Rattle.jxl_frame_header_write.proofs.blending.write_blendings.Goals as goal

pub loop-info-init : goal.loop-info-init
loop-info-init c = none_repeated (blending_info true c.args.extra c.args.partial) c.args.bits.now

pub write_blending_if-requires : goal.write_blending_if-requires
write_blending_if-requires c = item_passes (is_blending true c.args.extra c.args.partial) c.args.infos.now c.loop-info.info-index replaces c.requires c.loop-info-test.true

pub loop-info-preserved : goal.loop-info-preserved
loop-info-preserved c =
    list_next (blending_info true c.args.extra c.args.partial) c.args.infos.now c.loop-info.info-index replaces c.args.bits.now c.loop-info.bits c.write_blending_if.new.bits c.loop-info-test.true
    c.loop-info.invariant c.in_ok-write_blending_if.ensures

pub returns : goal.returns
returns c =
    list_all_written (blending_info true c.args.extra c.args.partial) c.args.infos.now c.loop-info.info-index c.args.bits.now c.loop-info.bits c.loop-info-test.false c.loop-info.auto.info-index-end
    c.loop-info.invariant
