use Rattle.jxlm_bits.specs.Grammar.{u32}
use Rattle.jxlm_bit_writer.specs.Fields.{is_spelled}
use Rattle.jxlm_bit_writer.proofs.WriteLaws.{none_repeated}
use Rattle.jxl_frame_header_write.proofs.Lists.{item_passes, list_next, list_all_written}
use Rattle.jxl_frame_header_write.proofs.fields.write_fields.Goals as goal

pub loop-value-init : goal.loop-value-init
loop-value-init c = none_repeated (u32 c.args.d0 c.args.d1 c.args.d2 c.args.d3) c.args.bits.now

pub write_u32-requires-clause-spelled : goal.write_u32-requires-clause-spelled
write_u32-requires-clause-spelled c =
    item_passes (is_spelled c.args.d0 c.args.d1 c.args.d2 c.args.d3) c.args.values.now c.loop-value.value-index 0 c.requires.spelled c.loop-value-test.true

pub loop-value-preserved : goal.loop-value-preserved
loop-value-preserved c =
    list_next (u32 c.args.d0 c.args.d1 c.args.d2 c.args.d3) c.args.values.now c.loop-value.value-index 0 c.args.bits.now c.loop-value.bits c.write_u32.new.bits c.loop-value-test.true
    c.loop-value.invariant c.in_ok-write_u32.ensures

pub returns : goal.returns
returns c =
    list_all_written (u32 c.args.d0 c.args.d1 c.args.d2 c.args.d3) c.args.values.now c.loop-value.value-index c.args.bits.now c.loop-value.bits c.loop-value-test.false c.loop-value.auto.value-index-end
    c.loop-value.invariant
