use Rattle.jxlm_bit_writer.proofs.WriteLaws.{none_repeated}
use Rattle.jxl_codestream_write.proofs.Sizes.{entry, size_at, sizes_next, sizes_all}
use Rattle.jxl_codestream_write.proofs.toc.write_sizes.Goals as goal

pub loop-size-init : goal.loop-size-init
loop-size-init c = none_repeated entry c.args.bits.now

pub write_size-requires : goal.write_size-requires
write_size-requires c = size_at c.args.sizes.now c.loop-size.size-index 0 c.requires c.loop-size-test.true

pub loop-size-preserved : goal.loop-size-preserved
loop-size-preserved c =
    sizes_next c.args.sizes.now c.loop-size.size-index 0 c.args.bits.now c.loop-size.bits c.write_size.new.bits c.loop-size-test.true c.loop-size.invariant c.in_ok-write_size.ensures

pub returns : goal.returns
returns c = sizes_all c.args.sizes.now c.loop-size.size-index c.args.bits.now c.loop-size.bits c.loop-size-test.false c.loop-size.auto.size-index-end c.loop-size.invariant
