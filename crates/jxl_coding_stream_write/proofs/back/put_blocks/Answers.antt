use Rattle.jxl_coding_stream_write.proofs.Bits.{blocks_none, blocks_more, blocks_all}
use Rattle.jxl_coding_stream_write.proofs.back.put_blocks.Goals as goal

pub loop-i-init : goal.loop-i-init
loop-i-init c = blocks_none c.args.bits.now c.args.blocks.now

pub loop-i-preserved : goal.loop-i-preserved
loop-i-preserved c = blocks_more c.args.bits.now c.loop-i.bits c.put_block.new.self c.args.blocks.now c.loop-i.i c.loop-i-test.true c.loop-i.invariant c.in_ok-put_block.ensures

pub returns : goal.returns
returns c = blocks_all c.args.bits.now c.loop-i.bits c.args.blocks.now c.loop-i.i c.loop-i-test.false c.loop-i.invariant
