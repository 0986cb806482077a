use Rattle.jxl_coding_stream_write.proofs.Bits.{put_none, put_more, put_all}
use Rattle.jxl_coding_stream_write.proofs.back.put_each.Goals as goal

pub loop-i-init : goal.loop-i-init
loop-i-init c = put_none c.args.bits.now c.args.words.now

pub loop-i-preserved : goal.loop-i-preserved
loop-i-preserved c = put_more c.args.bits.now c.loop-i.bits c.put_word.new.self c.args.words.now c.loop-i.i c.loop-i-test.true c.loop-i.invariant c.in_ok-put_word.ensures

pub returns : goal.returns
returns c = put_all c.args.bits.now c.loop-i.bits c.args.words.now c.loop-i.i c.loop-i-test.false c.loop-i.invariant
