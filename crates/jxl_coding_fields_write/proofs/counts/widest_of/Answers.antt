use Rattle.jxl_coding_fields_write.proofs.CountWidthLaws.{wider_next, wider_all}
use Rattle.jxl_coding_fields_write.proofs.counts.widest_of.Goals as goal

pub loop-i-preserved : goal.loop-i-preserved
loop-i-preserved c =
    let k = wider_next c.args.counts.now c.loop-i.i c.loop-i.most c.loop-i.widest c.width_of-width.result c.max-most.result c.wider-widest.result c.loop-i-test.true c.loop-i.invariant.most c.loop-i.invariant.widest
    c.width_of-width.ensures.width c.max-most.ensures c.wider-widest.ensures in
    record { most = k.0; widest = k.1 }

pub returns : goal.returns
returns c = wider_all c.args.counts.now c.loop-i.i c.loop-i.widest c.loop-i-test.false c.loop-i.invariant.widest
