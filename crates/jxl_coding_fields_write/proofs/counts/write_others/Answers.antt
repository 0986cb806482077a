use Rattle.std.proofs.Common.{arith}
use Rattle.jxl_coding_fields_write.proofs.CountReads.{others_start, others_next, others_all}
use Rattle.jxl_coding_fields_write.proofs.counts.write_others.Goals as goal

pub loop-i-init : goal.loop-i-init
loop-i-init c = others_start c.args.counts.now c.requires.counts c.args.widest c.requires.widest c.args.bits.now

pub loop-i-preserved : goal.loop-i-preserved
loop-i-preserved c =
    others_next c.args.counts.now c.requires.counts c.args.widest c.requires.widest c.loop-i.i c.args.bits.now c.loop-i.bits c.write_other.new.bits c.loop-i.invariant c.in_ok-write_other.ensures

pub returns : goal.returns
returns c =
    others_all c.args.counts.now c.requires.counts c.args.widest c.requires.widest c.loop-i.i c.args.bits.now c.loop-i.bits
    (let e = c.loop-i-test.false in let n = c.loop-i.auto.i-end in omega (arith, e, n)) c.loop-i.invariant
