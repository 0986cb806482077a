use Rattle.jxl_coding_fields_write.proofs.CountReads.{step_widest, step_other}
use Rattle.jxl_coding_fields_write.proofs.counts.write_other.Goals as goal

pub returns-then-i-widest : goal.returns-then-i-widest
returns-then-i-widest c = step_widest c.args.counts.now c.requires.counts c.args.widest c.requires.widest c.args.i c.args.bits.now c.requires.inside c.if-i-widest.true

pub returns : goal.returns
returns c =
    step_other c.args.counts.now c.requires.counts c.args.widest c.requires.widest c.args.i c.args.bits.now c.write_rest.new.bits c.requires.inside c.if-i-widest.false c.in_ok-write_rest.ensures
