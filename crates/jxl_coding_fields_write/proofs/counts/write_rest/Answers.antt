use Rattle.jxl_coding_fields_write.proofs.CountWidthLaws.{short_width}
use Rattle.jxl_coding_fields_write.proofs.CountReads.{short_count, long_count, long_is}
use Rattle.jxl_coding_fields_write.proofs.counts.write_rest.Goals as goal

pub returns-then-count-lt2 : goal.returns-then-count-lt2
returns-then-count-lt2 c = short_count c.args.count c.args.bits.now c.if-count-lt2.true (short_width c.args.count c.if-count-lt2.true)

pub overflow_sub-count : goal.overflow_sub-count
overflow_sub-count c = rw (c.power.ensures, c.width_of-width.ensures.width) (long_is c.args.count c.if-count-lt2.false c.requires).least

pub returns : goal.returns
returns c = long_count c.args.count c.args.bits.now c.put.new.self c.if-count-lt2.false c.requires (rw (c.power.ensures, c.width_of-width.ensures.width) at c.in_ok-put.ensures)
