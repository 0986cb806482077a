use Rattle.jxl_coding_fields_write.proofs.CountReads.{counts_written}
use Rattle.jxl_coding_fields_write.proofs.counts.write_counts.Goals as goal

pub returns : goal.returns
returns c =
    counts_written c.args.counts.now c.requires.counts c.widest_of.result c.widest_of.ensures c.requires.many c.requires.whole c.args.bits.now c.put.new.self c.put-2.new.self c.write_var_len.new.bits c.write_widths.new.bits
    c.write_others.new.bits c.in_ok-put.ensures c.in_ok-put-2.ensures c.in_ok-write_var_len.ensures c.in_ok-write_widths.ensures c.in_ok-write_others.ensures
