use Rattle.jxl_coding_fields_write.proofs.Forms.{even_writes}
use Rattle.jxl_coding_fields_write.proofs.distributions.write_even.Goals as goal

pub returns : goal.returns
returns c = even_writes c.args.symbols c.args.bits.now c.put.new.self c.put-2.new.self c.write_var_len.new.bits c.requires.some c.in_ok-put.ensures c.in_ok-put-2.ensures c.in_ok-write_var_len.ensures
