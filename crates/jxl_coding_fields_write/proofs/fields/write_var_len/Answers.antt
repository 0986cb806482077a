use Rattle.std.proofs.Common.{arith}
use Rattle.jxl_coding_fields_write.proofs.NumberFields.{var_len_zero}
use Rattle.jxl_coding_fields_write.proofs.fields.write_var_len.Goals as goal

pub returns : goal.returns
returns c = var_len_zero c.args.value c.args.bits.now c.put.new.self (let z = c.if-value-gt0.false in omega (arith, z)) c.in_ok-put.ensures
