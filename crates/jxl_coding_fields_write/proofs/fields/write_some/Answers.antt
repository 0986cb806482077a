use Rattle.std.proofs.Common.{refl, ◌-◌}
use lib.Count.{count_leading_zeros}
use Rattle.jxl_coding_fields_write.proofs.NumberFields.{digit_count, var_len_writes}
use Rattle.jxl_coding_fields_write.proofs.fields.write_some.Goals as goal

pub overflow_sub-value : goal.overflow_sub-value
overflow_sub-value c = rw c.power.ensures ((digit_count c.args.value (31 - count_leading_zeros 32 c.args.value) c.requires.some c.requires.few refl).1)

pub returns : goal.returns
returns c =
    var_len_writes c.args.value (31 - count_leading_zeros 32 c.args.value) c.args.bits.now c.put.new.self c.put-2.new.self c.put-3.new.self c.requires.some c.requires.few refl c.in_ok-put.ensures c.in_ok-put-2.ensures
    (rw c.power.ensures at c.in_ok-put-3.ensures)
