use Rattle.jxl_coding_fields_write.proofs.ConfigReads.{whole_writes, part_writes}
use Rattle.jxl_coding_fields_write.proofs.configs.write_config.Goals as goal

pub returns-then-config-log : goal.returns-then-config-log
returns-then-config-log c =
    whole_writes c.args.config.now c.args.log c.args.bits.now c.put.new.self c.requires.log c.if-config-log.true (c.requires.none c.if-config-log.true) (rw c.bit_width.ensures.length at c.in_ok-put.ensures)

pub returns : goal.returns
returns c =
    part_writes c.args.config.now c.args.log c.args.bits.now c.put.new.self c.put-2.new.self c.put-3.new.self c.requires.log c.requires.within c.if-config-log.false c.requires.rule.1
    (rw c.bit_width.ensures.length at c.in_ok-put.ensures) (rw c.bit_width-2.ensures.length at c.in_ok-put-2.ensures) (rw c.bit_width-3.ensures.length at c.in_ok-put-3.ensures)
