use Rattle.jxlm_bits.specs.Grammar.{flag}
use Rattle.jxlm_bit_writer.proofs.WriteLaws.{absent}
use Rattle.jxl_image_header_write.proofs.Spellings.{present}
use Rattle.jxl_image_header_write.proofs.fields.write_flag_if.Goals as goal

pub returns-then-not-present : goal.returns-then-not-present
returns-then-not-present c = absent c.args.present flag c.args.usual c.args.flag c.args.bits.now c.if-not-present.true (c.requires.usual c.if-not-present.true)

pub returns : goal.returns
returns c = present c.args.present flag c.args.usual c.args.flag c.args.bits.now c.write_flag.new.bits c.if-not-present.false c.in_ok-write_flag.ensures
