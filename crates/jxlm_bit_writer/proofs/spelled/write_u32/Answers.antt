use Rattle.jxlm_bit_writer.proofs.WriteLaws.{u32_added}
use Rattle.jxlm_bit_writer.proofs.spelled.write_u32.Goals as goal

pub returns : goal.returns
returns c = u32_added c.args.d0 c.args.d1 c.args.d2 c.args.d3 c.args.value c.args.bits.now c.put_u32.new.self c.requires.spelled c.in_ok-put_u32.ensures
