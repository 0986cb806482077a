use Rattle.jxlm_bit_writer.proofs.WriteLaws.{flag_added}
use Rattle.jxlm_bit_writer.proofs.spelled.write_flag.Goals as goal

pub returns : goal.returns
returns c = flag_added c.args.flag c.args.bits.now c.put_flag.new.self c.in_ok-put_flag.ensures
