use Rattle.jxlm_bit_writer.proofs.WriteLaws.{number_added}
use Rattle.jxlm_bit_writer.proofs.spelled.write_number.Goals as goal

pub returns : goal.returns
returns c = number_added c.args.n c.args.value c.args.bits.now c.put.new.self c.requires.fits c.in_ok-put.ensures
