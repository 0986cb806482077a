use Rattle.jxlm_bit_writer.proofs.Blocks.{scale_is}
use Rattle.jxlm_bit_writer.proofs.writer.scale_of.Goals as goal

pub returns : goal.returns
returns c = scale_is c.args.count c.requires
