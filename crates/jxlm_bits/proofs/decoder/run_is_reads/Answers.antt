use Rattle.jxlm_bits.proofs.DecodingLaws.{run_is_reads}
use Rattle.jxlm_bits.proofs.decoder.run_is_reads.Goals as goal

pub returns : goal.returns
returns g c = run_is_reads g.D.Decoder.meaning g.met.D.Decoder.lawful
