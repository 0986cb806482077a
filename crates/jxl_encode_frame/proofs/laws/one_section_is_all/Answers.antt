use Rattle.jxl_encode_frame.proofs.OneSection.{one_section}
use Rattle.jxl_encode_frame.proofs.laws.one_section_is_all.Goals as goal

pub returns : goal.returns
returns g c = one_section g.D.Decoder.meaning
