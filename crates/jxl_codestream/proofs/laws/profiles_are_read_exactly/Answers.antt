use Rattle.jxl_codestream.proofs.TocLaws.{exact-profile}
use Rattle.jxl_codestream.proofs.laws.profiles_are_read_exactly.Goals as goal

pub returns : goal.returns
returns g c = exact-profile g.D.Decoder.meaning
