use Rattle.jxl_codestream.proofs.TocLaws.{exact-toc}
use Rattle.jxl_codestream.proofs.laws.tables_are_read_exactly.Goals as goal

pub returns : goal.returns
returns g c = exact-toc g.D.Decoder.meaning
