use Rattle.jxl_patches.proofs.PatchLaws.{exact-dictionary}
use Rattle.jxl_patches.proofs.laws.dictionaries_are_read_exactly.Goals as goal

pub returns : goal.returns
returns g c = exact-dictionary g.D.Decoder.meaning
