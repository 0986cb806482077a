use Rattle.jxl_netpbm_roundtrip.proofs.Written.{written_are_read}
use Rattle.jxl_netpbm_roundtrip.proofs.laws.written_pictures_are_read.Goals as goal

pub returns : goal.returns
returns c = written_are_read
