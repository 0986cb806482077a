use Rattle.jxl_picture.proofs.Singles.{are_exact}
use Rattle.jxl_picture.proofs.floats.floats_are_exact.Goals as goal

pub returns : goal.returns
returns c = are_exact
