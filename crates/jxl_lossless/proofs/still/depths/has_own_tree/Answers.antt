use Rattle.jxl_lossless.proofs.Depths.{unflagged}
use Rattle.jxl_lossless.proofs.still.depths.has_own_tree.Goals as goal

pub returns : goal.returns
returns c = λ own nested. unflagged c.uses_global.result c.uses_global.ensures own
