use Rattle.jxl_patches.proofs.Moves.{moved_signed}
use Rattle.jxl_patches.proofs.laws.moves_are_signed.Goals as goal

pub returns : goal.returns
returns c = moved_signed
