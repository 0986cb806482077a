use Rattle.jxlm_groups.proofs.Parts.{parts_hold}
use Rattle.jxlm_groups.proofs.laws.parts_hold_each_cell_once.Goals as goal

pub returns : goal.returns
returns c = parts_hold
