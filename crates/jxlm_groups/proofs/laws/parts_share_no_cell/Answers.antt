use Rattle.jxlm_groups.proofs.Others.{others_stay, share_no_cell}
use Rattle.jxlm_groups.proofs.laws.parts_share_no_cell.Goals as goal

pub returns-clause-apart : goal.returns-clause-apart
returns-clause-apart c = share_no_cell

pub returns-clause-others : goal.returns-clause-others
returns-clause-others c = others_stay
