use Rattle.jxl_encode_frame.proofs.HasParts.{groups_in_layout}
use Rattle.jxl_encode_frame.proofs.laws.groups_are_in_layout.Goals as goal

pub returns : goal.returns
returns c = groups_in_layout
