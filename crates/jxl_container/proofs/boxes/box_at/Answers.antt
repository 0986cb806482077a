use Rattle.std.proofs.Common.{◌∙◌}
use Rattle.jxl_container.proofs.BoxCases.{sized_is}
use Rattle.jxl_container.proofs.boxes.box_at.Goals as goal

pub returns-clause-gives : goal.returns-clause-gives
returns-clause-gives c = c.by_size.ensures.gives ∙ sized_is c.args.file.now c.args.start
