use Rattle.jxl_picture.proofs.Orienting.{all_as_they_are}
use Rattle.jxl_picture.proofs.orientation.shown_channels.Goals as goal

pub returns-then-orientation-eq1 : goal.returns-then-orientation-eq1
returns-then-orientation-eq1 c = rw c.if-orientation-eq1.true (all_as_they_are c.args.channels.items)
