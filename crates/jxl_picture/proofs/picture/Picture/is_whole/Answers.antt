use Rattle.std.proofs.Common.{rules, false}
use Rattle.jxl_image_header.specs.Images.{image_of}
use Rattle.jxl_picture.proofs.Channels.{tells_whole}
use Rattle.jxl_picture.proofs.picture.Picture.is_whole.Goals as goal

pub returns-then-len-colours : goal.returns-then-len-colours
returns-then-len-colours c = tells_whole (image_of c.args.self.now.header) c.args.self.now.channels.items false (search rules)

pub returns-then-all : goal.returns-then-all
returns-then-all c = tells_whole (image_of c.args.self.now.header) c.args.self.now.channels.items c.have_shifted_sides.result (search rules)

pub returns-else-all : goal.returns-else-all
returns-else-all c = tells_whole (image_of c.args.self.now.header) c.args.self.now.channels.items c.all.result (search rules)
