use Rattle.std.proofs.Common.{◌≡◌, ◌+◌, length, rules}
use Rattle.jxl_image_header.specs.Images.{image_of}
use Rattle.jxl_picture.specs.Pictures.{colour_count}
use Rattle.jxl_picture.proofs.Channels.{have_sides}
use Rattle.jxl_netpbm.proofs.format.pam_layers.Goals as goal

pub first_alpha-requires-clause-some : goal.first_alpha-requires-clause-some
first_alpha-requires-clause-some c =
    let image = image_of c.args.picture.now.header in
    let channels = c.args.picture.now.channels.items in
    let count : length channels ≡ colour_count image + length image.ec_info = (have_sides image image.size channels c.requires.whole).count in
    search rules
