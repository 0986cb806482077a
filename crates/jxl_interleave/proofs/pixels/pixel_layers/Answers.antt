use Rattle.std.proofs.Common.{◌≡◌, ◌+◌, length, rules}
use Rattle.jxl_image_header.specs.Images.{image_of}
use Rattle.jxl_picture.specs.Pictures.{colour_count}
use Rattle.jxl_picture.proofs.Channels.{have_sides}
use Rattle.jxl_interleave.proofs.PixelLaws.{all_covered}
use Rattle.jxl_interleave.proofs.pixels.pixel_layers.Goals as goal

pub first_alpha-requires-clause-some : goal.first_alpha-requires-clause-some
first_alpha-requires-clause-some c =
    let image = image_of c.args.picture.now.header in
    let channels = c.args.picture.now.channels.items in
    let count : length channels ≡ colour_count image + length image.ec_info = (have_sides image image.size channels c.requires.whole).count in
    search rules

pub returns-clause-cover : goal.returns-clause-cover
returns-clause-cover c =
    all_covered (image_of c.args.picture.now.header) c.args.picture.now.channels.items _ c.requires.whole c.requires.suits (search rules) (search rules) (search rules)
