use Rattle.std.proofs.Common.{Some, ap, refl}
use Rattle.jxl_image_header.specs.Images.{image_of}
use Rattle.jxl_image_header.specs.declared.colour.ColourEncoding.{ColourEncoding}
use Rattle.jxl_picture.specs.declared.picture.Picture.{Picture}
use Rattle.jxl_encode.proofs.ProfiledPictures.{codable_with_profile}
use Rattle.jxl_encode.proofs.profile.with_profile.Goals as goal

pub returns-clause-codable : goal.returns-clause-codable
returns-clause-codable c = λ fit held.
    let header = c.args.picture.header in
    let other : Picture = record { header = record header { colour_encoding = c.profile_colour-header.result }; channels = c.args.picture.channels; profile = Some c.args.icc } in
    codable_with_profile c.args.picture other c.args.icc.items (ap (λ (colour : ColourEncoding). record (image_of header) { colour_encoding = colour }) c.profile_colour-header.ensures) refl fit held
