use Rattle.std.proofs.Common.{refl}
use Rattle.jxl_picture.specs.declared.picture.Picture.{Picture}
use Rattle.jxl_encode.proofs.OrientedPictures.{codable_with_orientation}
use Rattle.jxl_encode.proofs.orientation.with_orientation.Goals as goal

pub returns-clause-codable : goal.returns-clause-codable
returns-clause-codable c = λ fit low high.
    let header = c.args.picture.header in
    let other : Picture = record { header = record header { orientation = c.args.orientation }; channels = c.args.picture.channels; profile = c.args.picture.profile } in
    codable_with_orientation c.args.picture other c.args.orientation refl refl fit low high
