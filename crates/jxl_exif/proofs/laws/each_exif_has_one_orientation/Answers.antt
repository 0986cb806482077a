use Rattle.jxl_exif.proofs.Places.{one_orientation}
use Rattle.jxl_exif.proofs.laws.each_exif_has_one_orientation.Goals as goal

pub returns : goal.returns
returns c = one_orientation
