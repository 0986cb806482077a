use Rattle.jxl_image_header_write.proofs.ColourSpellings.{chromaticity_spelled}
use Rattle.jxl_image_header_write.proofs.colour.write_chromaticity_if.Goals as goal

pub returns : goal.returns
returns c =
    chromaticity_spelled c.args.present c.args.point c.args.bits.now c.write_coordinate_if.new.bits c.write_coordinate_if-2.new.bits c.in_ok-write_coordinate_if.ensures c.in_ok-write_coordinate_if-2.ensures
