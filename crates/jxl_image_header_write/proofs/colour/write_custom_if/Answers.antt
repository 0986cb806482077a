use Rattle.std.specs.Prelude.{◌&&◌}
use Rattle.std.proofs.lemmas.Bool.{and_parts}
use Rattle.jxl_image_header_write.specs.Writable.{is_chromaticity}
use Rattle.jxl_image_header_write.proofs.ColourSpellings.{custom_spelled}
use Rattle.jxl_image_header_write.proofs.colour.write_custom_if.Goals as goal

pub write_chromaticity_if-requires-2-clause-spelled : goal.write_chromaticity_if-requires-2-clause-spelled
write_chromaticity_if-requires-2-clause-spelled c =
    let s = and_parts (is_chromaticity c.args.mixed.red && is_chromaticity c.args.mixed.green) (is_chromaticity c.args.mixed.blue) c.requires.spelled in
    (and_parts (is_chromaticity c.args.mixed.red) (is_chromaticity c.args.mixed.green) s.0).1

pub write_chromaticity_if-requires-3-clause-spelled : goal.write_chromaticity_if-requires-3-clause-spelled
write_chromaticity_if-requires-3-clause-spelled c =
    (and_parts (is_chromaticity c.args.mixed.red && is_chromaticity c.args.mixed.green) (is_chromaticity c.args.mixed.blue) c.requires.spelled).1

pub returns : goal.returns
returns c =
    custom_spelled c.args.present c.args.mixed c.args.bits.now c.write_chromaticity_if.new.bits c.write_chromaticity_if-2.new.bits c.write_chromaticity_if-3.new.bits c.in_ok-write_chromaticity_if.ensures
    c.in_ok-write_chromaticity_if-2.ensures c.in_ok-write_chromaticity_if-3.ensures
