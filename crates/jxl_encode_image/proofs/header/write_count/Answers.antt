use Rattle.jxl_encode_image.proofs.PaletteFields.{count_spelled}
use Rattle.jxl_encode_image.proofs.header.write_count.Goals as goal

pub write_u32-requires-clause-spelled : goal.write_u32-requires-clause-spelled
write_u32-requires-clause-spelled c = count_spelled c.args.count c.requires
