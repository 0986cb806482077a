use Rattle.jxl_coding_build.specs.AnyWriters.{codes_in}
use Rattle.jxl_encode_image.specs.Preparations.{image_transforms}
use Rattle.jxl_encode_sections.proofs.Writings.{part_written}
use Rattle.jxl_encode_sections.proofs.section.write_part.Goals as goal

pub returns : goal.returns
returns c = part_written (codes_in c.args.codes.now) (image_transforms c.args.transforms.now) c.args.tokens.now _ _ _ c.in_ok-write_shared_header.ensures c.in_ok-write_samples.ensures
