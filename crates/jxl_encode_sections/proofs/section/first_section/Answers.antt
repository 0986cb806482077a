use Rattle.jxl_coding_build.specs.AnyWriters.{codes_in}
use Rattle.jxl_encode_image.specs.Preparations.{image_transforms}
use Rattle.jxl_encode_sections.proofs.Writings.{at_first, first_written}
use Rattle.jxl_encode_sections.proofs.section.first_section.Goals as goal

pub returns : goal.returns
returns c =
    at_first _ _ c.in_ok-bytes.bytes.items c.new-bits.ensures
    (first_written c.args.nodes.now (codes_in c.args.codes.now) (image_transforms c.args.transforms.now) c.args.tokens.now _ _ _ _ c.in_ok-write_section_start.ensures c.in_ok-write_tree.ensures c.in_ok-write_part.ensures)
    c.in_ok-bytes.ensures
