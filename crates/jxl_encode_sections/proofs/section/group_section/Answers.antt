use Rattle.jxl_encode_sections.proofs.Writings.{at_first}
use Rattle.jxl_encode_sections.proofs.section.group_section.Goals as goal

pub returns : goal.returns
returns c = at_first _ _ c.in_ok-bytes.bytes.items c.new-bits.ensures c.in_ok-write_part.ensures c.in_ok-bytes.ensures
