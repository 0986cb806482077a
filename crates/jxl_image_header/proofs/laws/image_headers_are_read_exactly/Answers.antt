use Rattle.jxl_image_header.proofs.HeaderLaws.{exact-image_header}
use Rattle.jxl_image_header.proofs.laws.image_headers_are_read_exactly.Goals as goal

pub returns : goal.returns
returns c = exact-image_header
