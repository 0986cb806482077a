use Rattle.jxl_frame_header.proofs.FrameLaws.{exact-frame_header}
use Rattle.jxl_frame_header.proofs.laws.frame_headers_are_read_exactly.Goals as goal

pub returns : goal.returns
returns c = exact-frame_header
