use Rattle.jxlm_bits.specs.Bits.{position_of}
use Rattle.jxl_image_header.specs.Images.{image_of}
use Rattle.jxl_frame_header.specs.Frames.{frame_of}
use Rattle.jxl_codestream.proofs.Fronts.{frame_stands, parts_fail_if}
use Rattle.jxl_codestream.proofs.frame.FrameFront.read.Goals as goal

pub returns-clause-stands : goal.returns-clause-stands
returns-clause-stands g c =
    frame_stands g.D.Decoder.meaning c.args.limits.now c.args.bytes.now (image_of c.args.image.now) c.args.start c.args.used (position_of c.read_header.new.bits) (frame_of c.in_ok-header.header) c.in_ok-header.ensures.ok c.in_ok-header.ensures.supported
    c.read_parts.result c.read_parts.ensures.start c.read_parts.ensures.header c.read_parts.ensures.stands

pub returns-clause-err : goal.returns-clause-err
returns-clause-err g c =
    parts_fail_if g.D.Decoder.meaning c.args.limits.now c.args.bytes.now (image_of c.args.image.now) c.args.start c.args.used (position_of c.read_header.new.bits) (frame_of c.in_ok-header.header) c.requires.next c.in_ok-header.ensures.ok
    c.in_ok-header.ensures.supported c.read_parts.result c.read_parts.ensures.err
