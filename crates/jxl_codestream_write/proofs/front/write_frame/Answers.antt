use Rattle.std.proofs.Common.{ℕ, List, subst}
use Rattle.jxlm_bit_writer.specs.Writes.{Writes}
use Rattle.jxl_frame_header.specs.Frames.{frame_header}
use Rattle.jxl_frame_header_write.specs.Stills.{still_frame}
use Rattle.jxl_image_header.specs.Images.{image_of}
use Rattle.jxl_codestream_write.proofs.Fronts.{frame_front}
use Rattle.jxl_codestream_write.proofs.front.write_frame.Goals as goal

pub returns : goal.returns
returns g c =
    frame_front g.D.Decoder.meaning (image_of c.args.image.now) c.args.shift c.args.sizes.now c.write_still_header.new.bits c.in_ok-bytes.bytes.items
    (subst (λ (b : List ℕ). Writes b c.write_still_header.new.bits (frame_header (image_of c.args.image.now)).read (still_frame (image_of c.args.image.now) c.args.shift)) c.new-bits.ensures
    c.in_ok-write_still_header.ensures)
    c.in_ok-bytes.ensures
