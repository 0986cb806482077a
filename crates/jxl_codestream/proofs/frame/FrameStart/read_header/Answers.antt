use Rattle.std.proofs.Common.{◌∙◌, sym}
use Rattle.jxlm_bits.specs.Bits.{bytes_of, position_of}
use Rattle.jxl_image_header.specs.Images.{image_of}
use Rattle.jxl_frame_header.specs.Frames.{frame_of}
use Rattle.jxl_codestream.proofs.Dims.{dim_of}
use Rattle.jxl_codestream.proofs.Fronts.{frame_fails, frame_refused, header_stands, plain}
use Rattle.jxl_codestream.proofs.frame.FrameStart.read_header.Goals as goal

pub returns-in-Some-clause-err : goal.returns-in-Some-clause-err
returns-in-Some-clause-err g c =
    let image = image_of c.args.self.image.now in
    let frame = frame_of c.in-Ok.frame in
    let q = position_of c.parse.new.bits in
    frame_refused g.D.Decoder.meaning c.args.self.limits.now c.args.self.bytes.now image c.args.self.start c.args.self.used q frame c.in-Some.refusal c.requires.next
    (header_stands g.D.Decoder.meaning c.args.self.limits.now c.args.self.bytes.now image c.args.self.start (bytes_of c.args.bits.now) (position_of c.args.bits.now) q frame c.requires.lies c.requires.begin c.in-Ok.ensures.reads.gives)
    (sym c.refused.ensures ∙ c.in-Some.is)

pub returns-in-None-clause-ok : goal.returns-in-None-clause-ok
returns-in-None-clause-ok g c =
    header_stands g.D.Decoder.meaning c.args.self.limits.now c.args.self.bytes.now (image_of c.args.self.image.now) c.args.self.start (bytes_of c.args.bits.now) (position_of c.args.bits.now) (position_of c.parse.new.bits) (frame_of c.in-Ok.frame)
    c.requires.lies c.requires.begin c.in-Ok.ensures.reads.gives

pub returns-in-None-clause-plain : goal.returns-in-None-clause-plain
returns-in-None-clause-plain g c = plain (image_of c.args.self.image.now) (frame_of c.in-Ok.frame) (sym c.refused.ensures ∙ c.in-None.is)

pub returns-in-None-clause-dim : goal.returns-in-None-clause-dim
returns-in-None-clause-dim g c =
    dim_of (image_of c.args.self.image.now) (bytes_of c.args.bits.now) (position_of c.args.bits.now) (frame_of c.in-Ok.frame) (position_of c.parse.new.bits) c.in-Ok.ensures.reads.gives

pub returns-in-Err-clause-err : goal.returns-in-Err-clause-err
returns-in-Err-clause-err g c =
    frame_fails g.D.Decoder.meaning c.args.self.limits.now c.args.self.bytes.now (image_of c.args.self.image.now) c.args.self.start c.args.self.used (bytes_of c.args.bits.now) (position_of c.args.bits.now) (position_of c.parse.new.bits) c.in-Err.error
    c.requires.next c.requires.lies c.requires.begin c.in-Err.ensures.reads.gives
