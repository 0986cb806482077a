use Rattle.std.proofs.Common.{ap, drop, ◌∙◌}
use Rattle.jxlm_bits.specs.Bits.{bytes_of, position_of}
use Rattle.jxl_image_header.specs.Images.{image_of}
use Rattle.jxl_frame_header.specs.Frames.{frame_of}
use Rattle.jxl_codestream.specs.Layouts.{section_count_of}
use Rattle.jxl_codestream.proofs.Fronts.{contents_fail, contents_stand}
use Rattle.jxl_codestream.proofs.frame.FrameStart.read_contents.Goals as goal

pub returns-in-Ok-clause-ok : goal.returns-in-Ok-clause-ok
returns-in-Ok-clause-ok g c =
    contents_stand g.D.Decoder.meaning c.args.self.limits.now (drop c.args.self.start c.args.self.bytes.now) (image_of c.args.self.image.now) c.args.self.used (frame_of c.args.header.now) (bytes_of c.args.bits.now) c.section_count.result
    (position_of c.args.bits.now) (position_of c.parse.new.bits) c.in-Ok.toc.entries.items c.requires.lies (c.section_count.ensures.count ∙ ap section_count_of c.requires.cut) c.section_count.ensures.most
    c.in-Ok.ensures.gives

pub returns-in-Err-clause-err : goal.returns-in-Err-clause-err
returns-in-Err-clause-err g c =
    contents_fail g.D.Decoder.meaning c.args.self.limits.now (drop c.args.self.start c.args.self.bytes.now) (image_of c.args.self.image.now) c.args.self.used (frame_of c.args.header.now) (bytes_of c.args.bits.now) c.section_count.result
    (position_of c.args.bits.now) (position_of c.parse.new.bits) c.in-Err.error c.requires.allowed c.requires.lies (c.section_count.ensures.count ∙ ap section_count_of c.requires.cut) c.section_count.ensures.most
    c.in-Err.ensures.gives
