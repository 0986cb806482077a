use Rattle.std.proofs.Common.{◌∙◌, sym}
use Rattle.jxlm_bits.specs.Bits.{bytes_of, position_of}
use Rattle.jxl_coding.specs.Parse.{decoder_at}
use Rattle.jxl_coding.specs.Tokens.{entropy}
use Rattle.jxl_image_header.specs.Images.{image_of}
use Rattle.jxl_frame_header.specs.Frames.{frame_of}
use Rattle.jxl_codestream.proofs.Dims.{dim_of}
use Rattle.jxl_codestream.proofs.Fronts.{header_stands}
use Rattle.jxl_layers.proofs.Layers.{plain}
use Rattle.jxl_frame_info.proofs.Frames.{header_fails}
use Rattle.jxl_frame_info.proofs.timeline.Source.read_header.Goals as goal

pub returns-in-Err-clause-err : goal.returns-in-Err-clause-err
returns-in-Err-clause-err c = λ used.
    let x = c.args.self in
    header_fails x.limits x.bytes.now (image_of x.image.now) c.args.start used (bytes_of c.args.bits.now) (position_of c.args.bits.now) (position_of c.parse.new.bits) c.in-Err.error c.requires.lies c.requires.begin c.in-Err.ensures.reads.gives

pub returns-in-Some-clause-err : goal.returns-in-Some-clause-err
returns-in-Some-clause-err c = λ used.
    let x = c.args.self in (
      frame_of c.in-Ok.header,
      position_of c.parse.new.bits,
      header_stands (entropy decoder_at) x.limits x.bytes.now (image_of x.image.now) c.args.start (bytes_of c.args.bits.now) (position_of c.args.bits.now) (position_of c.parse.new.bits) (frame_of c.in-Ok.header) c.requires.lies c.requires.begin
          c.in-Ok.ensures.reads.gives,
      sym c.layer_refusal.ensures ∙ c.in-Some.is,
    )

pub returns-in-None-clause-ok : goal.returns-in-None-clause-ok
returns-in-None-clause-ok c =
    let x = c.args.self in record {
      header = header_stands (entropy decoder_at) x.limits x.bytes.now (image_of x.image.now) c.args.start (bytes_of c.args.bits.now) (position_of c.args.bits.now) (position_of c.parse.new.bits) (frame_of c.in-Ok.header) c.requires.lies
          c.requires.begin c.in-Ok.ensures.reads.gives;
      supported = sym c.layer_refusal.ensures ∙ c.in-None.is;
    }

pub returns-in-None-clause-plain : goal.returns-in-None-clause-plain
returns-in-None-clause-plain c = plain (image_of c.args.self.image.now) (frame_of c.in-Ok.header) (sym c.layer_refusal.ensures ∙ c.in-None.is)

pub returns-in-None-clause-dim : goal.returns-in-None-clause-dim
returns-in-None-clause-dim c =
    dim_of (image_of c.args.self.image.now) (bytes_of c.args.bits.now) (position_of c.args.bits.now) (frame_of c.in-Ok.header) (position_of c.parse.new.bits) c.in-Ok.ensures.reads.gives
