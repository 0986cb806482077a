use Rattle.std.proofs.Common.{◌≡◌, ◌∙◌, None, sym, rules}
use Rattle.jxlm_bits.specs.Bits.{bytes_of, position_of}
use Rattle.jxl_coding.specs.Parse.{decoder_at}
use Rattle.jxl_coding.specs.Tokens.{entropy}
use Rattle.jxl_frame_header.specs.Frames.{frame_of}
use Rattle.jxl_codestream.proofs.Dims.{dim_of}
use Rattle.jxl_codestream.proofs.Fronts.{header_stands}
use Rattle.jxl_patches.specs.SavedParts.{slots_of}
use Rattle.jxl_layers.proofs.Layers.{plain}
use Rattle.jxl_layers.specs.Refusals.{composition_refusal, layer_refusal}
use Rattle.jxl_animation.specs.Decoders.{bytes_in, image_in, state_of}
use Rattle.jxl_animation.proofs.States.{header_fails}
use Rattle.jxl_animation.proofs.frames.FrameDecoder.read_header.Goals as goal

pub returns-in-Err-clause-err : goal.returns-in-Err-clause-err
returns-in-Err-clause-err c =
    let x = c.args.self.now in
    header_fails x.source.limits (bytes_in x.source) (image_in x.source) (state_of x) (bytes_of c.args.bits.now) (position_of c.args.bits.now) (position_of c.parse.new.bits) c.in-Err.error c.requires.lies c.requires.begin c.in-Err.ensures.reads.gives

pub returns-in-Some-clause-err : goal.returns-in-Some-clause-err
returns-in-Some-clause-err c =
    let x = c.args.self.now in (
      frame_of c.in-Ok.header,
      position_of c.parse.new.bits,
      header_stands (entropy decoder_at) x.source.limits (bytes_in x.source) (image_in x.source) x.start (bytes_of c.args.bits.now) (position_of c.args.bits.now) (position_of c.parse.new.bits) (frame_of c.in-Ok.header) c.requires.lies c.requires.begin
          c.in-Ok.ensures.reads.gives,
      sym c.layer_refusal.ensures ∙ c.in-Some.is,
    )

pub returns-in-Some-composition_refusal-clause-err : goal.returns-in-Some-composition_refusal-clause-err
returns-in-Some-composition_refusal-clause-err c =
    let x = c.args.self.now in
    let none : layer_refusal (image_in x.source) (frame_of c.in-Ok.header) ≡ None = search rules in (
      frame_of c.in-Ok.header,
      position_of c.parse.new.bits,
      header_stands (entropy decoder_at) x.source.limits (bytes_in x.source) (image_in x.source) x.start (bytes_of c.args.bits.now) (position_of c.args.bits.now) (position_of c.parse.new.bits) (frame_of c.in-Ok.header) c.requires.lies c.requires.begin
          c.in-Ok.ensures.reads.gives,
      none,
      sym c.composition_refusal.ensures ∙ c.in-Some-composition_refusal.is,
    )

pub returns-clause-ok : goal.returns-clause-ok
returns-clause-ok c =
    let x = c.args.self.now in
    let none : layer_refusal (image_in x.source) (frame_of c.in-Ok.header) ≡ None = search rules in
    let whole : composition_refusal (image_in x.source) (frame_of c.in-Ok.header) (slots_of x.slots) ≡ None = search rules in
    record {
      header = header_stands (entropy decoder_at) x.source.limits (bytes_in x.source) (image_in x.source) x.start (bytes_of c.args.bits.now) (position_of c.args.bits.now) (position_of c.parse.new.bits) (frame_of c.in-Ok.header) c.requires.lies
          c.requires.begin c.in-Ok.ensures.reads.gives;
      supported = none;
      composable = whole;
    }

pub returns-clause-plain : goal.returns-clause-plain
returns-clause-plain c =
    let x = c.args.self.now in
    let none : layer_refusal (image_in x.source) (frame_of c.in-Ok.header) ≡ None = search rules in
    plain (image_in x.source) (frame_of c.in-Ok.header) none

pub returns-clause-dim : goal.returns-clause-dim
returns-clause-dim c =
    dim_of (image_in c.args.self.now.source) (bytes_of c.args.bits.now) (position_of c.args.bits.now) (frame_of c.in-Ok.header) (position_of c.parse.new.bits) c.in-Ok.ensures.reads.gives
