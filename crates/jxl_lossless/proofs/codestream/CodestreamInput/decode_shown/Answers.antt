use Rattle.std.proofs.Common.{map}
use Rattle.jxl_coding.specs.Parse.{decoder_at}
use Rattle.jxl_coding.specs.Tokens.{entropy}
use Rattle.jxl_image_header.specs.Images.{image_of}
use Rattle.jxl_frame_header.specs.Frames.{frame_of, frame_size}
use Rattle.jxl_codestream.specs.FrontParts.{frame_at}
use Rattle.jxl_patches.specs.SavedParts.{slots_of}
use Rattle.jxl_lossless.proofs.SavedFrames.{all_decoded, all_whole, last_fails}
use Rattle.jxl_lossless.proofs.codestream.CodestreamInput.decode_shown.Goals as goal

pub returns-clause-ok : goal.returns-clause-ok
returns-clause-ok g c =
    let image = c.args.self.image.now in
    let frames = c.args.self.frames.now in
    all_decoded (entropy decoder_at) c.args.self.bytes.now (image_of image) (map frame_at frames.saved.items) (frame_at frames.shown) (slots_of c.in_ok-slots.slots) c.args.steps.now c.decode_saved.new.steps c.in_ok-slots.ensures.ok
    c.decode.new.steps c.decode.result c.decode.ensures.ok

pub returns-clause-whole : goal.returns-clause-whole
returns-clause-whole g c =
    let image = c.args.self.image.now in
    let frames = c.args.self.frames.now in
    all_whole (image_of image) (frame_size image.size (frame_of frames.shown.header)) c.decode.result c.requires.ready.covers c.decode.ensures.sides

pub returns-clause-err : goal.returns-clause-err
returns-clause-err g c =
    let image = c.args.self.image.now in
    let frames = c.args.self.frames.now in
    last_fails (entropy decoder_at) c.args.self.bytes.now (image_of image) (map frame_at frames.saved.items) (frame_at frames.shown) (slots_of c.in_ok-slots.slots) c.args.steps.now c.decode_saved.new.steps c.in_ok-slots.ensures.ok
    c.decode.result c.decode.ensures.err
