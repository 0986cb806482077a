use Rattle.std.proofs.Common.{ℕ, List, subst, sym}
use Rattle.jxl_coding.specs.Parse.{decoder_at}
use Rattle.jxl_coding.specs.Tokens.{entropy}
use Rattle.jxl_codestream.specs.FrontParts.{IsReadyFrame, frame_at}
use Rattle.jxl_lossless.specs.Frames.{FrameFails}
use Rattle.jxl_patches.specs.SavedParts.{slots_of}
use Rattle.jxl_animation.specs.Decoders.{bytes_in, image_in, state_of}
use Rattle.jxl_animation.proofs.States.{frame_fails}
use Rattle.jxl_animation.proofs.frames.FrameDecoder.decode.Goals as goal

pub decode_entropy_coded-requires : goal.decode_entropy_coded-requires
decode_entropy_coded-requires c = record {
  ready = record {
    frame = subst (λ (b : List ℕ). IsReadyFrame b (image_in c.args.self.now.source) c.args.front.now) (sym c.bytes.ensures) c.requires.frame;
    deep = c.requires.ready.source.deep;
    many = c.requires.ready.source.many;
    low = c.requires.ready.source.low;
    held = c.requires.ready.state.held;
  };
}

pub returns-in-Err-clause-err : goal.returns-in-Err-clause-err
returns-in-Err-clause-err c =
    let x = c.args.self.now in
    frame_fails x.source.limits (bytes_in x.source) (image_in x.source) (state_of x) (frame_at c.args.front.now) c.in-Err.error c.requires.comes
    (subst (λ (b : List ℕ). FrameFails (entropy decoder_at) (image_in x.source) (slots_of x.slots) b (frame_at c.args.front.now) c.in-Err.error) c.bytes.ensures c.in-Err.ensures.err)
