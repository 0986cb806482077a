use Rattle.std.proofs.Common.{◌≡◌}
use Rattle.jxl_animation.specs.Decoders.{IsReadyDecoder, bytes_in, image_in, state_of}
use Rattle.jxl_animation.specs.States.{ShowsFrames}
use Rattle.jxl_animation.proofs.frames.FrameDecoder.nth.Given as goal

abbrev pub invariant-loop-passed : goal.invariant-loop-passed
invariant-loop-passed l = record {
  shows : ShowsFrames l.fn.self.source.limits (bytes_in l.fn.self.source) (image_in l.fn.self.source) (state_of l.fn.self) l.fn.steps l.passed (state_of l.self) l.steps;
  source : l.self.source ≡ l.fn.self.source;
  ready : IsReadyDecoder l.self;
}
