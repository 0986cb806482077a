use Rattle.std.proofs.Common.{◌≡◌, List, false}
use Rattle.jxl_codestream.specs.Fronts.{FrameAt}
use Rattle.jxl_animation.specs.Decoders.{IsReadyDecoder, bytes_in, image_in, state_of}
use Rattle.jxl_animation.specs.States.{Passes}
use Rattle.jxl_animation.proofs.frames.FrameDecoder.next.Given as goal

abbrev pub invariant-loop : goal.invariant-loop
invariant-loop l = record {
  passes : (hidden : List FrameAt) × Passes l.fn.self.source.limits (bytes_in l.fn.self.source) (image_in l.fn.self.source) (state_of l.fn.self) l.fn.steps hidden (state_of l.self) l.steps;
  source : l.self.source ≡ l.fn.self.source;
  ready : IsReadyDecoder l.self;
  going : l.self.is_done ≡ false;
}
