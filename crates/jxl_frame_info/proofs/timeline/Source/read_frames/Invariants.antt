use Rattle.std.proofs.Common.{◌≡◌, ◌≤◌, List, length, false}
use Rattle.jxl_codestream.specs.Fronts.{FrameAt}
use Rattle.jxl_image_header.specs.Images.{image_of}
use Rattle.jxl_frame_info.specs.Timelines.{AreFrames, durations_of, has_final}
use Rattle.jxl_frame_info.proofs.timeline.Source.read_frames.Given as goal

abbrev pub invariant-loop : goal.invariant-loop
invariant-loop l = record {
  frames : (fs : List FrameAt) × AreFrames l.self.limits l.self.bytes.now (image_of l.self.image.now) l.first fs l.start l.used × (l.durations.items ≡ durations_of fs) × (has_final fs ≡ false);
  inside : l.start ≤ length l.self.bytes.now;
  within : l.used ≤ l.self.limits.pixels;
}
