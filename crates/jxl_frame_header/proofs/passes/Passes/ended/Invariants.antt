use Rattle.std.proofs.Common.{◌≡◌, drop}
use Rattle.jxl_frame_header.specs.Inner.Ended.{ended}
use Rattle.jxl_frame_header.proofs.passes.Passes.ended.Given as goal

abbrev pub invariant-loop-place : goal.invariant-loop-place
invariant-loop-place l = ended (drop l.place l.self.downsample.items) (drop l.place l.self.last_pass.items) l.pass ≡ ended l.self.downsample.items l.self.last_pass.items l.pass
