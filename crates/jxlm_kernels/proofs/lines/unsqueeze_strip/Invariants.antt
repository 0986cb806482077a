use Rattle.std.proofs.Common.{◌≡◌, length}
use Rattle.jxlm_lanes.specs.Pairs.{line_in}
use Rattle.jxlm_kernels.proofs.Strips.{StripSoFar}
use Rattle.jxlm_kernels.proofs.lines.unsqueeze_strip.Given as goal

abbrev pub invariant-loop-k : goal.invariant-loop-k
invariant-loop-k g l = record {
  len : length l.strip ≡ length l.fn.strip;
  so_far : StripSoFar g.S.Pairs.to_int g.S.Pairs.width l.len l.columns (λ j. line_in g.S.Pairs.to_int l.coded l.start l.stride j) l.strip l.k;
}
