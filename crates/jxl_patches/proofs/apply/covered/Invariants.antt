use Rattle.std.proofs.Common.{◌≡◌, ℕ, ◌+◌, ◌<◌}
use Rattle.jxlm_base.specs.Grid.{IsFull, at}
use Rattle.jxl_patches.proofs.apply.covered.Given as goal

abbrev pub invariant-loop-j : goal.invariant-loop-j
invariant-loop-j l = record {
  width : l.samples.width ≡ l.place.source.width;
  height : l.samples.height ≡ l.place.source.height;
  full : IsFull l.samples;
  each : (x y : ℕ) → x < l.place.source.width → y < l.j → at l.samples x y ≡ at l.grid (l.place.x + x) (l.place.y + y);
}
