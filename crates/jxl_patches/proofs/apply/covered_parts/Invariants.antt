use Rattle.std.proofs.Common.{◌≡◌, ℕ, ◌<◌, [], length, get_or}
use Rattle.jxlm_base.specs.Grid.{grid}
use Rattle.jxl_patches.specs.Inner.Rows.{IsCovered}
use Rattle.jxl_patches.proofs.apply.covered_parts.Given as goal

abbrev pub invariant-loop-channel : goal.invariant-loop-channel
invariant-loop-channel l = record {
  count : length l.parts.items ≡ l.channel;
  each : (c : ℕ) → c < l.channel → IsCovered l.place (get_or l.channels c (grid 0 0 [])) (get_or l.parts.items c (grid 0 0 []));
}
