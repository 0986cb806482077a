use Rattle.std.proofs.Common.{◌≤◌, length}
use Rattle.std.specs.List.{sum}
use Rattle.jxl_coding_build.specs.Histograms.{AllOccur}
use Rattle.jxl_coding_build.proofs.histogram.counts_of.Given as goal

abbrev pub invariant-loop-token : goal.invariant-loop-token
invariant-loop-token l = record {
  some : 3 ≤ length l.counts.items;
  few : length l.counts.items ≤ 256;
  total : sum l.counts.items ≤ l.token-index;
  occur : AllOccur l.config l.cluster l.tokens l.token-index l.counts.items;
}
