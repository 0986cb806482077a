use Rattle.std.proofs.Common.{◌≡◌, length}
use Rattle.jxl_codestream.specs.Inner.Counts.{AreAllFree}
use Rattle.jxl_codestream.proofs.order.all_free.Given as goal

abbrev pub invariant-loop-k : goal.invariant-loop-k
invariant-loop-k l = record {
  nodes : length l.counts.items ≡ l.k;
  free : AreAllFree l.counts.items l.levels l.k;
}
