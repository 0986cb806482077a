use Rattle.std.proofs.Common.{◌≡◌, length, take}
use Rattle.jxl_coding.specs.Inner.Marks.{AreMarked}
use Rattle.jxl_coding.proofs.clusters.marked.Given as goal

abbrev pub invariant-loop-i : goal.invariant-loop-i
invariant-loop-i l = record {
  many : length l.marks ≡ 256;
  so_far : AreMarked l.marks (take l.i l.clusters);
}
