use Rattle.std.proofs.Common.{◌+◌, ◌≤◌, length, take}
use Rattle.jxl_netpbm.specs.Inner.Rows.{rows_text}
use Rattle.jxl_netpbm.proofs.Writing.{IsPending}
use Rattle.jxl_netpbm.proofs.raster.write_rows.Given as goal

abbrev pub invariant-loop-k : goal.invariant-loop-k
invariant-loop-k g l = record {
  room : l.end + l.room ≤ length l.piece;
  pending : IsPending (g.W.Write.contents l.initial.output) (g.W.Write.contents l.output) (take l.end l.piece) (rows_text l.raster l.k);
}
