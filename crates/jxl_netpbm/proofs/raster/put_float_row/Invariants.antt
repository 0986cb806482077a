use Rattle.std.proofs.Common.{◌≡◌, ◌+◌, ◌*◌, ◌++◌, length, take}
use Rattle.jxl_netpbm.specs.Rasters.{float_pixels}
use Rattle.jxl_netpbm.proofs.raster.put_float_row.Given as goal

abbrev pub invariant-loop-x : goal.invariant-loop-x
invariant-loop-x l = record {
  place : l.end ≡ l.at + l.x * (length l.channels * 4);
  text : take l.end l.bytes ≡ take l.at l.initial.bytes ++ float_pixels l.depth l.channels l.y l.x;
}
