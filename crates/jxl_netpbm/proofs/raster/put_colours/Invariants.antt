use Rattle.std.proofs.Common.{◌≡◌, ◌+◌, ◌*◌, ◌++◌, take}
use Rattle.jxl_netpbm.specs.Layers.{layers_of}
use Rattle.jxl_netpbm.specs.Inner.Rows.{number_len}
use Rattle.jxl_netpbm.specs.Rasters.{pixels_text}
use Rattle.jxl_netpbm.proofs.raster.put_colours.Given as goal

abbrev pub invariant-loop-x : goal.invariant-loop-x
invariant-loop-x l = record {
  place : l.end ≡ l.at + l.x * (3 * number_len l.most);
  text : take l.end l.bytes ≡ take l.at l.initial.bytes ++ pixels_text l.most (layers_of l.layers) l.y l.x;
}
