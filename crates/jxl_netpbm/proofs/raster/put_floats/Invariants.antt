use Rattle.std.proofs.Common.{◌≡◌, ◌+◌, ◌*◌, ◌++◌, take}
use Rattle.std.specs.List.{flat_map}
use Rattle.jxl_netpbm.specs.Rasters.{float_text}
use Rattle.jxl_netpbm.proofs.raster.put_floats.Given as goal

abbrev pub invariant-loop-channel : goal.invariant-loop-channel
invariant-loop-channel l = record {
  place : l.end ≡ l.at + l.channel-index * 4;
  text : take l.end l.bytes ≡ take l.at l.initial.bytes ++ flat_map (float_text l.depth l.x l.y) (take l.channel-index l.channels);
}
