use Rattle.std.proofs.Common.{ℕ, ◌*◌, length}
use Rattle.std.specs.List.{flat_map}
use Rattle.jxl_netpbm.specs.Rasters.{float_text}
use Rattle.jxl_netpbm.proofs.Growing.{below_more, joined}
use Rattle.jxl_netpbm.proofs.Writing.{place_next, room_here}
use Rattle.jxl_netpbm.proofs.raster.put_float_row.Goals as goal

pub put_floats-end-requires-clause-room : goal.put_floats-end-requires-clause-room
put_floats-end-requires-clause-room c =
    room_here c.args.at c.loop-x.x c.args.width (length c.args.channels.now * 4) c.loop-x.end _ _ c.loop-x-test.true c.loop-x.invariant.place c.requires.room c.loop-x.auto.bytes

pub loop-x-preserved : goal.loop-x-preserved
loop-x-preserved c = record {
  place = place_next c.args.at c.loop-x.x (length c.args.channels.now * 4) c.loop-x.end c.put_floats-end.result c.loop-x.invariant.place c.put_floats-end.ensures.end;
  text = joined _ _ _ _ _ _ c.loop-x.invariant.text c.put_floats-end.ensures.text (below_more (λ (x : ℕ). flat_map (float_text c.args.depth x c.args.y) c.args.channels.now) c.loop-x.x);
}
