use Rattle.std.proofs.Common.{◌*◌, length}
use Rattle.jxl_netpbm.specs.Layers.{layers_of}
use Rattle.jxl_netpbm.specs.Inner.Rows.{number_len}
use Rattle.jxl_netpbm.specs.Rasters.{pixel_text}
use Rattle.jxl_netpbm.proofs.Growing.{below_more, joined}
use Rattle.jxl_netpbm.proofs.Writing.{place_next, room_here}
use Rattle.jxl_netpbm.proofs.raster.put_pixels.Goals as goal

pub put_pixel-end-requires-clause-room : goal.put_pixel-end-requires-clause-room
put_pixel-end-requires-clause-room c =
    room_here c.args.at c.loop-x.x c.args.width (length c.args.layers.now * number_len c.args.most) c.loop-x.end _ _ c.loop-x-test.true c.loop-x.invariant.place c.requires.room c.loop-x.auto.bytes

pub loop-x-preserved : goal.loop-x-preserved
loop-x-preserved c = record {
  place = place_next c.args.at c.loop-x.x (length c.args.layers.now * number_len c.args.most) c.loop-x.end c.put_pixel-end.result c.loop-x.invariant.place c.put_pixel-end.ensures.end;
  text = joined _ _ _ _ _ _ c.loop-x.invariant.text c.put_pixel-end.ensures.text (below_more (pixel_text c.args.most (layers_of c.args.layers.now) c.args.y) c.loop-x.x);
}
