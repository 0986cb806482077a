use Rattle.std.proofs.Common.{◌≡◌, ◌+◌, ◌*◌, ◌<◌, ◌++◌, ℤ, pos, get_or, ap, ◌∙◌, take, w32, to_z, of_z, arith, rules}
use Rattle.std.proofs.lemmas.Int.{to_z-of_z}
use Rattle.jxlm_base.specs.Grid.{at}
use Rattle.jxl_netpbm.specs.Inner.Rows.{number_len}
use Rattle.jxl_netpbm.proofs.Growing.{joined}
use Rattle.jxl_netpbm.proofs.Pieces.{at_row, grey_piece, number_of}
use Rattle.jxl_netpbm.proofs.Writing.{place_next, room_here}
use Rattle.jxl_netpbm.proofs.raster.put_grey.Goals as goal

pub put_sample-end-requires-clause-room : goal.put_sample-end-requires-clause-room
put_sample-end-requires-clause-room c =
    let room = room_here c.args.at c.loop-x.x c.args.width (1 * number_len c.args.most) c.loop-x.end _ _ c.loop-x-test.true c.loop-x.invariant.place c.requires.room c.loop-x.auto.bytes in
    omega (arith, room)

pub loop-x-preserved : goal.loop-x-preserved
loop-x-preserved c =
    let most = c.args.most in
    let grey = c.args.grey.now in
    let x = c.loop-x.x in
    let v : ℤ = get_or c.get_row-cells.result.now x (pos 0) in
    let inside : x < grey.grid.now.width = omega (arith, c.loop-x-test.true, c.requires.within.wide) in
    let here : at grey.grid.now x c.args.y ≡ v = at_row grey.grid.now x c.args.y c.get_row-cells.result.now c.get_row-cells.ensures.value inside in
    let back : to_z w32 (of_z w32 v) ≡ v = to_z-of_z w32 v (search rules) in
    let next : c.put_sample-end.result ≡ c.loop-x.end + 1 * number_len most = omega (arith, c.put_sample-end.ensures.end) in
    record {
      place = place_next c.args.at x (1 * number_len most) c.loop-x.end c.put_sample-end.result c.loop-x.invariant.place next;
      text = joined _ _ _ _ _ _ c.loop-x.invariant.text (c.put_sample-end.ensures.text ∙ ap (λ (n : ℤ). take c.loop-x.end c.loop-x.bytes ++ number_of most grey n) back) (grey_piece most x c.args.y grey v here);
    }
