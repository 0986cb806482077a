use Rattle.std.proofs.Common.{◌≡◌, ◌+◌, arith, rules, w32, to_z, of_z}
use Rattle.std.proofs.lemmas.Int.{to_z-of_z}
use Rattle.jxl_blending.proofs.ShownRows.{shown_more}
use Rattle.jxl_blending.proofs.scale.Scale.show_row.Goals as goal

pub loop-i-preserved : goal.loop-i-preserved
loop-i-preserved c =
    let back : to_z w32 (of_z w32 c.show.result) ≡ c.show.result = search (rules, to_z-of_z) in
    rw back (shown_more c.args.self c.args.values.now c.args.start c.loop-i.i c.args.row.now c.loop-i.row c.show.result c.loop-i.invariant (omega (arith, c.loop-i-test.true, c.requires)) c.show.ensures)
