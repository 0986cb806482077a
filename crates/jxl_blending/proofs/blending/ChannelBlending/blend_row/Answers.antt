use Rattle.std.proofs.Common.{◌≡◌, ◌+◌, ◌∙◌, pos, get_or, rules, arith, w32, to_z, of_z}
use Rattle.std.specs.Float.{nan}
use Rattle.std.proofs.lemmas.Int.{to_z-of_z}
use Rattle.jxl_blending.proofs.BlendedRows.{made, blended_more, same_points}
use Rattle.jxl_blending.proofs.blending.ChannelBlending.blend_row.Goals as goal

pub loop-i-preserved : goal.loop-i-preserved
loop-i-preserved c =
    let i = c.loop-i.i in
    let f = get_or c.args.front.now i (pos 0) in
    let a = get_or c.args.front_alpha.now i (pos 0) in
    let ef : to_z w32 (of_z w32 (get_or c.args.front.now c.loop-i.i (pos 0))) ≡ get_or c.args.front.now c.loop-i.i (pos 0) = search (rules, to_z-of_z) in
    let ea : to_z w32 (of_z w32 (get_or c.args.front_alpha.now c.loop-i.i (pos 0))) ≡ get_or c.args.front_alpha.now c.loop-i.i (pos 0) = search (rules, to_z-of_z) in
    let v : c.blend_onto.result ≡ made c.args.self c.args.front.now c.args.front_alpha.now c.args.back_alpha.now i (c.args.start + i) (get_or c.loop-i.cells (c.args.start + i) nan) =
    c.blend_onto.ensures
    ∙ same_points c.args.self _ f _ a (get_or c.loop-i.cells (c.args.start + i) nan) (get_or c.args.back_alpha.now (c.args.start + i) nan) ef ea in
    blended_more c.args.self c.args.start i c.args.front.now c.args.front_alpha.now c.args.back_alpha.now c.args.cells.now c.loop-i.cells c.blend_onto.result c.loop-i.invariant
    (omega (arith, c.loop-i-test.true, c.requires.inside)) v
