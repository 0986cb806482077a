use Rattle.std.proofs.Common.{◌≡◌, ◌+◌, ◌∙◌, pos, get_or, length, rules, arith, w32, to_z, of_z}
use Rattle.std.proofs.lemmas.Int.{to_z-of_z}
use Rattle.jxl_patches.specs.Inner.Rows.{layered_row}
use Rattle.jxl_patches.proofs.MixedRows.{none_mixed, mixed_more, same_points}
use Rattle.jxl_patches.proofs.row.Layering.blend_row.Goals as goal

pub loop-i-init : goal.loop-i-init
loop-i-init c = none_mixed _ c.args.start c.args.row.now

pub loop-i-preserved : goal.loop-i-preserved
loop-i-preserved c =
    let i = c.loop-i.i in
    let f = get_or c.args.from.now i (pos 0) in
    let a = get_or c.args.from_alpha.now i (pos 0) in
    let t = get_or c.loop-i.row (c.args.start + i) (pos 0) in
    let d = get_or c.args.alpha.now i (pos 0) in
    let ef : to_z w32 (of_z w32 (get_or c.args.from.now c.loop-i.i (pos 0))) ≡ get_or c.args.from.now c.loop-i.i (pos 0) = search (rules, to_z-of_z) in
    let ea : to_z w32 (of_z w32 (get_or c.args.from_alpha.now c.loop-i.i (pos 0))) ≡ get_or c.args.from_alpha.now c.loop-i.i (pos 0) = search (rules, to_z-of_z) in
    let et : to_z w32 (of_z w32 (get_or c.loop-i.row (c.args.start + c.loop-i.i) (pos 0))) ≡ get_or c.loop-i.row (c.args.start + c.loop-i.i) (pos 0) = search (rules, to_z-of_z) in
    let ed : to_z w32 (of_z w32 (get_or c.args.alpha.now c.loop-i.i (pos 0))) ≡ get_or c.args.alpha.now c.loop-i.i (pos 0) = search (rules, to_z-of_z) in
    let v : c.blend.result ≡ layered_row c.args.self.blending c.args.self.below c.args.from.now c.args.from_alpha.now c.args.alpha.now i (get_or c.loop-i.row (c.args.start + i) (pos 0)) =
    c.blend.ensures ∙ same_points c.args.self.blending c.args.self.below _ f _ a _ t _ d ef ea et ed in
    let back : to_z w32 (of_z w32 c.blend.result) ≡ c.blend.result = search (rules, to_z-of_z) in
    rw back
    (mixed_more (layered_row c.args.self.blending c.args.self.below c.args.from.now c.args.from_alpha.now c.args.alpha.now) c.args.start i c.args.row.now c.loop-i.row c.blend.result c.loop-i.invariant
    (omega (arith, c.loop-i-test.true, c.requires.inside)) v)

pub returns : goal.returns
returns c =
    let end : c.loop-i.i ≡ length c.args.from.now = omega arith in
    rw end at c.loop-i.invariant
