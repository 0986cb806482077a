use mir.Syntax.{w32}
use mir.Val.{of_z, to_z}
use Rattle.std.proofs.Common.{◌≡◌, ℕ, ℤ, ◌+◌, ◌+ℤ◌, pos, get_or, length, rules, arith}
use Rattle.std.specs.Int.{int_wrap}
use Rattle.std.proofs.lemmas.Int.{ints, to_z-of_z}
use Rattle.jxl_patches.proofs.MixedRows.{none_mixed, mixed_more}
use Rattle.jxl_patches.proofs.row.add.Goals as goal

pub loop-i-init : goal.loop-i-init
loop-i-init c = none_mixed _ c.args.start c.args.row.now

pub loop-i-preserved : goal.loop-i-preserved
loop-i-preserved c =
    let i = c.loop-i.i in
    let f : ℕ → ℤ → ℤ = λ i v. int_wrap w32 (v +ℤ get_or c.args.from.now i (pos 0)) in
    let v : c.plus.result ≡ f i (get_or c.loop-i.row (c.args.start + i) (pos 0)) = first_of (grind (arith, to_z-of_z, c.plus.ensures), search (rules, to_z-of_z, c.plus.ensures), search (arith, ints, to_z-of_z, c.plus.ensures)) in
    let back : to_z w32 (of_z w32 c.plus.result) ≡ c.plus.result = first_of (search (rules, to_z-of_z), grind (arith, to_z-of_z), search (arith, ints, to_z-of_z)) in
    rw back (mixed_more f c.args.start i c.args.row.now c.loop-i.row c.plus.result c.loop-i.invariant (omega (arith, c.loop-i-test.true, c.requires)) v)

pub returns : goal.returns
returns c =
    let end : c.loop-i.i ≡ length c.args.from.now = omega arith in
    rw end at c.loop-i.invariant
