use Rattle.std.proofs.Common.{refl, arith}
use Rattle.jxl_patches.proofs.Covering.{row_covered, row_full}
use Rattle.jxl_patches.proofs.apply.covered.Goals as goal

pub loop-j-init : goal.loop-j-init
loop-j-init c = record {
  width = let e = c.in_ok-samples.ensures.zero in rw e refl;
  height = let e = c.in_ok-samples.ensures.zero in rw e refl;
  full = c.in_ok-samples.ensures.full;
  each = λ x y h k. absurd (omega (arith, k));
}

pub part-from-requires-clause-in_rows : goal.part-from-requires-clause-in_rows
part-from-requires-clause-in_rows c = omega (arith, c.requires.in_rows, c.loop-j-test.true)

pub get_row_mut-row-requires : goal.get_row_mut-row-requires
get_row_mut-row-requires c = omega (arith, c.loop-j-test.true, c.loop-j.invariant.height)

pub replace-requires : goal.replace-requires
replace-requires c = omega (arith, c.part-from.ensures.len, c.get_row_mut-row.ensures.len, c.loop-j.invariant.width)

pub loop-j-preserved : goal.loop-j-preserved
loop-j-preserved c =
    let i = c.loop-j.invariant in
    let mix = rw c.get_row_mut-row.ensures.value at c.replace.ensures in
    record {
      width = i.width;
      height = i.height;
      full = row_full c.args.grid.now c.loop-j.samples c.args.place c.loop-j.j i.full i.width i.height c.loop-j-test.true i.each c.part-from.result.now c.replace.new.row c.part-from.ensures.cells c.part-from.ensures.len mix;
      each = row_covered c.args.grid.now c.loop-j.samples c.args.place c.loop-j.j i.full i.width i.height c.loop-j-test.true i.each c.part-from.result.now c.replace.new.row c.part-from.ensures.cells c.part-from.ensures.len mix;
    }

pub returns : goal.returns
returns c =
    let i = c.loop-j.invariant in
    record { width = i.width; height = i.height; each = λ x y h k. i.each x y h (omega (arith, k, c.loop-j-test.false)) }
