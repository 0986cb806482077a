use Rattle.std.proofs.Common.{◌≡◌, ℕ, ℤ, ◌+◌, ◌<◌, ◌∙◌, ap, get_or, pos, refl, arith}
use Rattle.jxlm_base.specs.Grid.{at}
use Rattle.jxl_image_header.specs.Images.{image_of}
use Rattle.jxl_patches.specs.Inner.Rows.{mixed_cell}
use Rattle.jxl_patches.proofs.Putting.{no_row_put, row_put, row_full}
use Rattle.jxl_patches.proofs.MixedCells.{row_of_cells}
use Rattle.jxl_patches.proofs.apply.put.Goals as goal

pub loop-j-init : goal.loop-j-init
loop-j-init c = record {
  width = refl;
  height = refl;
  full = c.width.ensures.full;
  each = λ x y h k.
      no_row_put (mixed_cell (image_of c.args.mixing.image.now) c.args.mixing.colours c.args.mixing.mode c.args.mixing.channel c.args.place c.args.source.samples.now c.args.source.alpha.now c.args.alpha.now) c.args.place x y
      (at c.args.grid.now x y);
}

pub part-from-requires-clause-in_rows : goal.part-from-requires-clause-in_rows
part-from-requires-clause-in_rows c = omega (arith, c.requires.samples.source_rows, c.loop-j-test.true)

pub part-from_alpha-requires-clause-in_rows : goal.part-from_alpha-requires-clause-in_rows
part-from_alpha-requires-clause-in_rows c = omega (arith, c.requires.source_alpha.source_rows, c.loop-j-test.true)

pub part-below-requires-clause-in_rows : goal.part-below-requires-clause-in_rows
part-below-requires-clause-in_rows c = omega (arith, c.requires.in_rows, c.loop-j-test.true)

pub part-below-requires-clause-columns : goal.part-below-requires-clause-columns
part-below-requires-clause-columns c = omega (arith, c.requires.columns)

pub get_row_mut-row-requires : goal.get_row_mut-row-requires
get_row_mut-row-requires c = omega (arith, c.requires.samples.rows, c.loop-j-test.true, c.loop-j.invariant.height)

pub mix-requires-clause-inside : goal.mix-requires-clause-inside
mix-requires-clause-inside c = omega (arith, c.requires.samples.columns, c.part-from.ensures.len, c.get_row_mut-row.ensures.len, c.loop-j.invariant.width)

pub mix-requires-clause-from_alpha : goal.mix-requires-clause-from_alpha
mix-requires-clause-from_alpha c = omega (arith, c.part-from.ensures.len, c.part-from_alpha.ensures.len)

pub mix-requires-clause-alpha : goal.mix-requires-clause-alpha
mix-requires-clause-alpha c = omega (arith, c.part-from.ensures.len, c.part-below.ensures.len)

pub loop-j-preserved : goal.loop-j-preserved
loop-j-preserved c =
    let below = c.loop-j-test.true in
    let i = c.loop-j.invariant in
    let image = image_of c.args.mixing.image.now in
    let f : ℕ → ℕ → ℤ → ℤ = mixed_cell image c.args.mixing.colours c.args.mixing.mode c.args.mixing.channel c.args.place c.args.source.samples.now c.args.source.alpha.now c.args.alpha.now in
    let below_at : (i : ℕ) → i < c.args.place.source.width → get_or c.part-below.result.now i (pos 0) ≡ at c.args.alpha.now i c.loop-j.j =
    λ i lt. let none : 0 + i ≡ i = omega arith in c.part-below.ensures.cells i lt ∙ ap (λ (n : ℕ). at c.args.alpha.now n c.loop-j.j) none in
    let mix = rw c.get_row_mut-row.ensures.value at c.mix.ensures in
    let mixed = row_of_cells image c.args.mixing.colours c.args.mixing.mode c.args.mixing.channel c.args.place c.args.source.samples.now c.args.source.alpha.now c.args.alpha.now c.loop-j.j
    c.part-from.result.now c.part-from_alpha.result.now c.part-below.result.now _ c.mix.new.row c.part-from.ensures.cells c.part-from_alpha.ensures.cells below_at c.part-from.ensures.len mix in
    record {
      width = i.width;
      height = i.height;
      full = row_full f c.args.place c.args.grid.now c.loop-j.grid c.loop-j.j i.full i.width i.height c.requires.samples.columns c.requires.samples.rows below i.each c.mix.new.row mixed;
      each = row_put f c.args.place c.args.grid.now c.loop-j.grid c.loop-j.j i.full i.width i.height c.requires.samples.columns c.requires.samples.rows below i.each c.mix.new.row mixed;
    }

pub returns : goal.returns
returns c =
    let i = c.loop-j.invariant in
    let end : c.loop-j.j ≡ c.args.place.source.height = omega arith in
    record { width = i.width; height = i.height; each = rw end at i.each }
