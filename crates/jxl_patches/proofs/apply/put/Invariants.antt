use Rattle.std.proofs.Common.{◌≡◌, ℕ, ◌<◌}
use Rattle.jxlm_base.specs.Grid.{IsFull, at}
use Rattle.jxl_image_header.specs.Images.{image_of}
use Rattle.jxl_patches.specs.Inner.Rows.{mixed_cell, sample_put, top_rows}
use Rattle.jxl_patches.proofs.apply.put.Given as goal

abbrev pub invariant-loop-j : goal.invariant-loop-j
invariant-loop-j l = record {
  width : l.grid.width ≡ l.fn.grid.width;
  height : l.grid.height ≡ l.fn.grid.height;
  full : IsFull l.grid;
  each : (x y : ℕ) → x < l.fn.grid.width → y < l.fn.grid.height →
      at l.grid x y ≡ sample_put (mixed_cell (image_of l.mixing.image.now) l.mixing.colours l.mixing.mode l.mixing.channel l.place l.source.samples.now l.source.alpha.now l.alpha) (top_rows l.place l.j) x y (at l.fn.grid x y);
}
