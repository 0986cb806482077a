use Rattle.jxl_image_header.specs.Images.{image_of}
use Rattle.jxl_c_picture.proofs.Made.{AreMade}
use Rattle.jxl_c_picture.proofs.grids.grids_of.Given as goal

abbrev pub invariant-loop-k : goal.invariant-loop-k
invariant-loop-k l = AreMade (image_of l.header) l.samples l.k l.grids.items l.left
