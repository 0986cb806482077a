use Rattle.std.proofs.Common.{drop}
use Rattle.std.specs.Prelude.{◌↔◌}
use Rattle.std.specs.List.{AllZip}
use Rattle.jxl_picture.specs.Sides.{HasShiftedSides}
use Rattle.jxl_picture.proofs.picture.have_shifted_sides.Given as goal

abbrev pub invariant-loop-k : goal.invariant-loop-k
invariant-loop-k l =
    AllZip (HasShiftedSides l.size) l.extra l.channels ↔ AllZip (HasShiftedSides l.size) (drop l.k l.extra) (drop l.k l.channels)
