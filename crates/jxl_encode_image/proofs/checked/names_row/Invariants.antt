use Rattle.std.proofs.Common.{ℕ, ◌<◌}
use Rattle.jxl_encode_image.specs.Inner.Names.{NamesPixel}
use Rattle.jxl_encode_image.proofs.checked.names_row.Given as goal

abbrev pub invariant-loop-x : goal.invariant-loop-x
invariant-loop-x g l = (k : ℕ) → k < l.x → NamesPixel g.S.Sealed.to_int g.S.Sealed.width l.grids l.table l.index k l.y
