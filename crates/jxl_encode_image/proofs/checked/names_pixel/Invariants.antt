use Rattle.std.proofs.Common.{ℕ, ◌<◌, [], get_or}
use Rattle.jxlm_base.specs.Grid.{grid}
use Rattle.jxl_encode_image.specs.Inner.Names.{NamesSample}
use Rattle.jxl_encode_image.proofs.checked.names_pixel.Given as goal

abbrev pub invariant-loop-channel : goal.invariant-loop-channel
invariant-loop-channel g l = (k : ℕ) → k < l.channel → NamesSample g.S.Sealed.to_int g.S.Sealed.width (get_or l.grids k (grid 0 0 [])) l.table l.number k l.x l.y
