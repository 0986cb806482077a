use Rattle.std.proofs.Common.{ℕ, ◌<◌}
use Rattle.jxl_encode_image.specs.Inner.Names.{NamesRow}
use Rattle.jxl_encode_image.proofs.checked.names_rows.Given as goal

abbrev pub invariant-loop-y : goal.invariant-loop-y
invariant-loop-y g l = (k : ℕ) → k < l.y → NamesRow g.S.Sealed.to_int g.S.Sealed.width l.grids l.table l.index k
