use Rattle.std.proofs.Common.{ℕ, ◌<◌}
use Rattle.jxlm_base.specs.Regions.{grid_of, store_meanings}
use Rattle.jxlm_inverse.specs.Inner.PaletteSteps.{IsSimpleRow}
use Rattle.jxlm_inverse.proofs.palette.is_simple.Given as goal

abbrev pub invariant-loop-y : goal.invariant-loop-y
invariant-loop-y g l = (y : ℕ) → y < l.y → IsSimpleRow l.palette (grid_of (store_meanings g.S.Sealed.to_int l.store) l.index) y
