use Rattle.std.proofs.Common.{ℕ, ◌<◌, get_or}
use Rattle.jxlm_base.specs.Grid.{Grid}
use Rattle.jxlm_transform.specs.Channels.{HasSides}
use Rattle.jxl_encode_image.proofs.checked.have_sides.Given as goal

abbrev pub invariant-loop-i : goal.invariant-loop-i
invariant-loop-i g l = (k : ℕ) (d : Grid g.row.S.Denot) → k < l.i → HasSides l.width l.height (get_or l.grids k d)
