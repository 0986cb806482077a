use Rattle.std.proofs.Common.{◌≡◌, take, pos}
use Rattle.jxlm_transform.specs.Layout.{sides_of}
use Rattle.jxlm_nested.specs.Zeros.{zeros}
use Rattle.jxl_modular.proofs.image.fresh.zero_grids.Given as goal

abbrev pub invariant-loop-channel : goal.invariant-loop-channel
invariant-loop-channel g l = l.grids.items ≡ zeros (g.S.Sealed.from_int (pos 0)) (sides_of (take l.channel-index l.channels))
