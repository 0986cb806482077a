use Rattle.std.proofs.Common.{ℕ, ◌-◌, length}
use Rattle.jxlm_inverse.specs.Inner.PaletteSteps.{ChannelsDone}
use Rattle.jxlm_inverse.proofs.palette.look_up_all.Given as goal

abbrev pub invariant-loop-i : goal.invariant-loop-i
invariant-loop-i g l = (depth : ℕ) → ChannelsDone g.S.Sealed.to_int g.S.Sealed.width depth l.palette l.table l.index l.finished (length l.finished - l.i) l.fn.store l.store
