use Rattle.std.proofs.Common.{◌≡◌, length}
use Rattle.jxl_icc_write.specs.Inner.Streams.{AreResiduals}
use Rattle.jxl_icc_write.proofs.header.residuals.Given as goal

abbrev pub invariant-loop-i : goal.invariant-loop-i
invariant-loop-i l = (length l.residuals.items ≡ l.i) × AreResiduals l.icc l.residuals.items
