use Rattle.std.proofs.Common.{◌≡◌, take, map}
use Rattle.jxlbench.specs.Checksum.{with_samples}
use Rattle.jxlbench.proofs.checksum.with_row.Given as goal

abbrev pub invariant-loop-sample : goal.invariant-loop-sample
invariant-loop-sample g l = l.sum ≡ with_samples l.initial.sum (map g.S.Sealed.to_int (take l.sample-index l.row))
