use Rattle.std.proofs.Common.{◌≡◌, min, sum, take}
use Rattle.jxl_coding_codes.proofs.distribution.total.Given as goal

abbrev pub invariant-loop-count : goal.invariant-loop-count
invariant-loop-count l = l.total ≡ min (sum (take l.count-index l.counts)) 4096
