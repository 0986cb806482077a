use Rattle.std.proofs.Common.{◌≡◌}
use Rattle.jxl_coding_codes.specs.Distributions.{even_first}
use Rattle.jxl_coding_codes.proofs.distribution.even.Given as goal

abbrev pub invariant-loop-symbol : goal.invariant-loop-symbol
invariant-loop-symbol l = l.counts.items ≡ even_first l.symbol l.all
