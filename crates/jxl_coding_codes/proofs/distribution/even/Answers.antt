use Rattle.std.proofs.Common.{rules}
use Rattle.jxl_coding_codes.specs.Distributions.{even_first}
use Rattle.jxl_coding_codes.proofs.CodeSteps.{even_more}
use Rattle.jxl_coding_codes.proofs.distribution.even.Goals as goal

pub loop-symbol-init : goal.loop-symbol-init
unfolding even_first
loop-symbol-init c = search rules

pub loop-symbol-preserved : goal.loop-symbol-preserved
loop-symbol-preserved c = rw (even_more c.loop-symbol.symbol c.args.all) (search rules)
