use Rattle.std.proofs.Common.{rules}
use Rattle.jxl_coding_codes.specs.PrefixCodes.{set_first}
use Rattle.jxl_coding_codes.proofs.CodeSteps.{set_more}
use Rattle.jxl_coding_codes.proofs.prefix.set_lengths.Goals as goal

pub loop-i-init : goal.loop-i-init
unfolding set_first
loop-i-init c = search rules

pub loop-i-preserved : goal.loop-i-preserved
loop-i-preserved c = let e = set_more c.loop-i.i c.args.lengths.now c.args.symbols.now c.args.each.now in cc
