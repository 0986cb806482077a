use Rattle.std.proofs.Common.{◌≡◌}
use Rattle.jxl_coding_codes.specs.PrefixCodes.{set_first}
use Rattle.jxl_coding_codes.proofs.prefix.set_lengths.Given as goal

abbrev pub invariant-loop-i : goal.invariant-loop-i
invariant-loop-i l = l.lengths ≡ set_first l.i l.fn.lengths l.symbols l.each
