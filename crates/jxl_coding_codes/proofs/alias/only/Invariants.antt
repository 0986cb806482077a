use Rattle.std.proofs.Common.{◌≡◌, drop}
use Rattle.jxl_coding_codes.specs.Alias.{only_from}
use Rattle.jxl_coding_codes.proofs.alias.only.Given as goal

abbrev pub invariant-loop-symbol : goal.invariant-loop-symbol
invariant-loop-symbol l = only_from 0 l.counts ≡ only_from l.symbol (drop l.symbol l.counts)
