use Rattle.std.proofs.Common.{take}
use Rattle.std.specs.List.{All}
use Rattle.jxl_coding_build.specs.Histograms.{HasSymbol}
use Rattle.jxl_coding_build.proofs.configs.all_fit.Given as goal

abbrev pub invariant-loop-token : goal.invariant-loop-token
invariant-loop-token l = All (HasSymbol l.config l.cluster) (take l.token-index l.tokens)
