use Rattle.std.proofs.Common.{inr}
use Rattle.jxl_coding_build.proofs.histogram.counts_in.Goals as goal

pub counts_of-requires-clause-symbols : goal.counts_of-requires-clause-symbols
counts_of-requires-clause-symbols c = inr (c.all_fit.ensures c.if-all_fit.true)
