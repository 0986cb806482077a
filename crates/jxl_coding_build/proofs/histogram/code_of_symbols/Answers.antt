use Rattle.jxl_coding_build.proofs.Distributions.{code_fits}
use Rattle.jxl_coding_build.proofs.histogram.code_of_symbols.Goals as goal

pub returns-clause-head : goal.returns-clause-head
returns-clause-head c =
    code_fits c.in_ok-code.code c.args.config c.in_ok-shares.shares.items c.in_ok-code.ensures.config c.in_ok-code.ensures.counts c.requires.split c.in_ok-shares.ensures.head
