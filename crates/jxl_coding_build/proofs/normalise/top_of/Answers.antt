use Rattle.jxl_coding_build.proofs.Quotients.{top_comes}
use Rattle.jxl_coding_build.proofs.normalise.top_of.Goals as goal

pub returns-clause-occurs : goal.returns-clause-occurs
returns-clause-occurs c = top_comes c.args.counts.now c.loop-i.top c.loop-i.i c.loop-i-test.false c.loop-i.invariant.most c.requires
