use Rattle.std.proofs.Common.{arith}
use Rattle.jxl_coding_build.proofs.Occurrences.{item_fits, occur_next}
use Rattle.jxl_coding_build.proofs.histogram.counts_of.Goals as goal

pub loop-token-preserved : goal.loop-token-preserved
loop-token-preserved c = record {
  some = let a = c.loop-token.invariant.some in let b = c.in_ok-count_token.ensures.longer in omega (arith, a, b);
  few = c.in_ok-count_token.ensures.few;
  total = let a = c.loop-token.invariant.total in let b = c.in_ok-count_token.ensures.sum in omega (arith, a, b);
  occur =
      occur_next c.args.config.now c.args.cluster c.args.tokens.now c.loop-token.token-index _ c.loop-token.counts.items c.count_token.new.counts.items c.loop-token-test.true c.loop-token.invariant.occur
      c.in_ok-count_token.ensures.own c.in_ok-count_token.ensures.keeps;
}

pub count_token-requires-clause-symbols : goal.count_token-requires-clause-symbols
count_token-requires-clause-symbols c = item_fits c.args.config.now c.args.cluster c.args.tokens.now c.loop-token.token-index _ c.loop-token-test.true c.requires.symbols
