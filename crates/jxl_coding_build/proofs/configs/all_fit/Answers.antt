use Rattle.std.proofs.Common.{List, subst}
use Rattle.std.specs.List.{All}
use Rattle.std.proofs.lemmas.List.{take_all}
use Rattle.std.proofs.lemmas.List.Elements.{All-more}
use Rattle.jxlm_bit_writer.specs.declared.token.Token.{Token}
use Rattle.jxl_coding_build.specs.Histograms.{HasSymbol}
use Rattle.jxl_coding_build.proofs.configs.all_fit.Goals as goal

pub loop-token-preserved : goal.loop-token-preserved
loop-token-preserved c =
    All-more (HasSymbol c.args.config.now c.args.cluster) c.args.tokens.now c.loop-token.token-index _ c.loop-token-test.true c.loop-token.invariant
    (c.is_beyond.ensures c.if-is_beyond.false)

pub returns : goal.returns
returns c = λ all. subst (λ (ts : List Token). All (HasSymbol c.args.config.now c.args.cluster) ts) (take_all c.loop-token.token-index c.args.tokens.now c.loop-token-test.false) c.loop-token.invariant
