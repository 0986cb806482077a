use Rattle.std.proofs.Common.{◌≡◌, rules}
use Rattle.jxl_coding_build.proofs.Distributions.{below_count}
use Rattle.jxl_coding_build.proofs.histogram.count_token.Goals as goal

pub grow-requires-clause-most : goal.grow-requires-clause-most
grow-requires-clause-most c =
    let same : c.args.token.cluster ≡ c.args.cluster = search rules in
    below_count _ _ _ (c.args.token.cluster ≡ c.args.cluster) c.spell-spelling.ensures.few c.spell-spelling.ensures.symbol c.requires.symbols same
