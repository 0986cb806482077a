use Rattle.std.proofs.Common.{◌≡◌, ◌++◌, ◌∷◌, take, rules}
use Rattle.std.specs.Fmt.{signed_decimal}
use Rattle.jxl_netpbm.proofs.Lines.{row_written}
use Rattle.jxl_netpbm.proofs.decimals.put_samples.Goals as goal

pub returns-clause-text : goal.returns-clause-text
returns-clause-text c =
    let cut : c.args.row.now ≡ c.in-Some.first.now ∷ c.in-Some.rest.now = search rules in
    let begun : take c.put_sample-end.result c.put_sample-end.new.bytes ≡ take c.args.at c.args.bytes.now ++ signed_decimal c.in-Some.first.now = search rules in
    row_written _ _ _ _ _ _ _ cut c.loop-sample-test.false begun c.loop-sample.invariant.text
