use Rattle.std.proofs.Common.{rules}
use Rattle.jxl_coding_codes.specs.Alias.{only_buckets}
use Rattle.jxl_coding_codes.proofs.AliasSteps.{only_more}
use Rattle.jxl_coding_codes.proofs.alias.only_buckets.Goals as goal

pub loop-i-init : goal.loop-i-init
unfolding only_buckets
loop-i-init c = search rules

pub loop-i-preserved : goal.loop-i-preserved
loop-i-preserved c = rw (only_more c.args.symbol c.args.bucket_size c.loop-i.i) (search rules)
