use Rattle.std.proofs.Common.{rules}
use Rattle.jxl_coding_codes.specs.Alias.{unfilled_buckets}
use Rattle.jxl_coding_codes.proofs.AliasSteps.{unfilled_more}
use Rattle.jxl_coding_codes.proofs.alias.unfilled.Goals as goal

pub loop-i-init : goal.loop-i-init
unfolding unfilled_buckets
loop-i-init c = search rules

pub loop-i-preserved : goal.loop-i-preserved
loop-i-preserved c = rw (unfilled_more c.args.counts.now c.args.bucket_size c.loop-i.i, ← c.loop-i.invariant.seen) (record {
  seen = c.in_ok-add_bucket.ensures.ok;
  many = c.in_ok-add_bucket.ensures.many;
})
