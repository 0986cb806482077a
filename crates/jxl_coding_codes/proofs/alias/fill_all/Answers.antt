use Rattle.std.proofs.Common.{rules}
use Rattle.jxl_coding_codes.specs.Alias.{filled_by}
use Rattle.jxl_coding_codes.specs.Inner.Seen.{filling_seen}
use Rattle.jxl_coding_codes.proofs.AliasSteps.{filled_more}
use Rattle.jxl_coding_codes.proofs.alias.fill_all.Goals as goal

pub loop-init : goal.loop-init
unfolding filled_by
loop-init c = search rules

pub loop-preserved : goal.loop-preserved
loop-preserved c = rw (filled_more c.args.bucket_size c.loop.counter (filling_seen c.args.s.now), ← c.loop.invariant) c.in_ok-fill_one.ensures.ok
