use Rattle.std.proofs.Common.{◌≡◌, length}
use Rattle.jxl_coding_codes.specs.Alias.{unfilled_buckets}
use Rattle.jxl_coding_codes.specs.Inner.Seen.{filling_seen}
use Rattle.jxl_coding_codes.proofs.alias.unfilled.Given as goal

abbrev pub invariant-loop-i : goal.invariant-loop-i
invariant-loop-i l = record {
  seen : filling_seen l.s ≡ unfilled_buckets l.counts l.bucket_size l.i;
  many : length l.s.buckets.items ≡ l.i;
}
