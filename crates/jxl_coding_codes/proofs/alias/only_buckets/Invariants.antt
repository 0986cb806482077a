use Rattle.std.proofs.Common.{◌≡◌}
use Rattle.jxl_coding_codes.specs.Alias.{only_buckets}
use Rattle.jxl_coding_codes.proofs.alias.only_buckets.Given as goal

abbrev pub invariant-loop-i : goal.invariant-loop-i
invariant-loop-i l = l.buckets.items ≡ only_buckets l.symbol l.bucket_size l.i
