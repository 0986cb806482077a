use Rattle.std.proofs.Common.{◌≡◌}
use Rattle.jxl_coding_codes.specs.Alias.{filled_by}
use Rattle.jxl_coding_codes.specs.Inner.Seen.{filling_seen}
use Rattle.jxl_coding_codes.proofs.alias.fill_all.Given as goal

abbrev pub invariant-loop : goal.invariant-loop
invariant-loop l = filling_seen l.s ≡ filled_by l.bucket_size l.counter (filling_seen l.fn.s)
