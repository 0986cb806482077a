-- None of the channels before this one is such a channel.
use Rattle.std.proofs.Common.{◌≡◌, ◌+◌, drop}
use Rattle.jxl_c.specs.Infos.{alpha_among}
use Rattle.jxl_c.proofs.info.alpha_number.Given as goal

abbrev pub invariant-loop-k : goal.invariant-loop-k
invariant-loop-k l = alpha_among l.colours l.extra ≡ alpha_among (l.colours + l.k) (drop l.k l.extra)
