use Rattle.std.proofs.Common.{◌≡◌}
use Rattle.std.specs.List.{flat_map, range_with_len}
use Rattle.jxlm_base.specs.Grid.{row, meanings}
use Rattle.jxlbench.specs.Checksum.{with_samples}
use Rattle.jxlbench.proofs.checksum.with_channel.Given as goal

abbrev pub invariant-loop-y : goal.invariant-loop-y
invariant-loop-y g l =
    l.sum ≡ with_samples l.initial.sum (flat_map (row (meanings g.S.Sealed.to_int l.channel)) (range_with_len 0 l.y))
