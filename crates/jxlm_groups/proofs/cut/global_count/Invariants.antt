use Rattle.std.proofs.Common.{◌≡◌, ◌+◌, ◌-◌, drop, length}
use Rattle.std.specs.List.{prefix_len}
use Rattle.jxlm_transform.specs.Lists.{list_of}
use Rattle.jxlm_groups.specs.Cutting.{fits_group, global_count}
use Rattle.jxlm_groups.proofs.cut.global_count.Given as goal

abbrev pub invariant-loop-count : goal.invariant-loop-count
invariant-loop-count l = global_count l.group_dim (list_of l.channels) ≡ l.count + prefix_len (fits_group l.group_dim) (drop l.count (list_of l.channels).channels)

abbrev pub decreases-loop-count : goal.decreases-loop-count
decreases-loop-count l = length (list_of l.channels).channels - l.count
