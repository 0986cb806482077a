use Rattle.std.proofs.Common.{◌≡◌}
use Rattle.std.specs.Prelude.{max}
use Rattle.jxlm_groups.specs.Counts.{group_count}
use Rattle.jxlm_groups.specs.Cutting.{global_count}
use Rattle.jxlm_groups.specs.Inner.Fitting.{count_from}
use Rattle.jxlm_transform.specs.Lists.{list_of}
use Rattle.jxlm_groups.proofs.cut.group_count.Given as goal

abbrev pub invariant-loop-n : goal.invariant-loop-n
invariant-loop-n l =
    (l.count ≡ global_count l.group_dim (list_of l.channels)) ×
    (group_count l.group_dim l.passes (list_of l.channels) l.kind ≡ max l.count_of_kind (count_from l.group_dim l.passes l.count l.kind l.n (list_of l.channels).channels))
