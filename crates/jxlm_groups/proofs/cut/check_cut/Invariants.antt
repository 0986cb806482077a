use Rattle.std.proofs.Common.{◌≡◌, drop}
use Rattle.std.specs.List.{list_all}
use Rattle.jxlm_transform.specs.Lists.{list_of}
use Rattle.jxlm_groups.specs.Cutting.{can_cut, has_cells}
use Rattle.jxlm_groups.proofs.cut.check_cut.Given as goal

abbrev pub invariant-loop-n : goal.invariant-loop-n
invariant-loop-n l = can_cut l.group_dim (list_of l.channels) ≡ list_all (has_cells l.group_dim) (drop l.n (list_of l.channels).channels)
