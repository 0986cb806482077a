use Rattle.std.proofs.Common.{◌≡◌}
use Rattle.jxlm_groups.specs.Cutting.{global_count}
use Rattle.jxlm_transform.specs.Lists.{list_of}
use Rattle.jxlm_groups.proofs.EachPart.{HoldsBefore}
use Rattle.jxlm_groups.proofs.complete.has_each_part.Given as goal

abbrev pub invariant-loop-n : goal.invariant-loop-n
invariant-loop-n l = record {
  count : l.count ≡ global_count l.group_dim (list_of l.channels);
  held : HoldsBefore l.group_dim l.passes (list_of l.channels) l.parts l.count l.n;
}
