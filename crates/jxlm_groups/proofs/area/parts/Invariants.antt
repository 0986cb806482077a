use Rattle.std.proofs.Common.{◌≡◌, ◌++◌, take}
use Rattle.std.specs.List.{flat_map}
use Rattle.jxlm_transform.specs.Lists.{list_of}
use Rattle.jxlm_groups.proofs.AreaLemmas.{before_passes, groups_in}
use Rattle.jxlm_groups.proofs.area.parts.Given as goal

abbrev pub invariant-loop-pass : goal.invariant-loop-pass
invariant-loop-pass l =
    l.list.items ≡ before_passes l.width l.height l.group_dim l.passes (list_of l.channels)
    ++ flat_map (groups_in l.width l.height l.group_dim l.passes (list_of l.channels)) (take l.pass-index l.passes)
