use Rattle.std.proofs.Common.{◌≡◌, map}
use Rattle.std.specs.List.{range_with_len}
use Rattle.jxl_profile_write.specs.Inner.Tokens.{cluster_in}
use Rattle.jxl_profile_write.proofs.contexts.clusters.Given as goal

abbrev pub invariant-loop-context : goal.invariant-loop-context
invariant-loop-context l = l.clusters.items ≡ map (cluster_in l.separate) (range_with_len 0 l.context)
