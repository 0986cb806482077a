use Rattle.std.proofs.Common.{◌≡◌, take, map}
use Rattle.jxl_coding_stream_write.specs.Heads.{map_token}
use Rattle.jxl_coding_stream_write.proofs.head.map_tokens.Given as goal

abbrev pub invariant-loop-cluster : goal.invariant-loop-cluster
invariant-loop-cluster l = l.tokens.items ≡ map map_token (take l.cluster-index l.clusters)
