use Rattle.std.proofs.Common.{ℕ, ◌<◌, get_or}
use Rattle.jxl_coding_stream_write.specs.declared.cluster.ClusterWriter.{ClusterWriter}
use Rattle.jxl_coding_stream_write.specs.Heads.{FitsCluster}
use Rattle.jxl_coding_stream_write.proofs.head_limits.fit_clusters.Given as goal

abbrev pub invariant-loop-code : goal.invariant-loop-code
invariant-loop-code l = (k : ℕ) (d : ClusterWriter) → k < l.code-index → FitsCluster l.log (get_or l.codes k d)
