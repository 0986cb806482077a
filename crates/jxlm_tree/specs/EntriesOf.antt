-- What a loop keeps of a table of clusters.
use Rattle.std.specs.Prelude.{◌≡◌, ◌<◌, ◌-◌, length, slice_index}
use Rattle.jxlm_tree.specs.ClusterTables.{Clusters}
use Rattle.jxlm_tree.specs.declared.paths.ClusterEntries.{ClusterEntries}

-- the clusters of this table, its base, and the first and the last cluster
pub record AreEntriesOf (t : Clusters) (e : ClusterEntries) : Type 0 where
  pub some : 0 < length t.clusters
  pub clusters : e.clusters.now ≡ t.clusters
  pub base : e.base ≡ t.base
  pub first : e.first ≡ slice_index t.clusters 0
  pub last : e.last ≡ slice_index t.clusters (length t.clusters - 1)
