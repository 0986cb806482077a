use Rattle.std.proofs.Common.{◌≡◌, rules}
use Rattle.std.specs.Prelude.{Contains}
use Rattle.jxlm_tree.specs.FlatTree.{ClustersStandIn}
use Rattle.jxlm_ma_tree.specs.TreeReading.{IsLeafOf}
use Rattle.jxlm_ma_tree.specs.TreeShape.{shape_of}
use Rattle.jxlm_ma_tree.specs.declared.leaf.Leaf.{Leaf}
use Rattle.jxlm_tree.proofs.FlatTrees.{each_leaf}
use Rattle.jxlm_tree.proofs.ma.MaConfig.make_flat_tree.Goals as goal

pub returns-clause-clusters : goal.returns-clause-clusters
returns-clause-clusters g c =
    let clusters = g.D.Decoder.meaning.cluster_map c.self.inside.decoder in
    let stand = each_leaf {P = IsLeafOf clusters} {Q = λ (l : Leaf). Contains clusters l.cluster} (λ (l : Leaf) (h : IsLeafOf clusters l). h.cluster) (shape_of c.self.inside.tree.value.root) c.self.invariant.leaves in
    let same : c.in_ok-tree.tree.value ≡ c.self.inside.tree.value = search rules in
    let held : ClustersStandIn (g.D.Decoder.meaning.cluster_map c.args.self.now.decoder) (shape_of c.in_ok-tree.tree.value.root) = rw (same, ← c.self.view_is) stand in
    held
