use Rattle.std.specs.Prelude.{Contains}
use Rattle.jxlm_ma_tree.specs.declared.leaf.Leaf.{Leaf}
use Rattle.jxlm_tree.proofs.FlatTrees.{standing_leaf}
use Rattle.jxlm_tree.proofs.flat.FlatMaTree.decode_sample.Goals as goal

pub read_varint_with_multiplier_clustered-requires : goal.read_varint_with_multiplier_clustered-requires
read_varint_with_multiplier_clustered-requires g c =
    standing_leaf (λ (l : Leaf). Contains (g.D.Decoder.meaning.cluster_map c.args.decoder.now) l.cluster) c.args.self.now.tree c.leaf-leaf.result.now c.requires.clusters c.leaf-leaf.ensures.stands

pub returns-clause-clusters : goal.returns-clause-clusters
returns-clause-clusters g c =
    let within = standing_leaf (λ (l : Leaf). Contains (g.D.Decoder.meaning.cluster_map c.args.decoder.now) l.cluster) c.args.self.now.tree c.leaf-leaf.result.now c.requires.clusters c.leaf-leaf.ensures.stands in
    let keeps = g.met.D.Decoder.lawful.read_keeps _ _ _ _ _ _ within c.in_ok-token.ensures.gives in
    keeps.clusters
