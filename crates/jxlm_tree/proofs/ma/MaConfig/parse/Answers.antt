use Rattle.jxlm_tree.specs.FlatTree.{HasMultiplier}
use Rattle.jxlm_ma_tree.specs.TreeReading.{IsLeafOf}
use Rattle.jxlm_ma_tree.specs.TreeShape.{shape_of}
use Rattle.jxlm_ma_tree.specs.declared.leaf.Leaf.{Leaf}
use Rattle.jxlm_tree.proofs.FlatTrees.{each_leaf}
use Rattle.jxlm_tree.proofs.ma.MaConfig.parse.Goals as goal

pub anywhere-requires-clause-multipliers : goal.anywhere-requires-clause-multipliers
anywhere-requires-clause-multipliers g c =
    let clusters = g.D.Decoder.meaning.cluster_map c.in_ok-parsed.parsed.decoder in
    each_leaf {P = IsLeafOf clusters} {Q = HasMultiplier} (λ (l : Leaf) (h : IsLeafOf clusters l). (h.least, h.below)) (shape_of c.in_ok-parsed.parsed.tree.root) c.in_ok-parsed.ensures.leaves

pub of-requires-clause-multipliers : goal.of-requires-clause-multipliers
of-requires-clause-multipliers g c =
    let clusters = g.D.Decoder.meaning.cluster_map c.in_ok-parsed.parsed.decoder in
    each_leaf {P = IsLeafOf clusters} {Q = HasMultiplier} (λ (l : Leaf) (h : IsLeafOf clusters l). (h.least, h.below)) (shape_of c.in_ok-parsed.parsed.tree.root) c.in_ok-parsed.ensures.leaves
