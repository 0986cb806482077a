use Rattle.std.proofs.Common.{Contains, ◌∙◌}
use Rattle.jxlm_ma_tree.specs.declared.leaf.Leaf.{Leaf}
use Rattle.jxlm_tree.proofs.FlatTrees.{standing_leaf}
use Rattle.jxlm_samples.specs.Reading.{tree_of}
use Rattle.jxlm_samples.proofs.Decoding.{is_line}
use Rattle.jxlm_samples.proofs.RowsAlike.{row_of_zeros}
use Rattle.jxlm_samples.proofs.ZeroCells.{IsZero, is_zero}
use Rattle.jxlm_samples.proofs.decode.read_row.Goals.{in-Constant, in-Constant-2}
use Rattle.jxlm_samples.proofs.decode.read_row.Goals as goal

pub read_zeros-requires-clause-cluster : goal.read_zeros-requires-clause-cluster
read_zeros-requires-clause-cluster g c κs within =
    let t = tree_of c.args.line.now.coding.now c.args.line.now.i in
    let at = c.requires.at in
    let zero : IsZero t c.args.line.now.path c.in-Constant-1.leaf = elim c.in-Constant-1.branch [
      | in-Constant w ↦ rw w.leaf-is (is_zero t c.args.line.now.path w.in-Constant.leaf w.in-Constant.is at.gives at.allows)
      | in-Constant-2 w ↦ rw w.leaf-is (is_zero t c.args.line.now.path w.in-Constant.leaf w.in-Constant.is at.gives at.allows)
    ] in
    standing_leaf (λ (l : Leaf). Contains (g.D.Decoder.meaning.cluster_map c.args.walk.now.source.decoder) l.cluster) c.args.line.now.coding.now.config.now.tree c.in-Constant-1.leaf at.ready.clusters zero.only.stands

pub returns-in-Constant-clause-gives : goal.returns-in-Constant-clause-gives
returns-in-Constant-clause-gives g c =
    let l = c.args.line.now in
    let t = tree_of l.coding.now l.i in
    let at = c.requires.at in
    let zero : IsZero t l.path c.in-Constant-1.leaf = elim c.in-Constant-1.branch [
      | in-Constant w ↦ rw w.leaf-is (is_zero t l.path w.in-Constant.leaf w.in-Constant.is at.gives at.allows)
      | in-Constant-2 w ↦ rw w.leaf-is (is_zero t l.path w.in-Constant.leaf w.in-Constant.is at.gives at.allows)
    ] in
    row_of_zeros l g.D.Decoder.meaning g.S.Sealed.to_int g.S.Sealed.width (is_line l g.D.Decoder.meaning g.S.Sealed.to_int c.args.walk.now at c.requires.below c.requires.clamped) c.read_zeros.new.row (c.read_zeros.auto.row ∙ c.requires.long)
    c.args.walk.now.source c.read_zeros.new.source c.read_zeros.result c.in-Constant-1.leaf zero.only zero.predicts c.read_zeros.ensures
