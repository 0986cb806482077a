use Rattle.jxlm_ma_tree.specs.TreeShape.{shape_of}
use Rattle.jxlm_tree.proofs.FlatPaths.{leaf-here}
use Rattle.jxlm_tree.proofs.PathSteps.{decision-here}
use Rattle.jxlm_tree.proofs.flat.FlatMaTree.only_leaf.Goals as goal

pub returns-in-Leaf-clause-some : goal.returns-in-Leaf-clause-some
returns-in-Leaf-clause-some c =
    let t = c.self.inside in
    leaf-here (shape_of t.tree.value.root) t.channel t.stream_idx t.prev_channels c.args.self.now c.deref.result.now c.deref-2.result.now t.compiled.value c.index.result.now c.in-Leaf.only c.self.invariant c.deref.ensures c.deref-2.ensures c.index.ensures c.in-Leaf.is c.self.view_is

pub returns-in_default : goal.returns-in_default
returns-in_default c =
    let t = c.self.inside in
    record {
      some = tt;
      none = λ e. decision-here (shape_of t.tree.value.root) t.channel t.stream_idx t.prev_channels c.args.self.now c.deref.result.now c.deref-2.result.now t.compiled.value c.index.result.now c.self.invariant c.deref.ensures c.deref-2.ensures c.index.ensures c.in_default.not-Leaf c.self.view_is;
    }
