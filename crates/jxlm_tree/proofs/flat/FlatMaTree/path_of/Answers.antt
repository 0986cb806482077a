use Rattle.std.proofs.Common.{ap, subst}
use Rattle.std.specs.Option.{option_map}
use Rattle.std.specs.Prelude.{Contains}
use Rattle.std.specs.Rc.{rc_value}
use Rattle.jxlm_tree.specs.Inner.Tables.{IsPathOfTable}
use Rattle.jxlm_ma_tree.specs.TreeShape.{shape_of}
use Rattle.jxlm_ma_tree.specs.declared.leaf.Leaf.{Leaf}
use Rattle.jxlm_tree.proofs.FlatPaths.{gives-leaf, gives-table, leaf-here, table-here}
use Rattle.jxlm_tree.proofs.FlatTrees.{standing_leaf}
use Rattle.jxlm_tree.proofs.PathSteps.{leaf-steps, table-steps, tree-steps}
use Rattle.jxlm_tree.proofs.flat.FlatMaTree.path_of.Goals as goal

pub path_of_leaf-requires : goal.path_of_leaf-requires
path_of_leaf-requires g c =
    let t = c.self.inside in
    let of = leaf-here (shape_of t.tree.value.root) t.channel t.stream_idx t.prev_channels c.args.self.now c.deref.result.now c.deref-2.result.now t.compiled.value c.index.result.now c.in-Leaf.only c.self.invariant c.deref.ensures c.deref-2.ensures c.index.ensures c.in-Leaf.is c.self.view_is in
    record { cluster = standing_leaf (λ (l : Leaf). Contains (g.D.Decoder.meaning.cluster_map c.args.decoder.now) l.cluster) c.args.self.now.tree c.in-Leaf.only c.requires.clusters of.stands }

pub returns-in-Leaf-clause-gives : goal.returns-in-Leaf-clause-gives
returns-in-Leaf-clause-gives g c =
    let t = c.self.inside in
    let of = leaf-here (shape_of t.tree.value.root) t.channel t.stream_idx t.prev_channels c.args.self.now c.deref.result.now c.deref-2.result.now t.compiled.value c.index.result.now c.in-Leaf.only c.self.invariant c.deref.ensures c.deref-2.ensures c.index.ensures c.in-Leaf.is c.self.view_is in
    gives-leaf c.args.self.now c.in-Leaf.only c.path_of_leaf.result c.path_of_leaf.ensures.leaf of

pub returns-in-Leaf-clause-steps : goal.returns-in-Leaf-clause-steps
returns-in-Leaf-clause-steps g c =
    let t = c.self.inside in
    leaf-steps (shape_of t.tree.value.root) t.channel t.stream_idx t.prev_channels c.args.self.now c.deref.result.now c.deref-2.result.now t.compiled.value c.index.result.now c.in-Leaf.only c.path_of_leaf.result c.self.invariant c.deref.ensures c.deref-2.ensures c.index.ensures c.in-Leaf.is c.self.view_is c.path_of_leaf.ensures.leaf

pub returns-in-Some : goal.returns-in-Some
returns-in-Some g c =
    let t = c.self.inside in
    let of = table-here (shape_of t.tree.value.root) t.channel t.stream_idx t.prev_channels c.args.self.now c.deref-3.result.now t.compiled.value c.in-Some.table.value c.self.invariant c.deref-3.ensures (ap (option_map rc_value) c.in-Some.is) c.self.view_is in
    let on = subst (λ k. IsPathOfTable k c.path.result) c.deref-in-Some.ensures c.path.ensures.table in
    record {
      gives = gives-table c.args.self.now c.in-Some.table.value c.path.result on of;
      named = c.path.ensures.named;
      steps = table-steps (shape_of t.tree.value.root) t.channel t.stream_idx t.prev_channels c.args.self.now c.deref.result.now c.deref-2.result.now t.compiled.value c.index.result.now c.in-Some.table.value c.path.result c.self.invariant c.deref.ensures c.deref-2.ensures c.index.ensures c.in_default.not-Leaf c.self.view_is on;
    }

pub returns-in-None : goal.returns-in-None
returns-in-None g c =
    let t = c.self.inside in
    record {
      gives = tt;
      named = tt;
      steps = tree-steps (shape_of t.tree.value.root) t.channel t.stream_idx t.prev_channels c.args.self.now c.deref.result.now c.deref-2.result.now c.deref-3.result.now t.compiled.value c.index.result.now c.self.invariant c.deref.ensures c.deref-2.ensures c.deref-3.ensures c.index.ensures c.in_default.not-Leaf (ap (option_map rc_value) c.in-None.is) c.self.view_is;
    }
