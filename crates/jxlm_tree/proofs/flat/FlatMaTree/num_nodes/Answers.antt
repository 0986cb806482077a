use Rattle.std.proofs.Common.{ap, arith, vec_len}
use Rattle.jxlm_tree.specs.CompiledNodes.{flat_nodes, takes}
use Rattle.jxlm_tree.specs.FlatTree.{FlatTree, flat_tree}
use Rattle.jxlm_ma_tree.specs.Tree.{node_count}
use Rattle.jxlm_ma_tree.specs.TreeShape.{shape_of}
use Rattle.jxlm_tree.specs.declared.flat.CompiledTree.{CompiledTree}
use Rattle.jxlm_tree.proofs.FlatCounts.{undecided-is}
use Rattle.jxlm_tree.proofs.FlatMade.{size-is}
use Rattle.jxlm_tree.proofs.flat.FlatMaTree.num_nodes.Goals as goal

pub returns-clause-most : goal.returns-clause-most
returns-clause-most c =
    let few = c.self.invariant.tree.few in
    let is = size-is (shape_of c.self.inside.tree.value.root) in
    let same = ap (λ (u : FlatTree). node_count u.tree) c.self.view_is in
    let l = c.self.inside.compiled.value.nodes.len in
    let d = ap (λ (u : CompiledTree). vec_len u.nodes) c.deref.ensures in
    let n = c.len.ensures in
    omega arith

pub returns-clause-count : goal.returns-clause-count
returns-clause-count c =
    let t = c.self.inside in
    let count = c.self.invariant.tree.count in
    let is = ap (λ u. (takes u).own) (undecided-is (flat_tree (shape_of t.tree.value.root) t.channel t.stream_idx t.prev_channels) (shape_of t.tree.value.root)) in
    let same = ap flat_nodes c.self.view_is in
    let d = ap (λ (u : CompiledTree). vec_len u.nodes) c.deref.ensures in
    let l = t.compiled.value.nodes.len in
    let n = c.len.ensures in
    omega arith
