use Rattle.std.proofs.Common.{◌≡◌, true, subst, sym}
use Rattle.jxlm_tree.specs.FlatTree.{FlatTree, GoesWithoutWeights, needs_weights}
use Rattle.jxlm_tree.specs.Inner.Compiled.{IsCompiledFor}
use Rattle.jxlm_ma_tree.specs.TreeShape.{shape_of}
use Rattle.jxlm_tree.proofs.FlatAsks.{goes_without, needs_only}
use Rattle.jxlm_tree.proofs.flat.FlatMaTree.need_self_correcting.Goals as goal

pub returns-clause-need : goal.returns-clause-need
returns-clause-need c = λ yes.
    let t = c.self.inside in
    let d = c.deref.result.now in
    let is = subst (IsCompiledFor (shape_of t.tree.value.root) t.channel t.stream_idx t.prev_channels) (sym c.deref.ensures) c.self.invariant in
    subst (λ (u : FlatTree). needs_weights u.tree ≡ true) c.self.view_is (needs_only (shape_of t.tree.value.root) t.channel t.stream_idx t.prev_channels d.nodes.items d.root d.need_self_correcting d.prev_channels_named is.tree yes)

pub returns-clause-without : goal.returns-clause-without
returns-clause-without c = λ no.
    let t = c.self.inside in
    let d = c.deref.result.now in
    let is = subst (IsCompiledFor (shape_of t.tree.value.root) t.channel t.stream_idx t.prev_channels) (sym c.deref.ensures) c.self.invariant in
    subst GoesWithoutWeights c.self.view_is (goes_without (shape_of t.tree.value.root) t.channel t.stream_idx t.prev_channels d.nodes.items d.root d.need_self_correcting d.prev_channels_named is.tree no)
