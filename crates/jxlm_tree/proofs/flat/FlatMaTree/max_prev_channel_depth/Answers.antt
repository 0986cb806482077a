use Rattle.std.proofs.Common.{◌≤◌, subst, sym}
use Rattle.jxlm_tree.specs.FlatTree.{FlatTree, NamesEarlier, ReadsEarlierBelow}
use Rattle.jxlm_tree.specs.Inner.Compiled.{IsCompiledFor}
use Rattle.jxlm_ma_tree.specs.TreeShape.{shape_of}
use Rattle.jxlm_tree.proofs.FlatAsks.{names, reads_below, there}
use Rattle.jxlm_tree.proofs.flat.FlatMaTree.max_prev_channel_depth.Goals as goal

pub returns-clause-there : goal.returns-clause-there
returns-clause-there c =
    let t = c.self.inside in
    let d = c.deref.result.now in
    let is = subst (IsCompiledFor (shape_of t.tree.value.root) t.channel t.stream_idx t.prev_channels) (sym c.deref.ensures) c.self.invariant in
    subst (λ (u : FlatTree). d.prev_channels_named ≤ u.prev_channels) c.self.view_is (there (shape_of t.tree.value.root) t.channel t.stream_idx t.prev_channels d.nodes.items d.root d.need_self_correcting d.prev_channels_named is.tree)

pub returns-clause-named : goal.returns-clause-named
returns-clause-named c = λ some.
    let t = c.self.inside in
    let d = c.deref.result.now in
    let is = subst (IsCompiledFor (shape_of t.tree.value.root) t.channel t.stream_idx t.prev_channels) (sym c.deref.ensures) c.self.invariant in
    subst (λ (u : FlatTree). NamesEarlier d.prev_channels_named u.tree) c.self.view_is (names (shape_of t.tree.value.root) t.channel t.stream_idx t.prev_channels d.nodes.items d.root d.need_self_correcting d.prev_channels_named is.tree some)

pub returns-clause-below : goal.returns-clause-below
returns-clause-below c =
    let t = c.self.inside in
    let d = c.deref.result.now in
    let is = subst (IsCompiledFor (shape_of t.tree.value.root) t.channel t.stream_idx t.prev_channels) (sym c.deref.ensures) c.self.invariant in
    subst (λ (u : FlatTree). ReadsEarlierBelow u d.prev_channels_named) c.self.view_is (reads_below (shape_of t.tree.value.root) t.channel t.stream_idx t.prev_channels d.nodes.items d.root d.need_self_correcting d.prev_channels_named is.tree)
