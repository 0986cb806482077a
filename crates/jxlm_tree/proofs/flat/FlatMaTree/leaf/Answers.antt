use Rattle.std.proofs.Common.{subst}
use Rattle.jxlm_tree.specs.FlatTree.{FlatTree}
use Rattle.jxlm_ma_tree.specs.TreeShape.{shape_of}
use Rattle.jxlm_tree.proofs.FlatSteps.{Went, went}
use Rattle.jxlm_tree.proofs.flat.FlatMaTree.leaf.Goals as goal

pub returns-clause-leaf : goal.returns-clause-leaf
returns-clause-leaf g c =
    let t = c.self.inside in
    let w = went g.P.PlaceProperties.gives c.args.properties.now (shape_of t.tree.value.root) t.channel t.stream_idx t.prev_channels c.deref.result.now t.compiled.value c.args.steps.now c.leaf.new.steps c.leaf.result.now c.deref.ensures c.self.invariant c.leaf.ensures in
    (subst (λ (u : FlatTree). Went g.P.PlaceProperties.gives c.args.properties.now u c.args.steps.now c.leaf.new.steps c.leaf.result.now) c.self.view_is w).leaf

pub returns-clause-stands : goal.returns-clause-stands
returns-clause-stands g c =
    let t = c.self.inside in
    let w = went g.P.PlaceProperties.gives c.args.properties.now (shape_of t.tree.value.root) t.channel t.stream_idx t.prev_channels c.deref.result.now t.compiled.value c.args.steps.now c.leaf.new.steps c.leaf.result.now c.deref.ensures c.self.invariant c.leaf.ensures in
    (subst (λ (u : FlatTree). Went g.P.PlaceProperties.gives c.args.properties.now u c.args.steps.now c.leaf.new.steps c.leaf.result.now) c.self.view_is w).stands

pub returns-clause-multiplier : goal.returns-clause-multiplier
returns-clause-multiplier g c =
    let t = c.self.inside in
    let w = went g.P.PlaceProperties.gives c.args.properties.now (shape_of t.tree.value.root) t.channel t.stream_idx t.prev_channels c.deref.result.now t.compiled.value c.args.steps.now c.leaf.new.steps c.leaf.result.now c.deref.ensures c.self.invariant c.leaf.ensures in
    (subst (λ (u : FlatTree). Went g.P.PlaceProperties.gives c.args.properties.now u c.args.steps.now c.leaf.new.steps c.leaf.result.now) c.self.view_is w).multiplier

pub returns-clause-cost : goal.returns-clause-cost
returns-clause-cost g c =
    let t = c.self.inside in
    let w = went g.P.PlaceProperties.gives c.args.properties.now (shape_of t.tree.value.root) t.channel t.stream_idx t.prev_channels c.deref.result.now t.compiled.value c.args.steps.now c.leaf.new.steps c.leaf.result.now c.deref.ensures c.self.invariant c.leaf.ensures in
    (subst (λ (u : FlatTree). Went g.P.PlaceProperties.gives c.args.properties.now u c.args.steps.now c.leaf.new.steps c.leaf.result.now) c.self.view_is w).cost

pub returns-clause-more : goal.returns-clause-more
returns-clause-more g c =
    let t = c.self.inside in
    let w = went g.P.PlaceProperties.gives c.args.properties.now (shape_of t.tree.value.root) t.channel t.stream_idx t.prev_channels c.deref.result.now t.compiled.value c.args.steps.now c.leaf.new.steps c.leaf.result.now c.deref.ensures c.self.invariant c.leaf.ensures in
    (subst (λ (u : FlatTree). Went g.P.PlaceProperties.gives c.args.properties.now u c.args.steps.now c.leaf.new.steps c.leaf.result.now) c.self.view_is w).more

pub returns-clause-half : goal.returns-clause-half
returns-clause-half g c =
    let t = c.self.inside in
    let w = went g.P.PlaceProperties.gives c.args.properties.now (shape_of t.tree.value.root) t.channel t.stream_idx t.prev_channels c.deref.result.now t.compiled.value c.args.steps.now c.leaf.new.steps c.leaf.result.now c.deref.ensures c.self.invariant c.leaf.ensures in
    (subst (λ (u : FlatTree). Went g.P.PlaceProperties.gives c.args.properties.now u c.args.steps.now c.leaf.new.steps c.leaf.result.now) c.self.view_is w).half

pub returns-clause-two : goal.returns-clause-two
returns-clause-two g c =
    let t = c.self.inside in
    let w = went g.P.PlaceProperties.gives c.args.properties.now (shape_of t.tree.value.root) t.channel t.stream_idx t.prev_channels c.deref.result.now t.compiled.value c.args.steps.now c.leaf.new.steps c.leaf.result.now c.deref.ensures c.self.invariant c.leaf.ensures in
    (subst (λ (u : FlatTree). Went g.P.PlaceProperties.gives c.args.properties.now u c.args.steps.now c.leaf.new.steps c.leaf.result.now) c.self.view_is w).two
