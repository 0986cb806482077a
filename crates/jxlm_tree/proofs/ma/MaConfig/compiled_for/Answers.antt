use Rattle.std.proofs.Common.{◌≡◌, ◌≤◌, IfSome, rules, sym, subst, arith}
use Rattle.jxlm_tree.specs.FlatTree.{HasMultiplier}
use Rattle.jxlm_ma_tree.specs.EarlierChannels.{earlier_named}
use Rattle.jxlm_ma_tree.specs.Tree.{AllLeaves}
use Rattle.jxlm_ma_tree.specs.TreeReading.{IsLeafOf}
use Rattle.jxlm_tree.specs.Inner.Compiled.{IsCompiledFor, ServesAnywhere}
use Rattle.jxlm_ma_tree.specs.TreeShape.{shape_of}
use Rattle.jxlm_ma_tree.specs.Tree.{Config}
use Rattle.jxlm_ma_tree.specs.declared.leaf.Leaf.{Leaf}
use Rattle.jxlm_ma_tree.specs.declared.tree.MaTree.{MaTree}
use Rattle.jxlm_tree.proofs.FlatShared.{serves-here}
use Rattle.jxlm_tree.proofs.FlatTrees.{each_leaf}
use Rattle.jxlm_tree.proofs.ma.MaConfig.compiled_for.Goals as goal

pub returns-then-deref-prev_channels-clause-compiled : goal.returns-then-deref-prev_channels-clause-compiled
returns-then-deref-prev_channels-clause-compiled g c =
    let tree = c.self.inside.tree.value in
    let serves : ServesAnywhere (shape_of tree.root) c.in-Some.shared.value = subst (λ o. IfSome o (λ r. ServesAnywhere (shape_of tree.root) r.value)) c.in-Some.is c.self.invariant.serves in
    let named : earlier_named (shape_of tree.root) ≤ c.args.prev_channels = subst (λ (m : MaTree). earlier_named (shape_of m.root) ≤ c.args.prev_channels) c.deref.ensures (let n = c.deref.result.now.named_is in let h = c.if-deref-prev_channels.true in grind arith) in
    let same : c.in-Some.shared.value ≡ c.in_ok-clone.field-0.value = search rules in
    let here = subst (IsCompiledFor (shape_of tree.root) c.args.channel c.args.stream_idx c.args.prev_channels) same (serves-here (shape_of tree.root) c.in-Some.shared.value c.args.channel c.args.stream_idx c.args.prev_channels serves named) in
    subst (λ (t : Config g.row.D.Denot). IsCompiledFor t.tree c.args.channel c.args.stream_idx c.args.prev_channels c.in_ok-clone.field-0.value) c.self.view_is here

pub new-requires-clause-multipliers : goal.new-requires-clause-multipliers
new-requires-clause-multipliers g c =
    let clusters = g.D.Decoder.meaning.cluster_map c.self.inside.decoder in
    subst (λ (m : MaTree). AllLeaves HasMultiplier (shape_of m.root)) (sym c.deref-2.ensures)
    (each_leaf {P = IsLeafOf clusters} {Q = HasMultiplier} (λ (l : Leaf) (h : IsLeafOf clusters l). (h.least, h.below)) (shape_of c.self.inside.tree.value.root) c.self.invariant.leaves)

pub returns-in-Some-2-clause-compiled : goal.returns-in-Some-2-clause-compiled
returns-in-Some-2-clause-compiled g c =
    subst (λ o. IfSome o (λ k. IsCompiledFor c.args.self.now.tree c.args.channel c.args.stream_idx c.args.prev_channels k.value)) c.in-Some-2.is (c.in_ok-kept.ensures.serves c.args.stream_idx)
