use Rattle.std.proofs.Common.{◌≡◌, ◌∙◌, ◌+◌, ◌<◌, ◌≤◌, rules, ap, arith, subst}
use Rattle.jxlm_tree.specs.FlatTree.{FlatTree}
use Rattle.jxlm_tree.specs.NextChannel.{next_alike}
use Rattle.jxlm_tree.specs.Inner.Compiled.{IsCompiledFor}
use Rattle.jxlm_ma_tree.specs.TreeShape.{shape_of}
use Rattle.jxlm_tree.specs.declared.flat.CompiledTree.{CompiledTree}
use Rattle.jxlm_ma_tree.specs.declared.tree.MaTree.{MaTree}
use Rattle.jxlm_tree.proofs.FlatShared.{serves-next}
use Rattle.jxlm_tree.proofs.NextChannels.{goes-on}
use Rattle.jxlm_tree.proofs.flat.FlatMaTree.for_next_channel.Goals.{then-self-deref-via-then-self-deref, then-self-deref-via-else-self-deref+then-self}
use Rattle.jxlm_tree.proofs.flat.FlatMaTree.for_next_channel.Goals as goal

pub returns-then-self-deref-clause-shared : goal.returns-then-self-deref-clause-shared
returns-then-self-deref-clause-shared c = λ channels earlier alike _.
    let t = c.self.inside in
    let same = ap (λ (u : FlatTree). u.channel) c.self.view_is in
    let counts = ap (λ (u : FlatTree). u.prev_channels) c.self.view_is in
    let here = ap next_alike c.self.view_is in
    elim c.then-self-deref.branch [
      | then-self-deref-via-then-self-deref w ↦
          let last : t.compiled.value.last_alike ≤ t.channel = subst (λ (x : CompiledTree). x.last_alike ≤ t.channel) c.deref.ensures (omega (arith, w.if-self-deref.true)) in
          goes-on (shape_of t.tree.value.root) t.channel t.stream_idx t.prev_channels t.compiled.value.last_alike c.self.invariant.ends c.self.invariant.reaches (omega (arith, channels, same)) (here ∙ alike) last
      | then-self-deref-via-else-self-deref+then-self w ↦ omega (arith, earlier, counts, w.if-self.true)
    ]

pub invariant_of-result : goal.invariant_of-result
invariant_of-result c =
    let t = c.self.inside in
    let more : t.channel < t.compiled.value.last_alike = subst (λ (x : CompiledTree). t.channel < x.last_alike) c.deref.ensures (omega (arith, c.if-self-deref.false)) in
    let next = serves-next (shape_of t.tree.value.root) t.compiled.value t.channel t.stream_idx t.prev_channels c.self.invariant more in
    let tree : t.tree.value ≡ c.in_ok-tree.tree.value = search rules in
    let nodes : t.compiled.value ≡ c.in_ok-compiled.compiled.value = search rules in
    subst (λ (m : MaTree). IsCompiledFor (shape_of m.root) (t.channel + 1) t.stream_idx (t.prev_channels + 1) c.in_ok-compiled.compiled.value) tree
    (subst (IsCompiledFor (shape_of t.tree.value.root) (t.channel + 1) t.stream_idx (t.prev_channels + 1)) nodes next)
