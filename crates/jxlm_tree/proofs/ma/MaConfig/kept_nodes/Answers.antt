use Rattle.std.proofs.Common.{◌≡◌, ℕ, IfOk, IfSome, sym, subst, arith}
use Rattle.jxlm_ma_tree.specs.Tree.{Config, Shape}
use Rattle.jxlm_ma_tree.specs.TreeShape.{shape_of}
use Rattle.jxlm_ma_tree.specs.declared.leaf.Leaf.{Leaf}
use Rattle.jxlm_tree.specs.Inner.Compiled.{IsCompiledFor}
use Rattle.jxlm_tree.specs.Inner.Streams.{ServesStreams}
use Rattle.jxlm_tree.proofs.ma.MaConfig.kept_nodes.Goals as goal

pub returns-in-Some-clause-serves : goal.returns-in-Some-clause-serves
returns-in-Some-clause-serves g c = λ stream.
    let tree : Shape Leaf = shape_of c.self.inside.tree.value.root in
    let kept : ServesStreams tree c.in-Some.kept.value = subst (λ o. IfSome o (λ s. ServesStreams tree s.value)) c.in-Some.is c.self.invariant.serves_streams in
    let here : ServesStreams tree c.deref.result.now = subst (ServesStreams tree) (sym c.deref.ensures) kept in
    let alike : c.args.channel ≡ c.args.prev_channels = omega (arith, c.if-channel-prev_channels.false) in
    let serves = subst (λ (n : ℕ). IfOk c.for_channel.result (λ o. IfSome o (λ k. IsCompiledFor tree c.args.channel stream n k.value))) alike (c.for_channel.ensures.serves tree stream here) in
    subst (λ (t : Config g.row.D.Denot). IfOk c.for_channel.result (λ o. IfSome o (λ k. IsCompiledFor t.tree c.args.channel stream c.args.prev_channels k.value))) c.self.view_is serves
