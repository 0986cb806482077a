use Rattle.std.proofs.Common.{◌≡◌, ◌+◌, ◌∷◌, ◌++◌, [], sym, subst, arith, rules}
use Rattle.jxlm_tree.specs.FlatTree.{FlatTree}
use Rattle.jxlm_samples.specs.Reading.{HasFlats, IsTreeOf}
use Rattle.jxlm_samples.proofs.Starting.{flats_more, no_flats}
use Rattle.jxlm_samples.proofs.coding.flat_trees.Goals as goal

pub loop-channel-init : goal.loop-channel-init
loop-channel-init g c =
    let none : c.new-flats.result.items ≡ [] = search rules in
    subst (HasFlats c.args.config.now.tree c.args.stream_index 0) (sym none) (no_flats c.args.config.now.tree c.args.stream_index)

pub loop-channel-preserved : goal.loop-channel-preserved
loop-channel-preserved g c =
    let pushed : c.push.new.self.items ≡ c.loop-channel.flats.items ++ c.in_ok-tree.tree ∷ [] = search rules in
    subst (HasFlats c.args.config.now.tree c.args.stream_index (c.loop-channel.channel + 1)) (sym pushed)
    (flats_more c.args.config.now.tree c.args.stream_index c.loop-channel.channel c.loop-channel.flats.items c.in_ok-tree.tree c.loop-channel.invariant (subst (λ (t : FlatTree). IsTreeOf t c.in_ok-tree.tree) c.in_ok-flat.ensures.ok c.in_ok-tree.ensures.ok))

pub returns-clause-ok : goal.returns-clause-ok
returns-clause-ok g c =
    let all : c.loop-channel.channel ≡ c.args.channels = let end = c.loop-channel.auto.channel-end in omega (arith, end, c.loop-channel-test.false) in
    subst (λ k. HasFlats c.args.config.now.tree c.args.stream_index k c.loop-channel.flats.items) all c.loop-channel.invariant
