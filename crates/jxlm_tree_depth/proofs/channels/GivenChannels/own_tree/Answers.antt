use Rattle.std.proofs.Common.{inl, subst, sym}
use Rattle.std.specs.List.{All}
use Rattle.std.specs.Option.{option_copied}
use Rattle.std.specs.Prelude.{IfOk}
use Rattle.jxlm_bits.specs.Bits.{bytes_of, position_of}
use Rattle.jxlm_nested.specs.NestedParts.{nested_list}
use Rattle.jxlm_transform.specs.Channels.{ChannelList, IsNarrow}
use Rattle.jxlm_tree_depth.specs.Inner.{TreeIs}
use Rattle.jxlm_tree_depth.proofs.Depths.{own_is}
use Rattle.jxlm_tree_depth.proofs.channels.GivenChannels.own_tree.Goals as goal

pub returns-then-uses_global : goal.returns-then-uses_global
returns-then-uses_global g c = inl (c.uses_global.ensures.0 c.if-uses_global.true)

pub tree_at-requires-clause-narrow : goal.tree_at-requires-clause-narrow
tree_at-requires-clause-narrow g c = subst (λ (l : ChannelList). All IsNarrow l.channels) (sym c.in_ok-whole.ensures.list) c.requires.narrow

pub returns : goal.returns
returns g c =
    let d = g.D.Decoder.meaning in
    let global = option_copied c.args.global in
    let bytes = bytes_of c.args.bits in
    let p = position_of c.args.bits in
    own_is d global (nested_list c.args.self.now.channels.items) bytes p c.tree_at.result c.uses_global.result c.if-uses_global.false c.uses_global.ensures
    (subst (λ (l : ChannelList). IfOk c.tree_at.result (TreeIs d global l bytes p)) c.in_ok-whole.ensures.list c.tree_at.ensures)
