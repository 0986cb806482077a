use Rattle.std.proofs.Common.{inl, subst, sym}
use Rattle.std.specs.List.{All}
use Rattle.std.specs.Option.{option_copied}
use Rattle.std.specs.Prelude.{IfOk}
use Rattle.jxlm_bits.specs.Bits.{bytes_of, position_of}
use Rattle.jxlm_nested.specs.NestedParts.{nested_list}
use Rattle.jxlm_transform.specs.Channels.{ChannelList, IsNarrow}
use Rattle.jxlm_tree_depth.specs.Inner.{TreeSays}
use Rattle.jxlm_tree_depth.proofs.Depths.{own_says}
use Rattle.jxlm_tree_depth.proofs.channels.GivenChannels.has_deep_tree.Goals as goal

pub returns-then-uses_global : goal.returns-then-uses_global
returns-then-uses_global g c = inl (c.uses_global.ensures.0 c.if-uses_global.true)

pub is_deeper-requires-clause-narrow : goal.is_deeper-requires-clause-narrow
is_deeper-requires-clause-narrow g c = subst (λ (l : ChannelList). All IsNarrow l.channels) (sym c.in_ok-whole.ensures.list) c.requires.narrow

pub returns : goal.returns
returns g c =
    let d = g.D.Decoder.meaning in
    let global = option_copied c.args.global in
    let bytes = bytes_of c.args.bits in
    let p = position_of c.args.bits in
    own_says d global (nested_list c.args.self.now.channels.items) c.args.deepest bytes p c.is_deeper.result c.uses_global.result c.if-uses_global.false c.uses_global.ensures
    (subst (λ (l : ChannelList). IfOk c.is_deeper.result (TreeSays d global l c.args.deepest bytes p)) c.in_ok-whole.ensures.list c.is_deeper.ensures)
