use Rattle.std.proofs.Common.{inl, subst}
use Rattle.std.specs.Option.{option_copied}
use Rattle.std.specs.Prelude.{IfOk}
use Rattle.jxlm_bits.specs.Bits.{bytes_of, position_of}
use Rattle.jxlm_transform.specs.Channels.{ChannelList}
use Rattle.jxlm_transform.specs.Lists.{list_of}
use Rattle.jxlm_tree_depth.specs.Inner.{TreeIs}
use Rattle.jxlm_tree_depth.specs.Openings.{list_of_part}
use Rattle.jxlm_tree_depth.proofs.Depths.{own_is}
use Rattle.jxlm_tree_depth.proofs.channels.CodedChannels.own_tree.Goals as goal

pub returns-then-uses_global : goal.returns-then-uses_global
returns-then-uses_global g c = inl (c.uses_global.ensures.0 c.if-uses_global.true)

pub returns : goal.returns
returns g c =
    let d = g.D.Decoder.meaning in
    let global = option_copied c.args.global in
    let bytes = bytes_of c.args.bits in
    let p = position_of c.args.bits in
    let coded = c.args.self.now in
    own_is d global (list_of_part coded.group_dim coded.passes.items (list_of coded.channels) c.args.part) bytes p c.tree_at.result c.uses_global.result c.if-uses_global.false c.uses_global.ensures
    (subst (λ (l : ChannelList). IfOk c.tree_at.result (TreeIs d global l bytes p)) c.in_ok-channels.ensures.list c.tree_at.ensures)
