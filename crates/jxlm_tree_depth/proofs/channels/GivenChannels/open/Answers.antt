use Rattle.std.proofs.Common.{◌≡◌, ◌∙◌, false, refl, subst, sym}
use Rattle.jxlm_bits.specs.Bits.{bytes_of, position_of}
use Rattle.jxlm_bits.specs.ErrorKind.{UnlessNoMemory, kind_of}
use Rattle.jxlm_bits.specs.Grammar.{IsErrorAt}
use Rattle.std.proofs.Common.{Ok}
use Rattle.jxlm_header.specs.Opening.{opening}
use Rattle.jxlm_nested.specs.NestedParts.{nested_list}
use Rattle.jxlm_nested.specs.Opened.{opened_of}
use Rattle.jxlm_transform.specs.Channels.{ChannelList}
use Rattle.jxlm_tree_depth.specs.Inner.{is_memory}
use Rattle.jxlm_tree_depth.proofs.Depths.{refused}
use Rattle.jxlm_tree_depth.proofs.Pieces.{coded_sides}
use Rattle.jxlm_tree_depth.proofs.channels.GivenChannels.open.Goals as goal

pub returns-in-Ok-clause-opens : goal.returns-in-Ok-clause-opens
returns-in-Ok-clause-opens c =
    let q = position_of c.open.new.bits in
    let gives : (opening c.args.has_global (nested_list c.args.self.now.channels.items)).read (bytes_of c.args.bits) (position_of c.args.bits) ≡ Ok (record { value = opened_of (c.in-Ok.header, c.in-Ok.placed); position = q }) =
    subst (λ (l : ChannelList). (opening c.args.has_global l).read (bytes_of c.args.bits) (position_of c.args.bits) ≡ Ok (record { value = opened_of (c.in-Ok.header, c.in-Ok.placed); position = q })) c.in_ok-whole.ensures.list c.in-Ok.ensures.gives in
    (opened_of (c.in-Ok.header, c.in-Ok.placed), q, gives, refl, refl, refl)

pub returns-in-Ok-clause-coded : goal.returns-in-Ok-clause-coded
returns-in-Ok-clause-coded c = record {
  narrow = c.in-Ok.ensures.opened.narrow;
  sides = coded_sides c.args.self.now.channels.items c.in_ok-whole.whole c.in-Ok.header c.in-Ok.placed c.in_ok-whole.ensures.list c.in_ok-whole.ensures.layout c.in-Ok.ensures.goes c.in-Ok.ensures.opened;
  groups = c.requires.groups;
}

pub returns-else-is_memory-clause-opens : goal.returns-else-is_memory-clause-opens
returns-else-is_memory-clause-opens c =
    let e = kind_of c.in-Err.error in
    let q = position_of c.open.new.bits in
    let other : is_memory e ≡ false = sym c.is_memory.ensures ∙ c.if-is_memory.false in
    let fails : UnlessNoMemory e (IsErrorAt ((opening c.args.has_global (nested_list c.args.self.now.channels.items)).read (bytes_of c.args.bits) (position_of c.args.bits)) e q) =
    subst (λ (l : ChannelList). UnlessNoMemory e (IsErrorAt ((opening c.args.has_global l).read (bytes_of c.args.bits) (position_of c.args.bits)) e q)) c.in_ok-whole.ensures.list c.in-Err.ensures.gives in
    refused e ((opening c.args.has_global (nested_list c.args.self.now.channels.items)).read (bytes_of c.args.bits) (position_of c.args.bits)) q other fails
