use Rattle.std.proofs.Common.{arith, sym, ◌≡◌, ◌<◌, pos, List, [], length, map, rules, Err, Ok, ap, ◌∙◌, subst}
use Rattle.std.specs.Option.{option_copied}
use Rattle.std.specs.Prelude.{Bool, is_some}
use Rattle.jxlm_bits.specs.Bits.{bytes_of, position_of}
use Rattle.jxlm_chain.specs.declared.placed.PlacedChannels.{PlacedChannels}
use Rattle.jxlm_nested.specs.Opened.{IsOpened, TreeOfGives, opened_of}
use Rattle.jxl_modular.specs.Parsing.{ParseGives}
use Rattle.jxlm_nested.specs.Starts.{opening_at}
use Rattle.jxlm_header.specs.Opening.{opening}
use Rattle.jxlm_header.specs.declared.header.ModularHeader.{ModularHeader}
use Rattle.jxl_modular.proofs.ParsingLaws.{image_stands, tree_fails, not_zero, gives_image, gives_error}
use Rattle.jxlm_nested.proofs.StartLaws.{lent_some}
use Rattle.jxl_modular.proofs.root.Modular.parse.Goals as goal
use Rattle.jxlm_bits.specs.ErrorKind.{kind_of}
use Rattle.jxlm_transform.specs.Channels.{Channel, ChannelList, IsNarrow, image_channel, image_list}
use Rattle.jxlm_transform.specs.Lists.{list_of}
use Rattle.jxlm_transform.specs.Layout.{first_layout}
use Rattle.jxlm_chain.specs.Placed.{IsPlacedBy}
use Rattle.jxlm_chain.proofs.PlacedSteps.{placed_by}
use Rattle.jxlm_transform.proofs.SideBounds.{narrow_image}
use Rattle.jxl_modular.specs.Fresh.{fresh}
use Rattle.jxl_modular.specs.Inner.Laid.{given_channels}
use Rattle.jxl_modular.proofs.PictureLaws.{no_memory}
use Rattle.std.specs.List.{All}

pub open-requires-clause-narrow : goal.open-requires-clause-narrow
open-requires-clause-narrow g c =
    let ps = c.args.params.channels.items in
    let given : given_channels c.in_ok-given.given.items ≡ image_list ps = ap given_channels (c.in_ok-given.ensures.ok ∙ ap (map image_channel) c.deref.ensures.value) in
    let list : list_of c.in_ok-start.start.channels ≡ image_list ps = c.in_ok-start.ensures.list ∙ ap given_channels c.deref-2.ensures.value ∙ given in
    subst (λ l. All IsNarrow l.channels) (sym list) (narrow_image ps c.requires.valid.channels)

pub new-requires-clause-opened : goal.new-requires-clause-opened
new-requires-clause-opened g c κs within =
    let ps = c.args.params.channels.items in
    let given : given_channels c.in_ok-given.given.items ≡ image_list ps = ap given_channels (c.in_ok-given.ensures.ok ∙ ap (map image_channel) c.deref.ensures.value) in
    let list : list_of c.in_ok-start.start.channels ≡ image_list ps = c.in_ok-start.ensures.list ∙ ap given_channels c.deref-2.ensures.value ∙ given in
    subst (λ l. IsOpened l (c.in_ok-header.header, c.in_ok-header.placed)) (list ∙ sym given) c.in_ok-header.ensures.opened

pub new-requires-clause-placed : goal.new-requires-clause-placed
new-requires-clause-placed g c κs within =
    let by = subst (λ (is : List Channel). IsPlacedBy [] (first_layout is) c.in_ok-start.start) c.deref-2.ensures.value c.in_ok-start.ensures.by in
    placed_by _ _ c.in_ok-start.start c.in_ok-header.placed by c.in_ok-header.ensures.goes

pub new-requires-clause-asked : goal.new-requires-clause-asked
new-requires-clause-asked g c κs within =
    let given = c.in_ok-given.ensures.ok ∙ ap (map image_channel) c.deref.ensures.value in
    record {
      params = c.args.params.channels.items;
      valid = c.requires.valid.channels;
      are = given;
    }

pub returns-in_err-image-clause-gives : goal.returns-in_err-image-clause-gives
returns-in_err-image-clause-gives g c =
    let d = g.D.Decoder.meaning in
    let zero = g.S.Sealed.from_int (pos 0) in
    let bytes = bytes_of c.args.bits.now in
    let p = position_of c.args.bits.now in
    let params = c.args.params in
    let ps = params.channels.items in
    let counted_some : 0 < params.channels.len = not_zero params.channels.len (sym c.is_empty.ensures ∙ c.if-is_empty.false) in
    let some : 0 < length ps = omega (arith, counted_some, params.channels.ok.0) in
    let e = c.in_err-image.field-0.0 in
    let q = position_of c.tree_of.new.bits in
    let answer : ParseGives d zero bytes p params ps (Err e) q = gives_error d zero bytes p params ps e q some (no_memory (kind_of e) _ c.in_err-image.ensures.err) in
    search rules

pub returns-in_err-ma_ctx-clause-gives : goal.returns-in_err-ma_ctx-clause-gives
returns-in_err-ma_ctx-clause-gives g c =
    let d = g.D.Decoder.meaning in
    let zero = g.S.Sealed.from_int (pos 0) in
    let bytes = bytes_of c.args.bits.now in
    let p = position_of c.args.bits.now in
    let params = c.args.params in
    let ps = params.channels.items in
    let o : ModularHeader × PlacedChannels = (c.in_ok-header.header, c.in_ok-header.placed) in
    let m = position_of c.open.new.bits in
    let global = option_copied params.ma_config in
    let has : c.is_some.result ≡ is_some global = c.is_some.ensures ∙ sym (lent_some params.ma_config) in
    let counted_some : 0 < params.channels.len = not_zero params.channels.len (sym c.is_empty.ensures ∙ c.if-is_empty.false) in
    let some : 0 < length ps = omega (arith, counted_some, params.channels.ok.0) in
    let given : given_channels c.in_ok-given.given.items ≡ image_list ps = ap given_channels (c.in_ok-given.ensures.ok ∙ ap (map image_channel) c.deref.ensures.value) in
    let list : list_of c.in_ok-start.start.channels ≡ image_list ps = c.in_ok-start.ensures.list ∙ ap given_channels c.deref-2.ensures.value ∙ given in
    let opens : opening_at global bytes (image_list ps) p ≡ Ok (record { value = opened_of o; position = m }) =
    subst (λ (l : ChannelList). opening_at global bytes l p ≡ Ok (record { value = opened_of o; position = m })) list
    (subst (λ (b : Bool). (opening b (list_of c.in_ok-start.start.channels)).read bytes p ≡ Ok (record { value = opened_of o; position = m })) has c.in_ok-header.ensures.gives) in
    let q = position_of c.tree_of.new.bits in
    let e = c.in_err-ma_ctx.field-0.0 in
    let tree : TreeOfGives d global bytes o.0.use_global_tree (list_of o.1.channels).channels m (Err e) q = rw (c.in_ok-header.ensures.bytes, c.deref-3.ensures.value) at c.in_err-ma_ctx.ensures.gives in
    let answer : ParseGives d zero bytes p params ps (Err e) q = gives_error d zero bytes p params ps e q some (tree_fails d zero bytes p params o m opens e q tree) in
    search rules

pub returns-clause-gives : goal.returns-clause-gives
returns-clause-gives g c =
    let d = g.D.Decoder.meaning in
    let zero = g.S.Sealed.from_int (pos 0) in
    let bytes = bytes_of c.args.bits.now in
    let p = position_of c.args.bits.now in
    let params = c.args.params in
    let ps = params.channels.items in
    let o : ModularHeader × PlacedChannels = (c.in_ok-header.header, c.in_ok-header.placed) in
    let m = position_of c.open.new.bits in
    let global = option_copied params.ma_config in
    let has : c.is_some.result ≡ is_some global = c.is_some.ensures ∙ sym (lent_some params.ma_config) in
    let counted_some : 0 < params.channels.len = not_zero params.channels.len (sym c.is_empty.ensures ∙ c.if-is_empty.false) in
    let some : 0 < length ps = omega (arith, counted_some, params.channels.ok.0) in
    let given : given_channels c.in_ok-given.given.items ≡ image_list ps = ap given_channels (c.in_ok-given.ensures.ok ∙ ap (map image_channel) c.deref.ensures.value) in
    let list : list_of c.in_ok-start.start.channels ≡ image_list ps = c.in_ok-start.ensures.list ∙ ap given_channels c.deref-2.ensures.value ∙ given in
    let opens : opening_at global bytes (image_list ps) p ≡ Ok (record { value = opened_of o; position = m }) =
    subst (λ (l : ChannelList). opening_at global bytes l p ≡ Ok (record { value = opened_of o; position = m })) list
    (subst (λ (b : Bool). (opening b (list_of c.in_ok-start.start.channels)).read bytes p ≡ Ok (record { value = opened_of o; position = m })) has c.in_ok-header.ensures.gives) in
    let q = position_of c.tree_of.new.bits in
    let tree : TreeOfGives d global bytes o.0.use_global_tree (list_of o.1.channels).channels m (Ok c.in_ok-ma_ctx.ma_ctx) q = rw (c.in_ok-header.ensures.bytes, c.deref-3.ensures.value) at c.in_ok-ma_ctx.ensures.gives in
    let is = subst (λ l. c.in_ok-image.image ≡ fresh zero l (opened_of o) c.in_ok-ma_ctx.ma_ctx params.group_dim params.bit_depth) given c.in_ok-image.ensures.ok in
    let stands = image_stands d zero bytes p params o m opens c.in_ok-ma_ctx.ma_ctx q c.in_ok-image.image tree is in
    gives_image d zero bytes p params ps c.in_ok-image.image q some stands
