use Rattle.std.proofs.Common.{◌≡◌, ◌∙◌, ◌+◌, ◌≤◌, ◌^◌, length, refl, rules, subst, sym}
use Rattle.std.specs.Option.{option_copied}
use Rattle.jxlm_bits.specs.Bits.{bytes_of, position_of}
use Rattle.jxlm_transform.specs.Channels.{AreGridsOf, ChannelList, image_list}
use Rattle.jxl_image_header.specs.Images.{image_of}
use Rattle.jxl_image_header.specs.declared.size.Size.{Size}
use Rattle.jxl_modular.specs.Image.{image_grids}
use Rattle.jxl_picture.specs.Limits.{channel_count}
use Rattle.jxl_picture.specs.Pictures.{colour_count}
use Rattle.jxl_lossless.specs.Frames.{channels_given}
use Rattle.jxl_lossless.specs.Inner.Coded.{CodedFails, IsCoded, SamplesFail}
use Rattle.jxl_lossless.specs.Inner.Given.{of_file}
use Rattle.jxl_lossless.proofs.Channels.{alike, are_given, valid_params}
use Rattle.jxl_lossless.proofs.Trees.{coded, samples_fail, start_fails}
use Rattle.std.proofs.lemmas.Result.{err_from_is_err_and}
use Rattle.jxl_lossless.proofs.frame.SectionsInput.decode_coded.Goals as goal

pub decode_frame-requires-clause-valid : goal.decode_frame-requires-clause-valid
decode_frame-requires-clause-valid g c κs within =
    let image = image_of c.args.self.input.image.now in
    let size = c.size-size.result in
    let params = c.with_channels-params.result in
    let is : params.channels.items ≡ of_file (colour_count image) image.ec_info size.width size.height = rw c.with_channels-params.ensures c.in_ok-list.ensures.list in
    let ready = c.requires.ready.input in
    let wide : size.width ≤ 2 ^ 30 = subst (λ (z : Size). z.width ≤ 2 ^ 30) (sym c.size-size.ensures) ready.frame.wide in
    let high : size.height ≤ 2 ^ 30 = subst (λ (z : Size). z.height ≤ 2 ^ 30) (sym c.size-size.ensures) ready.frame.high in
    valid_params params (colour_count image) size.width size.height image.ec_info is ready.many wide high ready.low (rw c.with_channels-params.ensures ready.frame.dim) (rw c.with_channels-params.ensures ready.deep)

pub decode_frame-requires-clause-alike : goal.decode_frame-requires-clause-alike
decode_frame-requires-clause-alike g c κs within =
    let image = image_of c.args.self.input.image.now in
    let size = c.size-size.result in
    let list = c.with_channels-params.result.channels.items in
    let is : list ≡ of_file (colour_count image) image.ec_info size.width size.height = rw c.with_channels-params.ensures c.in_ok-list.ensures.list in
    alike (colour_count image) size.width size.height image.ec_info list is

pub returns-in-Ok-Some-clause-ok : goal.returns-in-Ok-Some-clause-ok
returns-in-Ok-Some-clause-ok g c =
    let image = image_of c.args.self.input.image.now in
    let size = c.size-size.result in
    let params = c.with_channels-params.result in
    let list : image_list params.channels.items ≡ channels_given image size = are_given image size params.channels.items c.requires.ready.input.low (rw c.with_channels-params.ensures c.in_ok-list.ensures.list) in
    let dim : params.group_dim ≡ c.args.self.input.frame.now.header.group_dim = rw c.with_channels-params.ensures refl in
    let depth : params.bit_depth ≡ image.bit_depth.bits_per_sample = rw c.with_channels-params.ensures refl in
    let tree : option_copied params.ma_config ≡ c.in_ok-tree.tree = search rules in
    let extra : c.len.result ≡ length c.args.self.input.image.now.ec_info.items = c.len.ensures ∙ c.args.self.input.image.now.ec_info.ok.0 in
    let count : c.colours.result + c.len.result ≡ channel_count image = rw (c.colours.ensures, extra) refl in
    subst (λ (z : Size). IsCoded g.D.Decoder.meaning g.S.Sealed.width image c.args.self.input.frame.now.trees z c.args.self.input.frame.now.header.group_dim (bytes_of c.args.bits) (position_of c.args.bits) c.args.self.places
    (image_grids g.S.Sealed.to_int c.in-Ok-Some.image) c.args.steps.now c.decode_frame.new.steps) c.size-size.ensures
    (coded g.D.Decoder.meaning g.S.Sealed.width image size c.args.self.input.frame.now.header.group_dim (c.colours.result + c.len.result) c.args.self.input.frame.now.trees (bytes_of c.args.bits) (bytes_of c.shared_tree.new.bits)
    (position_of c.args.bits) (position_of c.shared_tree.new.bits) c.args.self.places c.in_ok-tree.tree params count c.in_ok-tree.ensures.ok c.in_ok-tree.ensures.bytes tree list dim depth
    (image_grids g.S.Sealed.to_int c.in-Ok-Some.image) c.args.steps.now c.decode_frame.new.steps (rw c.in-Ok-Some.field-0-is at c.in-Ok-Some.ensures.still))

pub returns-in-Ok-Some-clause-sides : goal.returns-in-Ok-Some-clause-sides
returns-in-Ok-Some-clause-sides g c =
    let image = image_of c.args.self.input.image.now in
    let size = c.size-size.result in
    let params = c.with_channels-params.result in
    let list : image_list params.channels.items ≡ channels_given image size = are_given image size params.channels.items c.requires.ready.input.low (rw c.with_channels-params.ensures c.in_ok-list.ensures.list) in
    subst (λ (z : Size). AreGridsOf (channels_given image z).channels (image_grids g.S.Sealed.to_int c.in-Ok-Some.image)) c.size-size.ensures
    (subst (λ (l : ChannelList). AreGridsOf l.channels (image_grids g.S.Sealed.to_int c.in-Ok-Some.image)) list (rw c.in-Ok-Some.field-0-is at c.in-Ok-Some.ensures.sides))

pub returns-clause-err : goal.returns-clause-err
returns-clause-err g c =
    let image = image_of c.args.self.input.image.now in
    let size = c.size-size.result in
    let params = c.with_channels-params.result in
    let list : image_list params.channels.items ≡ channels_given image size = are_given image size params.channels.items c.requires.ready.input.low (rw c.with_channels-params.ensures c.in_ok-list.ensures.list) in
    let dim : params.group_dim ≡ c.args.self.input.frame.now.header.group_dim = rw c.with_channels-params.ensures refl in
    let depth : params.bit_depth ≡ image.bit_depth.bits_per_sample = rw c.with_channels-params.ensures refl in
    let tree : option_copied params.ma_config ≡ c.in_ok-tree.tree = search rules in
    let extra : c.len.result ≡ length c.args.self.input.image.now.ec_info.items = c.len.ensures ∙ c.args.self.input.image.now.ec_info.ok.0 in
    let count : c.colours.result + c.len.result ≡ channel_count image = rw (c.colours.ensures, extra) refl in
    subst (λ (z : Size). SamplesFail g.D.Decoder.meaning g.S.Sealed.width image c.args.self.input.frame.now.trees z c.args.self.input.frame.now.header.group_dim (bytes_of c.args.bits) (position_of c.args.bits) c.args.self.places c.in-Err.error) c.size-size.ensures
    (samples_fail g.D.Decoder.meaning g.S.Sealed.width image size c.args.self.input.frame.now.header.group_dim (c.colours.result + c.len.result) c.args.self.input.frame.now.trees (bytes_of c.args.bits) (bytes_of c.shared_tree.new.bits)
    (position_of c.args.bits) (position_of c.shared_tree.new.bits) c.args.self.places c.in_ok-tree.tree params count c.in_ok-tree.ensures.ok c.in_ok-tree.ensures.bytes tree list dim depth c.in-Err.error c.in-Err.ensures.err)

pub returns-in_err-tree-clause-err : goal.returns-in_err-tree-clause-err
returns-in_err-tree-clause-err g c =
    let image = image_of c.args.self.input.image.now in
    let e = c.in_err-tree.field-0.0 in
    let p = err_from_is_err_and c.from_residual.result c.from_residual.ensures.1 in
    let extra : c.len.result ≡ length c.args.self.input.image.now.ec_info.items = c.len.ensures ∙ c.args.self.input.image.now.ec_info.ok.0 in
    let count : c.colours.result + c.len.result ≡ channel_count image = rw (c.colours.ensures, extra) refl in
    rw (p.1, p.2) (subst (λ (z : Size). CodedFails g.D.Decoder.meaning g.S.Sealed.width image c.args.self.input.frame.now.trees z c.args.self.input.frame.now.header.group_dim (bytes_of c.args.bits) (position_of c.args.bits) c.args.self.places e) c.size-size.ensures
    (start_fails g.D.Decoder.meaning g.S.Sealed.width image c.size-size.result c.args.self.input.frame.now.header.group_dim (c.colours.result + c.len.result) c.args.self.input.frame.now.trees (bytes_of c.args.bits)
    (position_of c.args.bits) c.args.self.places count e c.in_err-tree.ensures.err))
