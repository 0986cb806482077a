use Rattle.std.proofs.Common.{refl, ap, ◌∙◌, map, pos}
use Rattle.std.proofs.lemmas.Result.{err_from_is_err_and}
use Rattle.jxlm_base.specs.Grid.{meanings}
use Rattle.jxlm_transform.specs.Channels.{image_list}
use Rattle.jxl_modular.specs.Image.{image_grids}
use Rattle.jxl_text.specs.Printing.{image_text}
use Rattle.jxlmod_commands.specs.Channels.{channels_asked}
use Rattle.jxlmod_commands.proofs.Pictures.{alike_asked, asked, cut_error, cut_picture}
use Rattle.jxlmod_commands.proofs.picture.cut_picture_text.Goals as goal

pub decode_cut_picture-requires-clause-alike : goal.decode_cut_picture-requires-clause-alike
decode_cut_picture-requires-clause-alike g c κs within =
    rw c.without_tree-params.ensures (alike_asked c.args.width c.args.height c.args.channels _ c.in_ok-channels.ensures)

pub returns-in_err-image : goal.returns-in_err-image
returns-in_err-image g c =
    let e = err_from_is_err_and c.from_residual-in_err-image.result c.from_residual-in_err-image.ensures.1 in
    let params = c.without_tree-params.result in
    let are = asked c.args.width c.args.height c.args.channels params.channels.items (rw c.without_tree-params.ensures c.in_ok-channels.ensures) in
    rw (e.1, e.2)
    (cut_error g.D.Decoder.meaning g.S.Sealed.width (channels_asked c.args.width c.args.height c.args.channels) (image_list params.channels.items)
    c.args.group_dim params.group_dim c.args.bit_depth params.bit_depth c.args.bytes.now are (rw c.without_tree-params.ensures (refl {a = c.args.group_dim})) (rw c.without_tree-params.ensures (refl {a = c.args.bit_depth}))
    g.S.Sealed.to_int (g.S.Sealed.from_int (pos 0)) _ c.in_err-image.ensures.err)

pub returns-in_ok-print_image-in-Some : goal.returns-in_ok-print_image-in-Some
returns-in_ok-print_image-in-Some g c =
    let params = c.without_tree-params.result in
    let are = asked c.args.width c.args.height c.args.channels params.channels.items (rw c.without_tree-params.ensures c.in_ok-channels.ensures) in
    record {
      grids = image_grids g.S.Sealed.to_int c.in-Some.image;
      picture = cut_picture g.D.Decoder.meaning g.S.Sealed.width (channels_asked c.args.width c.args.height c.args.channels) (image_list params.channels.items)
          c.args.group_dim params.group_dim c.args.bit_depth params.bit_depth c.args.bytes.now are (rw c.without_tree-params.ensures (refl {a = c.args.group_dim})) (rw c.without_tree-params.ensures (refl {a = c.args.bit_depth})) _ (rw c.in-Some.is at c.in_ok-image.ensures.picture);
      printed = c.in_ok-print_image-in-Some.ensures ∙ ap (λ s. image_text (map (meanings g.S.Sealed.to_int) s)) c.image_channels.ensures.grids;
    }
