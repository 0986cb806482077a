use Rattle.std.proofs.Common.{refl, ap, ◌∙◌, map}
use Rattle.std.specs.Prelude.{None}
use Rattle.std.specs.Option.{option_copied}
use Rattle.std.proofs.lemmas.Result.{err_from_is_err_and}
use Rattle.jxlm_bits.specs.Bits.{bytes_of, position_of}
use Rattle.jxlm_base.specs.Grid.{meanings}
use Rattle.jxlm_transform.specs.Channels.{image_list}
use Rattle.jxl_modular.specs.Image.{image_grids}
use Rattle.jxl_text.specs.Printing.{image_text}
use Rattle.jxlmod_commands.proofs.Pictures.{valid_params, asked, at_start, error_at_start, out_of_memory}
use Rattle.jxlmod_commands.proofs.picture.picture_text.Goals as goal

pub returns-in_err-channels : goal.returns-in_err-channels
returns-in_err-channels g c =
    let e = err_from_is_err_and c.from_residual.result c.from_residual.ensures.1 in
    rw (e.1, e.2) (out_of_memory g.D.Decoder.meaning g.S.Sealed.width c.args.width c.args.height c.args.channels c.args.bytes.now _ refl)

pub decode_picture-requires-clause-valid : goal.decode_picture-requires-clause-valid
decode_picture-requires-clause-valid g c κs within =
    rw c.without_tree-params.ensures (valid_params c.args.width c.args.height c.args.channels c.args.bit_depth _ refl refl c.in_ok-channels.ensures c.requires.many c.requires.deep c.requires.wide c.requires.high)

pub returns-in_err-image : goal.returns-in_err-image
returns-in_err-image g c =
    let e = err_from_is_err_and c.from_residual-in_err-image.result c.from_residual-in_err-image.ensures.1 in
    let are = asked c.args.width c.args.height c.args.channels c.without_tree-params.result.channels.items (rw c.without_tree-params.ensures c.in_ok-channels.ensures) in
    rw (e.1, e.2)
    (error_at_start g.D.Decoder.meaning g.S.Sealed.width c.args.width c.args.height c.args.channels c.args.bytes.now (bytes_of c.new-bits.result) (position_of c.new-bits.result) (image_list c.without_tree-params.result.channels.items) (option_copied c.without_tree-params.result.ma_config)
    c.new-bits.ensures.bytes c.new-bits.ensures.position are (rw c.without_tree-params.ensures (refl {a = None})) _ (position_of c.decode_picture.new.bits) c.new.result c.decode_picture.new.steps c.new.ensures c.in_err-image.ensures.err)

pub returns-in_ok-print_image-in-Some : goal.returns-in_ok-print_image-in-Some
returns-in_ok-print_image-in-Some g c =
    let are = asked c.args.width c.args.height c.args.channels c.without_tree-params.result.channels.items (rw c.without_tree-params.ensures c.in_ok-channels.ensures) in
    let read = rw c.in-Some.is at c.in_ok-image.ensures.picture in
    record {
      grids = image_grids g.S.Sealed.to_int c.in-Some.image;
      place = position_of c.decode_picture.new.bits;
      picture = at_start g.D.Decoder.meaning g.S.Sealed.width c.args.width c.args.height c.args.channels c.args.bytes.now (bytes_of c.new-bits.result) (position_of c.new-bits.result) (image_list c.without_tree-params.result.channels.items) (option_copied c.without_tree-params.result.ma_config)
          c.new-bits.ensures.bytes c.new-bits.ensures.position are (rw c.without_tree-params.ensures (refl {a = None})) _ c.args.bit_depth _ (position_of c.decode_picture.new.bits) (rw c.without_tree-params.ensures refl) read.picture;
      printed = c.in_ok-print_image-in-Some.ensures ∙ ap (λ s. image_text (map (meanings g.S.Sealed.to_int) s)) c.image_channels.ensures.grids;
    }
