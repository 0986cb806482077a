use Rattle.std.proofs.Common.{pos, sym, ◌∙◌}
use Rattle.std.specs.Option.{option_copied}
use Rattle.std.proofs.lemmas.Result.{err_from_is_err_and}
use Rattle.jxlm_bits.specs.Bits.{bytes_of, position_of}
use Rattle.jxlm_transform.specs.Channels.{image_list}
use Rattle.jxl_modular.proofs.PictureLaws.{fails_read, image_read, fails_filling, steps_within, picture_read, picture_sides}
use Rattle.jxl_modular.proofs.picture.decode_picture.Goals as goal

pub returns-in_err-modular-clause-err : goal.returns-in_err-modular-clause-err
returns-in_err-modular-clause-err g c =
    let e = err_from_is_err_and c.from_residual.result c.from_residual.ensures.1 in
    rw (e.1, e.2)
    (fails_read g.D.Decoder.meaning (g.S.Sealed.from_int (pos 0)) (bytes_of c.args.bits.now) (position_of c.args.bits.now) c.args.params g.S.Sealed.width c.args.stream_index
    c.args.params.channels.items _ (position_of c.parse.new.bits) c.args.steps.now c.in_err-modular.ensures.gives)

pub returns-in_err-fill-clause-err : goal.returns-in_err-fill-clause-err
returns-in_err-fill-clause-err g c =
    let e = err_from_is_err_and c.from_residual-in_err-fill.result c.from_residual-in_err-fill.ensures.1 in
    let read = image_read g.D.Decoder.meaning (g.S.Sealed.from_int (pos 0)) (bytes_of c.args.bits.now) (position_of c.args.bits.now) c.args.params
    c.args.params.channels.items c.in_ok-modular.modular c.in-Some.image (position_of c.parse.new.bits) c.in_ok-modular.ensures.gives (sym c.into_image.ensures ∙ c.in-Some.is) in
    let fails = rw c.in_ok-modular.ensures.bytes at c.in_err-fill.ensures.err in
    rw (e.1, e.2)
    (fails_filling g.D.Decoder.meaning g.S.Sealed.width g.S.Sealed.to_int (bytes_of c.args.bits.now) c.args.stream_index (g.S.Sealed.from_int (pos 0)) (position_of c.args.bits.now) c.args.params
    c.in-Some.image (position_of c.parse.new.bits) read.1 _ (position_of c.fill.new.bits) c.args.steps.now c.fill.new.steps c.in_err-fill.ensures.work.0 fails)

pub returns-in_err-fill-clause-work : goal.returns-in_err-fill-clause-work
returns-in_err-fill-clause-work g c =
    let read = image_read g.D.Decoder.meaning (g.S.Sealed.from_int (pos 0)) (bytes_of c.args.bits.now) (position_of c.args.bits.now) c.args.params
    c.args.params.channels.items c.in_ok-modular.modular c.in-Some.image (position_of c.parse.new.bits) c.in_ok-modular.ensures.gives (sym c.into_image.ensures ∙ c.in-Some.is) in
    steps_within g.D.Decoder.meaning g.S.Sealed.width g.S.Sealed.to_int (bytes_of c.args.bits.now) c.args.stream_index (g.S.Sealed.from_int (pos 0)) (position_of c.args.bits.now) c.args.params
    c.in-Some.image (position_of c.parse.new.bits) read.1 c.args.steps.now c.fill.new.steps c.in_err-fill.ensures.work

pub returns-clause-picture : goal.returns-clause-picture
returns-clause-picture g c =
    let read = image_read g.D.Decoder.meaning (g.S.Sealed.from_int (pos 0)) (bytes_of c.args.bits.now) (position_of c.args.bits.now) c.args.params
    c.args.params.channels.items c.in_ok-modular.modular c.in-Some.image (position_of c.parse.new.bits) c.in_ok-modular.ensures.gives (sym c.into_image.ensures ∙ c.in-Some.is) in
    let filled = rw c.in_ok-modular.ensures.bytes at c.in_ok-fill.ensures.ok in
    picture_read g.D.Decoder.meaning g.S.Sealed.width g.S.Sealed.to_int (bytes_of c.args.bits.now) c.args.stream_index (g.S.Sealed.from_int (pos 0)) (position_of c.args.bits.now) c.args.params
    c.in-Some.image (position_of c.parse.new.bits) read.1 c.fill.new.image (position_of c.fill.new.bits) c.args.steps.now c.fill.new.steps filled c.in_ok-fill.ensures.work

pub returns-clause-sides : goal.returns-clause-sides
returns-clause-sides g c =
    let picture = returns-clause-picture g c in
    picture_sides g.D.Decoder.meaning g.S.Sealed.width (option_copied c.args.params.ma_config) (bytes_of c.args.bits.now) c.args.stream_index (image_list c.args.params.channels.items) (position_of c.args.bits.now) c.args.params.bit_depth _ (position_of c.fill.new.bits) picture.picture

pub returns-clause-work : goal.returns-clause-work
returns-clause-work g c =
    let read = image_read g.D.Decoder.meaning (g.S.Sealed.from_int (pos 0)) (bytes_of c.args.bits.now) (position_of c.args.bits.now) c.args.params
    c.args.params.channels.items c.in_ok-modular.modular c.in-Some.image (position_of c.parse.new.bits) c.in_ok-modular.ensures.gives (sym c.into_image.ensures ∙ c.in-Some.is) in
    steps_within g.D.Decoder.meaning g.S.Sealed.width g.S.Sealed.to_int (bytes_of c.args.bits.now) c.args.stream_index (g.S.Sealed.from_int (pos 0)) (position_of c.args.bits.now) c.args.params
    c.in-Some.image (position_of c.parse.new.bits) read.1 c.args.steps.now c.fill.new.steps c.in_ok-fill.ensures.work
