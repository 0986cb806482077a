use Rattle.std.proofs.Common.{Err}
use Rattle.std.proofs.lemmas.Result.{err_from_is_err_and}
use Rattle.jxlm_bits.specs.Bits.{bytes_of, position_of}
use Rattle.jxl_modular.proofs.Filling.{filled_then, not_filled, work_within}
use Rattle.jxl_modular.proofs.picture.fill.Goals as goal

pub returns-in_err-decode_front-clause-work : goal.returns-in_err-decode_front-clause-work
returns-in_err-decode_front-clause-work g c =
    work_within g.D.Decoder.meaning g.S.Sealed.width g.S.Sealed.to_int (bytes_of c.args.bits.now) c.args.stream_index c.args.image.now (position_of c.args.bits.now) c.has_samples-partial.result c.args.steps.now
    c.decode_front.new.self (position_of c.decode_front.new.bits) c.decode_front.new.partial c.decode_front.new.steps c.channel_count-count.result c.channel_count-count.ensures c.has_samples-partial.ensures.laid
    (Err c.in_err-decode_front.field-0.0) c.in_err-decode_front.ensures.gives

pub returns-clause-ok : goal.returns-clause-ok
returns-clause-ok g c =
    filled_then g.D.Decoder.meaning g.S.Sealed.width g.S.Sealed.to_int (bytes_of c.args.bits.now) c.args.stream_index c.args.image.now (position_of c.args.bits.now) c.has_samples-partial.result c.args.steps.now
    c.decode_front.new.self (position_of c.decode_front.new.bits) c.decode_front.new.partial c.decode_front.new.steps c.channel_count-count.result c.channel_count-count.ensures c.has_samples-partial.ensures.laid
    c.undo_transforms.result c.undo_transforms.new.self c.in_ok-decode_front.ensures.gives
    c.in_ok-decode_front.ensures.same.cells c.undo_transforms.ensures.only c.undo_transforms.ensures.same

pub returns-in_err-decode_front-clause-err : goal.returns-in_err-decode_front-clause-err
returns-in_err-decode_front-clause-err g c =
    let e = err_from_is_err_and c.from_residual.result c.from_residual.ensures.1 in
    rw (e.1, e.2)
    (not_filled g.D.Decoder.meaning g.S.Sealed.width g.S.Sealed.to_int (bytes_of c.args.bits.now) c.args.stream_index c.args.image.now (position_of c.args.bits.now) c.has_samples-partial.result c.args.steps.now
    c.decode_front.new.self (position_of c.decode_front.new.bits) c.decode_front.new.partial c.decode_front.new.steps c.channel_count-count.result c.channel_count-count.ensures c.has_samples-partial.ensures.laid
    c.in_err-decode_front.field-0.0 c.in_err-decode_front.ensures.gives)
