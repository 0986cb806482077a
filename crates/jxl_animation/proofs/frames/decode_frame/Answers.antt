use Rattle.std.proofs.Common.{inl, sym}
use Rattle.std.proofs.lemmas.Result.{err_from_is_err_and}
use Rattle.jxl_image_header.specs.Images.{image_of}
use Rattle.jxl_lossless.proofs.Channels.{whole_upright}
use Rattle.jxl_animation.specs.Decoders.{image_in}
use Rattle.jxl_animation.proofs.Decoders.{fewer_if, frames_fail_if, no_memory, nth_if, whole_shown}
use Rattle.jxl_animation.proofs.frames.decode_frame.Goals as goal

pub returns-in_err-decoder-clause-err : goal.returns-in_err-decoder-clause-err
returns-in_err-decoder-clause-err c =
    let p = err_from_is_err_and c.from_residual.result c.from_residual.ensures.1 in
    rw (p.1, p.2) (inl c.in_err-decoder.ensures.err)

pub returns-in_err-shown-clause-err : goal.returns-in_err-shown-clause-err
returns-in_err-shown-clause-err c =
    let p = err_from_is_err_and c.from_residual-in_err-shown.result c.from_residual-in_err-shown.ensures.1 in
    rw (p.1, p.2) (frames_fail_if c.args.limits.now c.args.file.now c.args.number c.in_ok-decoder.decoder c.in_ok-decoder.ensures.ok c.nth.new.self c.new-steps.result c.in_err-shown.field-0.0 c.new-steps.ensures c.in_err-shown.ensures.err)

pub returns-in_err-picture-clause-err : goal.returns-in_err-picture-clause-err
returns-in_err-picture-clause-err c =
    let p = err_from_is_err_and c.from_residual-in_err-picture.result c.from_residual-in_err-picture.ensures.1 in
    rw (p.1, p.2) (no_memory c.args.limits.now c.args.file.now c.args.number c.in_ok-decoder.decoder c.in_ok-decoder.ensures.ok)

pub returns-in_default-clause-ok : goal.returns-in_default-clause-ok
returns-in_default-clause-ok c =
    fewer_if c.args.limits.now c.args.file.now c.args.number c.in_ok-decoder.decoder c.in_ok-decoder.ensures.ok c.nth.new.self c.nth.new.steps c.new-steps.result c.in_ok-shown.shown c.new-steps.ensures c.in_default.is c.in_ok-shown.ensures.ok

pub returns-clause-ok : goal.returns-clause-ok
returns-clause-ok c =
    nth_if c.args.limits.now c.args.file.now c.args.number c.in_ok-decoder.decoder c.in_ok-decoder.ensures.ok c.nth.new.self c.nth.new.steps c.new-steps.result c.in_ok-shown.shown c.in-Some.frame c.in_ok-picture.picture c.new-steps.ensures c.in-Some.is c.in_ok-shown.ensures.source
    c.in_ok-shown.ensures.ok c.in_ok-picture.ensures.upright c.in_ok-picture.ensures.profile

pub returns-clause-whole : goal.returns-clause-whole
returns-clause-whole c =
    whole_upright (image_in c.nth.new.self.source) c.in-Some.frame.channels.items (image_of c.in_ok-picture.picture.header) c.in_ok-picture.picture.channels.items
    (whole_shown c.in_ok-decoder.decoder c.nth.new.self c.in_ok-shown.shown c.in-Some.frame c.in-Some.is (sym c.in_ok-shown.ensures.source) c.in_ok-shown.ensures.whole) c.in_ok-picture.ensures.upright
