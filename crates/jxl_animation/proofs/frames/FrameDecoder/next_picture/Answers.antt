use Rattle.std.proofs.Common.{inl, inr, refl, sym}
use Rattle.std.proofs.lemmas.Result.{err_from_is_err_and}
use Rattle.jxl_image_header.specs.Images.{image_of}
use Rattle.jxl_lossless.proofs.Channels.{whole_upright}
use Rattle.jxl_animation.specs.Decoders.{image_in}
use Rattle.jxl_animation.proofs.Decoders.{fails_of_file, next_none, next_some, none_of_file, shown_more, shown_of_file, shows_picture, whole_shown}
use Rattle.jxl_animation.proofs.frames.FrameDecoder.next_picture.Goals as goal

pub returns-in_err-next-clause-err : goal.returns-in_err-next-clause-err
returns-in_err-next-clause-err c =
    let p = err_from_is_err_and c.from_residual.result c.from_residual.ensures.1 in
    rw (p.1, p.2) (inl c.in_err-next.ensures.err)

pub returns-in_err-next-clause-of_file : goal.returns-in_err-next-clause-of_file
returns-in_err-next-clause-of_file c = λ limits file number has.
    let p = err_from_is_err_and c.from_residual.result c.from_residual.ensures.1 in
    rw (p.1, p.2) (fails_of_file limits file number c.args.steps.now c.next.new.steps c.args.self.now c.next.new.self has _ (inl c.in_err-next.ensures.err))

pub returns-in_default-clause-ok : goal.returns-in_default-clause-ok
returns-in_default-clause-ok c = next_none c.args.self.now c.next.new.self c.args.steps.now c.next.new.steps c.in_ok-next.next c.in_default.is c.in_ok-next.ensures.ok

pub returns-in_default-clause-of_file : goal.returns-in_default-clause-of_file
returns-in_default-clause-of_file c = λ limits file number has.
    none_of_file limits file number c.args.steps.now c.next.new.steps c.args.self.now c.next.new.self has
    (next_none c.args.self.now c.next.new.self c.args.steps.now c.next.new.steps c.in_ok-next.next c.in_default.is c.in_ok-next.ensures.ok).0

pub returns-in_err-picture-clause-err : goal.returns-in_err-picture-clause-err
returns-in_err-picture-clause-err c =
    let p = err_from_is_err_and c.from_residual-in_err-picture.result c.from_residual-in_err-picture.ensures.1 in
    let shows = next_some c.args.self.now c.next.new.self c.args.steps.now c.next.new.steps c.in_ok-next.next c.in-Some.frame c.in-Some.is c.in_ok-next.ensures.ok in
    rw (p.1, p.2) (inr (c.in-Some.frame, shows, refl))

pub returns-in_err-picture-clause-of_file : goal.returns-in_err-picture-clause-of_file
returns-in_err-picture-clause-of_file c = λ limits file number has.
    let p = err_from_is_err_and c.from_residual-in_err-picture.result c.from_residual-in_err-picture.ensures.1 in
    let shows = next_some c.args.self.now c.next.new.self c.args.steps.now c.next.new.steps c.in_ok-next.next c.in-Some.frame c.in-Some.is c.in_ok-next.ensures.ok in
    rw (p.1, p.2) (fails_of_file limits file number c.args.steps.now c.next.new.steps c.args.self.now c.next.new.self has _ (inr (c.in-Some.frame, shows, refl)))

pub returns-clause-ok : goal.returns-clause-ok
returns-clause-ok c =
    let shows = next_some c.args.self.now c.next.new.self c.args.steps.now c.next.new.steps c.in_ok-next.next c.in-Some.frame c.in-Some.is c.in_ok-next.ensures.ok in
    shows_picture c.args.self.now c.next.new.self c.args.steps.now c.next.new.steps c.in-Some.frame c.in_ok-picture.picture c.in_ok-next.ensures.source shows c.in_ok-picture.ensures.upright c.in_ok-picture.ensures.profile

pub returns-clause-whole : goal.returns-clause-whole
returns-clause-whole c =
    whole_upright (image_in c.next.new.self.source) c.in-Some.frame.channels.items (image_of c.in_ok-picture.picture.header) c.in_ok-picture.picture.channels.items
    (whole_shown c.args.self.now c.next.new.self c.in_ok-next.next c.in-Some.frame c.in-Some.is (sym c.in_ok-next.ensures.source) c.in_ok-next.ensures.whole) c.in_ok-picture.ensures.upright

pub returns-clause-of_file : goal.returns-clause-of_file
returns-clause-of_file c = λ limits file number has.
    let shows = next_some c.args.self.now c.next.new.self c.args.steps.now c.next.new.steps c.in_ok-next.next c.in-Some.frame c.in-Some.is c.in_ok-next.ensures.ok in (
      shown_of_file limits file number c.args.steps.now c.next.new.steps c.args.self.now c.next.new.self has _
          (shows_picture c.args.self.now c.next.new.self c.args.steps.now c.next.new.steps c.in-Some.frame c.in_ok-picture.picture c.in_ok-next.ensures.source shows c.in_ok-picture.ensures.upright c.in_ok-picture.ensures.profile),
      shown_more limits file number c.args.steps.now c.next.new.steps c.args.self.now c.next.new.self has c.in-Some.frame c.in_ok-next.ensures.source shows,
    )
