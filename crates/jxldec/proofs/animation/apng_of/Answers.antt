use Rattle.std.proofs.Common.{◌≡◌, ◌∙◌, ◌<◌, ◌+◌, ℕ, Some, ap, arith, inl, inr, length, refl, subst, sym}
use Rattle.std.proofs.lemmas.Result.{err_from_is_err_and}
use Rattle.jxl_animation.specs.Decoders.{HasShown}
use Rattle.jxl_image_header.specs.Images.{Image, image_of}
use Rattle.jxl_png_write.specs.Headers.{png_header}
use Rattle.jxldec.proofs.Animated.{apng_text, has_room, is_full, layers_fail, memory_fails, png_suits, png_written, stands_first, stands_next}
use Rattle.jxldec.proofs.Written.{some_if}
use Rattle.jxldec.specs.Inner.Animated.{BeginsWith}
use Rattle.jxldec.proofs.animation.apng_of.Goals as goal

pub returns-in_err-timeline-clause-err : goal.returns-in_err-timeline-clause-err
returns-in_err-timeline-clause-err c =
    let p = err_from_is_err_and c.from_residual.result c.from_residual.ensures.1 in
    rw (p.1, p.2) (layers_fail c.args.limits.now c.args.file.now _ (c.in_err-timeline.ensures.err_of_frames 0 _))

pub returns-in_err-first-clause-err : goal.returns-in_err-first-clause-err
returns-in_err-first-clause-err c =
    let p = err_from_is_err_and c.from_residual-in_err-first.result c.from_residual-in_err-first.ensures.1 in
    let limits = c.args.limits.now in
    let file = c.args.file.now in
    let shown = subst (λ (n : ℕ). HasShown limits file 0 n c.args.source.decoder) (sym c.new-steps.ensures) c.requires.source.shown in
    rw (p.1, p.2) (c.in_err-first.ensures.err limits file shown (inl refl))

pub begin_apng-requires-clause-suits : goal.begin_apng-requires-clause-suits
begin_apng-requires-clause-suits c =
    let limits = c.args.limits.now in
    let file = c.args.file.now in
    let source = c.requires.source in
    let shown = subst (λ (n : ℕ). HasShown limits file 0 n c.args.source.decoder) (sym c.new-steps.ensures) source.shown in
    let found = c.in_ok-first.ensures.ok limits file shown in
    png_suits _ _ _ _ _ (source.same 0 c.in_ok-first.first.picture found.0.frame) source.written

pub returns-in_err-writer-clause-err : goal.returns-in_err-writer-clause-err
returns-in_err-writer-clause-err c =
    let p = err_from_is_err_and c.from_residual-in_err-writer.result c.from_residual-in_err-writer.ensures.1 in
    rw (p.1, p.2) (memory_fails c.args.limits.now c.args.file.now _ c.in_err-writer.ensures.err)

pub loop-number-init : goal.loop-number-init
loop-number-init c =
    let limits = c.args.limits.now in
    let file = c.args.file.now in
    let a = c.args.animation in
    let shown = subst (λ (n : ℕ). HasShown limits file 0 n c.args.source.decoder) (sym c.new-steps.ensures) c.requires.source.shown in
    let found = c.in_ok-first.ensures.ok limits file shown in
    let control = some_if _ _ _ _ c.in-Some.is c.new.ensures in
    let begin = subst (λ (n : ℕ). BeginsWith a c.args.source.beside n c.in_ok-first.first c.in_ok-writer.writer) control.plays_are c.in_ok-writer.ensures.ok in
    let room = c.in_ok-writer.ensures.count ∙ sym c.frames-number-end.ensures.value in
    stands_first _ _ _ _ _ _ _ _ _ _ found.1 c.in_ok-first.ensures.ready begin room

pub returns-in_err-shown-clause-err : goal.returns-in_err-shown-clause-err
returns-in_err-shown-clause-err c =
    let p = err_from_is_err_and c.from_residual-in_err-shown.result c.from_residual-in_err-shown.ensures.1 in
    let control = some_if _ _ _ _ c.in-Some.is c.new.ensures in
    let frames = control.frames_are in
    let value = c.frames-number-end.ensures.value in
    let long = c.len-count.ensures in
    let test = c.loop-number-test.true in
    let less : c.loop-number.number < length c.in_ok-timeline.timeline.durations.items = omega (arith, frames, value, long, test) in
    rw (p.1, p.2) (c.in_err-shown.ensures.err _ _ c.loop-number.invariant.at.shown (inr (c.in_ok-timeline.timeline, c.in_ok-timeline.ensures.ok, less)))

pub add_picture-requires-clause-suits : goal.add_picture-requires-clause-suits
add_picture-requires-clause-suits c =
    let source = c.requires.source in
    let found = c.in_ok-shown.ensures.ok _ _ c.loop-number.invariant.at.shown in
    png_suits _ _ _ _ _ (source.same c.loop-number.number c.in_ok-shown.shown.picture found.0.frame) source.written

pub next_shown-requires-in-loop-number : goal.next_shown-requires-in-loop-number
next_shown-requires-in-loop-number c = record { ready = c.loop-number.invariant.at.ready }

pub add_picture-requires-clause-same : goal.add_picture-requires-clause-same
add_picture-requires-clause-same c =
    let source = c.requires.source in
    let begun = subst (λ (n : ℕ). HasShown c.args.limits.now c.args.file.now 0 n c.args.source.decoder) (sym c.new-steps.ensures) source.shown in
    let first = c.in_ok-first.ensures.ok _ _ begun in
    let found = c.in_ok-shown.ensures.ok _ _ c.loop-number.invariant.at.shown in
    let same = source.same 0 c.in_ok-first.first.picture first.0.frame in
    let next = source.same c.loop-number.number c.in_ok-shown.shown.picture found.0.frame in
    c.loop-number.invariant.at.writes.header ∙ ap (λ (i : Image). png_header i) (same ∙ sym next)

pub add_picture-requires-clause-room : goal.add_picture-requires-clause-room
add_picture-requires-clause-room c =
    has_room _ _ _ _ _ _ _ _ _ _ _ _ _ c.loop-number.invariant.at c.loop-number-test.true

pub returns-in_err-writer-2-clause-err : goal.returns-in_err-writer-2-clause-err
returns-in_err-writer-2-clause-err c =
    let p = err_from_is_err_and c.from_residual-in_err-writer-2.result c.from_residual-in_err-writer-2.ensures.1 in
    rw (p.1, p.2) (memory_fails c.args.limits.now c.args.file.now _ c.in_err-writer-2.ensures.err)

pub loop-number-preserved : goal.loop-number-preserved
loop-number-preserved c =
    let source = c.requires.source in
    let at = c.loop-number.invariant.at in
    let found = c.in_ok-shown.ensures.ok _ _ at.shown in
    let same = source.same c.loop-number.number c.in_ok-shown.shown.picture found.0.frame in
    let moving = ap (λ (i : Image). i.animation) same ∙ (sym source.moving ∙ c.requires.moving) in
    let goes = c.in_ok-writer-2.ensures.ok _ _ _ _ _ _ at.writes in
    stands_next _ _ _ _ _ _ _ _ _ _ _ c.loop-number.invariant _ _ _ _ found.1 c.in_ok-shown.ensures.ready found.0 moving goes c.in_ok-writer-2.ensures.count

pub check_end-requires : goal.check_end-requires
check_end-requires c = record { ready = c.loop-number.invariant.at.ready }

pub returns-in_err-check_end-clause-err : goal.returns-in_err-check_end-clause-err
returns-in_err-check_end-clause-err c =
    let p = err_from_is_err_and c.from_residual-in_err-check_end.result c.from_residual-in_err-check_end.ensures.1 in
    rw (p.1, p.2) (c.in_err-check_end.ensures.err _ _ _ c.loop-number.invariant.at.shown)

pub finish-requires : goal.finish-requires
finish-requires c =
    let least = c.loop-number-test.false in
    let most = c.loop-number.auto.number-end in
    let some = c.frames-number-end.ensures.some in
    let all : c.loop-number.number ≡ c.frames-number-end.result = omega (arith, least, most, some) in
    is_full _ _ _ _ _ _ _ _ _ _ _ _ _ c.loop-number.invariant.at all

pub returns-in-Ok-clause-text : goal.returns-in-Ok-clause-text
returns-in-Ok-clause-text c =
    let source = c.requires.source in
    let begun = subst (λ (n : ℕ). HasShown c.args.limits.now c.args.file.now 0 n c.args.source.decoder) (sym c.new-steps.ensures) source.shown in
    let first = c.in_ok-first.ensures.ok _ _ begun in
    let same = source.same 0 c.in_ok-first.first.picture first.0.frame in
    let moving = ap (λ (i : Image). i.animation) same ∙ (sym source.moving ∙ c.requires.moving) in
    let at = c.loop-number.invariant.at in
    let fewer = c.in_ok-check_end.ensures.ok _ _ _ at.shown in
    let written = png_written _ _ _ _ _ same source.written in
    apng_text _ _ _ _ _ _ _ _ _ _ _ c.loop-number.invariant _ _ _ first.0 moving fewer source.beside written refl (c.in-Ok.ensures _ _ _ _ _ _ at.writes)
