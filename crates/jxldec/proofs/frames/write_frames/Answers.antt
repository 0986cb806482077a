use Rattle.std.proofs.Common.{◌≡◌, ◌≤◌, ◌+◌, ℕ, [], Some, arith, refl, string_bytes, subst, sym}
use Rattle.std.proofs.lemmas.Result.{err_from_is_err_and}
use Rattle.jxl_animation.specs.Decoders.{HasShown}
use Rattle.jxl_image_header.specs.Images.{Image, image_of}
use Rattle.jxldec_lines.proofs.Chosen.{chosen_suits}
use Rattle.jxldec_lines.specs.Formats.{chosen}
use Rattle.jxldec_lines.specs.declared.failures.Failure.{Failure}
use Rattle.jxldec_lines.specs.declared.failures.Failure.TheVariants as failures
use Rattle.jxldec.proofs.Written.{all_written, file_fails, frame_fails, goes_on, no_page, none_if, page_fails, some_if, text_so}
use Rattle.jxldec.specs.Choices.{IsWrittenIn}
use Rattle.jxldec.specs.Frames.{NoPage}
use Rattle.jxldec.specs.Texts.{FrameTextFails}
use Rattle.jxldec.specs.declared.frames.At.TheVariants as places
use Rattle.jxldec.specs.declared.frames.FramesFailure.{FramesFailure}
use Rattle.jxldec.proofs.frames.write_frames.Goals as goal

pub returns-in-Err-clause-err : goal.returns-in-Err-clause-err
returns-in-Err-clause-err g c = file_fails _ _ _ _ _ _ (c.in-Err.ensures.err 0) _ c.of_file.ensures

pub loop-number-init : goal.loop-number-init
loop-number-init g c =
    let source = c.in-Ok.ensures.ok in
    let limits = c.args.limits.now in
    let file = c.args.file.now in
    record {
      shown = subst (λ (n : ℕ). HasShown limits file 0 n c.in-Ok.source.decoder) (sym c.new-steps.ensures) source.shown;
      ready = source.ready;
      pages = [];
      are = NoPage;
      count = refl;
      appended = no_page (g.S.Outputs.pages c.args.outputs.now);
    }

pub next_picture-requires : goal.next_picture-requires
next_picture-requires g c = record { ready = c.loop-number.invariant.ready }

pub returns-in-Err-next_picture-clause-err : goal.returns-in-Err-next_picture-clause-err
returns-in-Err-next_picture-clause-err g c =
    let at = c.loop-number.invariant in
    let why = c.in-Err-next_picture.ensures.of_file _ _ _ at.shown in
    frame_fails _ _ _ _ _ _ _ _ _ _ _ at (failures.Frames c.in-Err-next_picture.error) why _ c.of_frame.ensures

pub returns-in_default-clause-written : goal.returns-in_default-clause-written
returns-in_default-clause-written g c =
    let at = c.loop-number.invariant in
    all_written _ _ _ _ _ _ _ _ _ _ _ at
    (none_if _ _ _ c.in_default.is (c.in-Ok-next_picture.ensures.of_file _ _ _ at.shown))

pub content_of-requires-clause-suits : goal.content_of-requires-clause-suits
content_of-requires-clause-suits g c =
    let at = c.loop-number.invariant in
    let source = c.in-Ok.ensures.ok in
    let found = some_if _ _ _ _ c.in-Some.is (c.in-Ok-next_picture.ensures.of_file _ _ _ at.shown) in
    let same = source.same c.loop-number.number c.in-Some.shown.picture found.0.frame in
    let format = c.in-Ok.source.format in
    chosen_suits c.args.asked (image_of c.in-Some.shown.picture.header) format
    (subst (λ (i : Image). chosen c.args.asked i ≡ Some format) (sym same) source.written.suited)

pub returns-in-Err-content_of-clause-err : goal.returns-in-Err-content_of-clause-err
returns-in-Err-content_of-clause-err g c =
    let limits = c.args.limits.now in
    let file = c.args.file.now in
    let asked = c.args.asked in
    let number = c.loop-number.number in
    let memory = sym c.in-Err-content_of.ensures.err in
    let why = subst (λ (e : Failure). FrameTextFails limits file number asked e) memory tt in
    frame_fails _ _ _ _ _ _ _ _ _ _ _ c.loop-number.invariant _ why _ c.of_frame-in-Err-content_of.ensures

pub returns-in_err-write_page-clause-err : goal.returns-in_err-write_page-clause-err
returns-in_err-write_page-clause-err g c =
    let p = err_from_is_err_and c.from_residual.result c.from_residual.ensures.1 in
    let page = c.in_err-write_page.ensures in
    rw (p.1, p.2) (page_fails _ _ _ _ _ _ _ _ _ _ _ c.loop-number.invariant _ _ page.kept page.err)

pub loop-number-preserved : goal.loop-number-preserved
loop-number-preserved g c =
    let at = c.loop-number.invariant in
    let source = c.in-Ok.ensures.ok in
    let found = some_if _ _ _ _ c.in-Some.is (c.in-Ok-next_picture.ensures.of_file _ _ _ at.shown) in
    let same = source.same c.loop-number.number c.in-Some.shown.picture found.0.frame in
    let left = c.in-Ok.source.left_out in
    let asked = c.args.asked in
    let format = c.in-Ok.source.format in
    let others = string_bytes left.channels in
    let written = subst (λ (i : Image). IsWrittenIn asked format others left.loss i) (sym same) source.written in
    let text = text_so _ _ _ _ _ _ _ _ source.beside written c.in-Ok-content_of.ensures.text in
    let appended = c.in_ok-write_page.ensures.ok in
    goes_on _ _ _ _ _ _ _ _ _ _ _ at _ _ _ _ _ found.1 c.next_picture.ensures.ready found.0.frame text appended

pub returns-clause-err : goal.returns-clause-err
returns-clause-err g c =
    let least = c.loop-number-test.false in
    let most = c.loop-number.auto.number-end in
    let same : c.loop-number.number ≡ 4294967295 = omega (arith, least, most) in
    let memory : FramesFailure = record { at = places.Frame c.loop-number.number; failure = failures.OutOfMemory } in
    let of : c.of_frame-2.result ≡ memory = rw same c.of_frame-2.ensures in
    frame_fails _ _ _ _ _ _ _ _ _ _ _ c.loop-number.invariant failures.OutOfMemory tt _ of
