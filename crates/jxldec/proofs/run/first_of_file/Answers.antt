use Rattle.std.proofs.Common.{◌≡◌, Option, subst, sym}
use Rattle.std.proofs.lemmas.Result.{err_from_is_err_and}
use Rattle.jxl_container.specs.Files.{HasLaterError}
use Rattle.jxl_container.specs.declared.error.FileError.{FileError as BoxError}
use Rattle.jxldec.specs.Texts.{CountsFrames}
use Rattle.jxldec_lines.specs.declared.warning.FrameCount.{FrameCount}
use Rattle.jxldec.proofs.run.first_of_file.Goals as goal

pub returns-in_err-frames-clause-err : goal.returns-in_err-frames-clause-err
returns-in_err-frames-clause-err c =
    let p = err_from_is_err_and c.from_residual.result c.from_residual.ensures.1 in
    rw (p.1, p.2) (c.in_err-frames.ensures.err 0 c.args.asked)

pub returns-clause-frames : goal.returns-clause-frames
returns-clause-frames c =
    let same : c.of_first-left_out.result.frames ≡ c.in_ok-frames.frames = cc in
    subst (λ (f : FrameCount). CountsFrames c.args.limits.now c.args.file.now f) (sym same) c.in_ok-frames.ensures.ok

pub returns-clause-later : goal.returns-clause-later
returns-clause-later c =
    let same : c.of_first-left_out.result.later_error ≡ c.in_ok-content.field-0.left_out.later_error = cc in
    subst (λ (e : Option BoxError). HasLaterError c.args.file.now e) (sym same) c.in_ok-content.ensures.later
