use Rattle.std.proofs.Common.{◌≡◌, inl, subst, sym}
use Rattle.jxl_frame_info.specs.Timelines.{TimelineFails}
use Rattle.jxl_frame_info.specs.declared.timeline.TimelineError.{TimelineError}
use Rattle.jxl_frame_info.specs.declared.timeline.TimelineError.TheVariants.{Front}
use Rattle.jxldec.specs.Texts.{FrameTextFails, ListFails}
use Rattle.jxldec_lines.specs.declared.failures.Failure.{Failure}
use Rattle.jxldec.proofs.listing.timeline_of_file.Goals as goal

pub returns-in-Err-Front-clause-err : goal.returns-in-Err-Front-clause-err
returns-in-Err-Front-clause-err c =
    let same : c.in-Err-Front.field-0 ≡ Front c.in-Err-Front.error = cc in
    subst (λ (f : Failure). ListFails c.args.limits.now c.args.file.now f) (sym c.of_frames.ensures)
    (inl (c.bytes.result.now, rw c.bytes.ensures c.in-Ok.ensures.ok, subst (λ (t : TimelineError). TimelineFails c.args.limits.now c.bytes.result.now t) same c.in-Err-Front.ensures.err))

pub returns-in-Err-Front-clause-err_of_frames : goal.returns-in-Err-Front-clause-err_of_frames
returns-in-Err-Front-clause-err_of_frames c = λ number asked.
    let same : c.in-Err-Front.field-0 ≡ Front c.in-Err-Front.error = cc in
    subst (λ (f : Failure). FrameTextFails c.args.limits.now c.args.file.now number asked f) (sym c.of_frames.ensures)
    (inl (c.bytes.result.now, rw c.bytes.ensures c.in-Ok.ensures.ok, subst (λ (t : TimelineError). TimelineFails c.args.limits.now c.bytes.result.now t) same c.in-Err-Front.ensures.err))
