use Rattle.std.proofs.Common.{◌∙◌, ap, refl}
use Rattle.std.proofs.lemmas.Result.{err_from_is_err_and}
use Rattle.jxl_frame_header.specs.Frames.{frame_of}
use Rattle.jxl_patches.specs.SavedParts.{slots_of}
use Rattle.jxl_animation.specs.Decoders.{image_in}
use Rattle.jxl_animation.proofs.Decoders.{ready_after, ready_same, state_is, whole_if}
use Rattle.jxl_animation.proofs.States.{same_state}
use Rattle.jxl_animation.proofs.frames.FrameDecoder.finish.Goals as goal

pub returns-clause-ready : goal.returns-clause-ready
returns-clause-ready c =
    ready_after c.args.self.now c.pass.new.self c.args.made (ap slots_of c.pass.ensures.slots ∙ c.in_ok-shown.ensures.ok) c.pass.ensures.used c.requires.ready c.requires.made c.pass.ensures.source c.pass.ensures.inside

pub returns-clause-state : goal.returns-clause-state
returns-clause-state c =
    state_is c.args.self.now c.pass.new.self c.args.made (ap slots_of c.pass.ensures.slots ∙ c.in_ok-shown.ensures.ok) c.pass.ensures.used c.pass.ensures.start c.pass.ensures.done

pub returns-clause-whole : goal.returns-clause-whole
returns-clause-whole c =
    whole_if (image_in c.args.self.now.source) (frame_of c.args.made.front.header) c.args.made.pictures.items c.in_ok-shown.shown c.requires.made.sides c.in_ok-shown.ensures.shown

pub returns-in_err-shown-clause-ready : goal.returns-in_err-shown-clause-ready
returns-in_err-shown-clause-ready c = ready_same c.args.self.now _ refl (same_state _ _ c.in_err-shown.ensures.err refl refl refl) c.requires.ready

pub returns-in_err-shown-clause-err : goal.returns-in_err-shown-clause-err
returns-in_err-shown-clause-err c =
    let p = err_from_is_err_and c.from_residual.result c.from_residual.ensures.1 in
    rw p.1 (same_state _ _ c.in_err-shown.ensures.err refl refl refl)
