use Rattle.std.proofs.lemmas.Result.{err_from_is_err_and}
use Rattle.jxl_codestream.specs.FrontParts.{frame_at}
use Rattle.jxl_patches.specs.SavedParts.{singles_in}
use Rattle.jxl_animation.specs.Decoders.{bytes_in, image_in, state_of}
use Rattle.jxl_animation.proofs.States.{makes}
use Rattle.jxl_animation.proofs.frames.FrameDecoder.make.Goals as goal

pub returns-clause-ok : goal.returns-clause-ok
returns-clause-ok c =
    let x = c.args.self.now in
    makes x.source.limits (bytes_in x.source) (image_in x.source) (state_of x) (frame_at c.in_ok-front.front) c.in_ok-channels.channels.items (singles_in c.in_ok-drawn.drawn.singles) c.in_ok-drawn.drawn.pictures.items c.args.steps.now c.decode.new.steps c.in_ok-front.ensures.ok
    c.in_ok-channels.ensures.ok c.in_ok-drawn.ensures.made

pub returns-clause-made : goal.returns-clause-made
returns-clause-made c = record { frame = c.in_ok-front.ensures.ready; sides = c.in_ok-drawn.ensures.sides; singles = c.in_ok-drawn.ensures.singles; within = c.in_ok-front.ensures.ok.parts.allowed.2 }

pub returns-in_err-drawn-clause-err : goal.returns-in_err-drawn-clause-err
returns-in_err-drawn-clause-err c =
    let p = err_from_is_err_and c.from_residual-in_err-drawn.result c.from_residual-in_err-drawn.ensures.1 in
    rw (p.1, p.2) tt
