use Rattle.std.proofs.Common.{◌∙◌, ◌++◌, ◌∷◌, [], refl}
use Rattle.std.proofs.lemmas.Result.{err_from_is_err_and}
use Rattle.jxl_frame_header.specs.Frames.{frame_of}
use Rattle.jxl_codestream.specs.FrontParts.{frame_at}
use Rattle.jxl_lossless.specs.declared.error.FileError.TheVariants as files
use Rattle.jxl_animation.specs.States.{NoFrame}
use Rattle.jxl_animation.specs.declared.error.AnimationError.TheVariants as errors
use Rattle.jxl_animation.proofs.Decoders.{fails_after, goes_on, hidden_if, passes_more, shown_if, shows, whole_shown}
use Rattle.jxl_animation.proofs.frames.FrameDecoder.next.Goals as goal

pub loop-init : goal.loop-init
loop-init c = record { passes = ([], NoFrame); source = refl; ready = c.requires.ready; going = c.if-self.false }

pub loop-preserved : goal.loop-preserved
loop-preserved c =
    let o = c.args.self.now in
    let x = c.loop.self in
    let y = c.finish.new.self in
    let m = c.in_ok-made.made in
    let passes = c.loop.invariant.passes in
    let source = c.loop.invariant.source in
    let none = hidden_if (frame_of m.front.header) m.pictures.items c.in_ok-picture.picture c.in_default.is c.in_ok-picture.ensures.shown in
    record {
      passes = (passes.0 ++ frame_at m.front ∷ [], passes_more o x y m c.args.steps.now c.loop.steps c.make.new.steps passes.0 source passes.1 c.in_ok-made.ensures.ok c.in_ok-picture.ensures.state none);
      source = c.in_ok-picture.ensures.source ∙ source;
      ready = c.in_ok-picture.ensures.ready;
      going = goes_on o x y m c.args.steps.now c.loop.steps c.make.new.steps passes.0 source passes.1 c.in_ok-made.ensures.ok c.in_ok-picture.ensures.state none;
    }

pub returns-in_err-made-clause-err : goal.returns-in_err-made-clause-err
returns-in_err-made-clause-err c =
    let p = err_from_is_err_and c.from_residual.result c.from_residual.ensures.1 in
    let l = c.loop.invariant in
    rw (p.1, p.2) (fails_after c.args.self.now c.loop.self c.loop.self c.args.steps.now c.loop.steps l.passes.0 l.source l.passes.1 l.going c.in_err-made.field-0.0 refl c.in_err-made.ensures.err)

pub returns-in_err-picture-clause-err : goal.returns-in_err-picture-clause-err
returns-in_err-picture-clause-err c =
    let p = err_from_is_err_and c.from_residual-in_err-picture.result c.from_residual-in_err-picture.ensures.1 in
    let l = c.loop.invariant in
    rw (p.1, p.2) (fails_after c.args.self.now c.loop.self c.finish.new.self c.args.steps.now c.loop.steps l.passes.0 l.source l.passes.1 l.going (errors.File files.OutOfMemory) c.in_err-picture.ensures.err tt)

pub returns-in-Some-clause-ok : goal.returns-in-Some-clause-ok
returns-in-Some-clause-ok c =
    let m = c.in_ok-made.made in
    let l = c.loop.invariant in
    shows c.args.self.now c.loop.self c.finish.new.self m c.args.steps.now c.loop.steps c.make.new.steps l.passes.0 l.source l.passes.1 c.in_ok-made.ensures.ok c.in_ok-picture.ensures.state c.in-Some.shown
    (shown_if (frame_of m.front.header) m.pictures.items c.in_ok-picture.picture c.in-Some.shown c.in-Some.is c.in_ok-picture.ensures.shown)

pub returns-clause-err : goal.returns-clause-err
returns-clause-err c =
    let l = c.loop.invariant in
    fails_after c.args.self.now c.loop.self c.loop.self c.args.steps.now c.loop.steps l.passes.0 l.source l.passes.1 l.going (errors.File files.OutOfMemory) refl tt

pub returns-in-Some-clause-whole : goal.returns-in-Some-clause-whole
returns-in-Some-clause-whole c =
    whole_shown c.loop.self c.args.self.now c.in_ok-picture.picture c.in-Some.shown c.in-Some.is c.loop.invariant.source c.in_ok-picture.ensures.whole
