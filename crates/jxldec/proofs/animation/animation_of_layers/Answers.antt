use Rattle.std.proofs.Common.{◌≡◌, ◌∙◌, None, sym}
use Rattle.std.proofs.lemmas.Result.{err_from_is_err_and}
use Rattle.jxldec.proofs.Animated.{apng_made, first_fails, first_png, layers_fail}
use Rattle.jxldec.proofs.animation.animation_of_layers.Goals as goal

pub returns-in_err-source-clause-err : goal.returns-in_err-source-clause-err
returns-in_err-source-clause-err c =
    let p = err_from_is_err_and c.from_residual.result c.from_residual.ensures.1 in
    rw (p.1, p.2) (layers_fail c.args.limits.now c.args.file.now _ (c.in_err-source.ensures.err 0))

pub returns-in-None-clause-text : goal.returns-in-None-clause-text
returns-in-None-clause-text c =
    let source = c.in_ok-source.ensures.ok in
    let none : source.image.animation ≡ None = sym source.moving ∙ c.in-None.is in
    first_png c.args.limits.now c.args.file.now source.image source.same none c.first_of_file.result c.first_of_file.ensures.text c.first_of_file.ensures.frames

pub returns-in-None-clause-err : goal.returns-in-None-clause-err
returns-in-None-clause-err c = first_fails c.args.limits.now c.args.file.now c.first_of_file.result c.first_of_file.ensures.err

pub returns-in-Some-clause-text : goal.returns-in-Some-clause-text
returns-in-Some-clause-text c = apng_made c.args.limits.now c.args.file.now c.apng_of.result c.apng_of.ensures.text c.apng_of.ensures.frames
