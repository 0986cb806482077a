use Rattle.std.proofs.Common.{◌≡◌, ◌∙◌, Some, false, inl, sym, true}
use Rattle.jxldec.proofs.Animated.{layers_text, no_animation}
use Rattle.jxldec.proofs.Layered.{has_layers}
use Rattle.jxldec.specs.Layers.{is_layered}
use Rattle.jxldec_lines.specs.declared.format.OutputFormat.TheVariants.{Png}
use Rattle.jxldec.proofs.animation.animation_of_file.Goals as goal

pub returns-then-is_layered-clause-text : goal.returns-then-is_layered-clause-text
returns-then-is_layered-clause-text g c =
    let layered : is_layered c.in-Err.failure ≡ true = sym c.is_layered.ensures ∙ c.if-is_layered.true in
    layers_text c.args.limits.now c.args.file.now (has_layers c.args.limits.now c.args.file.now (Some Png) c.in-Err.failure c.in-Err.ensures.err layered) c.animation_of_layers.result c.animation_of_layers.ensures.text

pub returns-then-is_layered-clause-err : goal.returns-then-is_layered-clause-err
returns-then-is_layered-clause-err g c =
    let layered : is_layered c.in-Err.failure ≡ true = sym c.is_layered.ensures ∙ c.if-is_layered.true in
    no_animation c.args.limits.now c.args.file.now (has_layers c.args.limits.now c.args.file.now (Some Png) c.in-Err.failure c.in-Err.ensures.err layered) c.animation_of_layers.result c.animation_of_layers.ensures.err

pub returns-else-is_layered-clause-err : goal.returns-else-is_layered-clause-err
returns-else-is_layered-clause-err g c =
    let still : is_layered c.in-Err.failure ≡ false = sym c.is_layered.ensures ∙ c.if-is_layered.false in
    inl (c.in-Err.ensures.err, still)
