use Rattle.std.proofs.Common.{◌≡◌, ◌∙◌, false, inl, sym, true}
use Rattle.jxldec.specs.Layers.{is_layered}
use Rattle.jxldec.proofs.Layered.{first_picture_fails, first_text, has_layers}
use Rattle.jxldec.proofs.run.shown_of_file.Goals as goal

pub returns-then-is_layered-clause-text : goal.returns-then-is_layered-clause-text
returns-then-is_layered-clause-text g c =
    let layered : is_layered c.in-Err.failure ≡ true = sym c.is_layered.ensures ∙ c.if-is_layered.true in
    first_text c.args.limits.now c.args.file.now c.args.asked (has_layers c.args.limits.now c.args.file.now c.args.asked c.in-Err.failure c.in-Err.ensures.err layered)
    c.first_of_file.result c.first_of_file.ensures.text c.first_of_file.ensures.frames

pub returns-then-is_layered-clause-err : goal.returns-then-is_layered-clause-err
returns-then-is_layered-clause-err g c =
    let layered : is_layered c.in-Err.failure ≡ true = sym c.is_layered.ensures ∙ c.if-is_layered.true in
    first_picture_fails c.args.limits.now c.args.file.now c.args.asked (has_layers c.args.limits.now c.args.file.now c.args.asked c.in-Err.failure c.in-Err.ensures.err layered) c.first_of_file.result c.first_of_file.ensures.err

pub returns-else-is_layered-clause-err : goal.returns-else-is_layered-clause-err
returns-else-is_layered-clause-err g c =
    let still : is_layered c.in-Err.failure ≡ false = sym c.is_layered.ensures ∙ c.if-is_layered.false in
    inl (c.in-Err.ensures.err, still)
