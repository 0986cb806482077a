use Rattle.std.proofs.Common.{◌≡◌, ap, arith, length, ◌∙◌}
use Rattle.jxlm_transform.specs.Channels.{infos}
use Rattle.jxlm_samples.specs.Reading.{walked_width}
use Rattle.jxlm_samples.proofs.channels.walked_width.Goals as goal

pub returns : goal.returns
returns c =
    let all : c.loop-i.i ≡ length c.args.channels.now = let end = c.loop-i.auto.i-end in omega (arith, end, c.loop-i-test.false) in
    c.loop-i.invariant ∙ ap (walked_width (infos c.args.channels.now) c.args.flats.now) all
