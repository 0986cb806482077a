use Rattle.std.proofs.Common.{◌≡◌}
use Rattle.jxlm_transform.specs.Channels.{infos}
use Rattle.jxlm_samples.specs.Reading.{walked_width}
use Rattle.jxlm_samples.proofs.channels.walked_width.Given as goal

abbrev pub invariant-loop-i : goal.invariant-loop-i
invariant-loop-i l = l.widest ≡ walked_width (infos l.channels) l.flats l.i
