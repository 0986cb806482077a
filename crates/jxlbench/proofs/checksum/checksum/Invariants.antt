use Rattle.std.proofs.Common.{◌≡◌, take, map}
use Rattle.jxlm_base.specs.Grid.{meanings}
use Rattle.jxlbench.specs.Checksum.{with_samples, image_samples}
use Rattle.jxlbench.proofs.checksum.checksum.Given as goal

abbrev pub invariant-loop-channel : goal.invariant-loop-channel
invariant-loop-channel g l =
    l.sum ≡ with_samples l.initial.sum (image_samples (map (meanings g.S.Sealed.to_int) (take l.channel-index l.channels)))
