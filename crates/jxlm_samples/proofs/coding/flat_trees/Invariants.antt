use Rattle.jxlm_samples.specs.Reading.{HasFlats}
use Rattle.jxlm_samples.proofs.coding.flat_trees.Given as goal

abbrev pub invariant-loop-channel : goal.invariant-loop-channel
invariant-loop-channel g l = HasFlats l.config.tree l.stream_index l.channel l.flats.items
