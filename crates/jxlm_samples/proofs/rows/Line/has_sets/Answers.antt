use Rattle.jxlm_samples.proofs.CellLaws.{flat_there}
use Rattle.jxlm_samples.proofs.rows.Line.has_sets.Goals as goal

pub bounds-self-self : goal.bounds-self-self
bounds-self-self g c = flat_there c.args.self.now.coding.now c.requires.here.part.coding c.args.self.now.i c.requires.here.channel
