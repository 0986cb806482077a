use Rattle.jxl_lossless.proofs.Adding.{lacks_one}
use Rattle.jxl_lossless.proofs.still.places.Places.add.Goals as goal

pub returns-in-None-clause-err : goal.returns-in-None-clause-err
returns-in-None-clause-err c = lacks_one c.args.self.now c.args.part c.in-None.ensures
