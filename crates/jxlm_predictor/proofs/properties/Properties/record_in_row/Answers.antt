use Rattle.std.proofs.Common.{w32}
use Rattle.std.proofs.lemmas.Int.{to_z-of_z}
use Rattle.jxlm_predictor.proofs.properties.Properties.record_in_row.Goals as goal

pub returns-clause-stands : goal.returns-clause-stands
returns-clause-stands g c = λ s samples stands. rw (to_z-of_z w32 c.args.sample c.ranges.sample) at (c.advance.ensures.stands s samples stands (c.requires.current.correction_is s samples stands))
