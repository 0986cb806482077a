use Rattle.jxl_coding_fields_write.proofs.CountWidthLaws.{width_few}
use Rattle.jxl_coding_fields_write.proofs.counts.width_of.Goals as goal

pub returns-clause-few : goal.returns-clause-few
returns-clause-few c = width_few c.args.count c.requires
