use Rattle.jxl_c.proofs.Encodings.{few_channels}
use Rattle.jxl_c.proofs.picture.picture_of.Goals as goal

pub has_samples-requires : goal.has_samples-requires
has_samples-requires c = few_channels c.in_ok-empty.empty c.in_ok-empty.ensures.codable

pub grids_of-requires-clause-few : goal.grids_of-requires-clause-few
grids_of-requires-clause-few c = few_channels c.in_ok-empty.empty c.in_ok-empty.ensures.codable
