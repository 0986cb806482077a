-- Where a walk over the samples of a part of a channel is.
use Rattle.std.specs.Prelude.{ℕ, ℤ, List, Option}
use Rattle.jxlm_weighted.specs.declared.weights.WpHeader.{WpHeader}
use Rattle.jxl_encode_properties.specs.Walks.{IsAfter, Progress}

-- the walk is after some samples of a part of some width, with some weights or none
pub record IsUnderway (walk : Progress) : Type 0 where
  pub weights : Option WpHeader
  pub width : ℕ
  pub samples : List ℤ
  pub after : IsAfter walk weights width samples
