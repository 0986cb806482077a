-- The channels of an image by valid parameters.
use Rattle.std.proofs.Common.{List}
use Rattle.std.proofs.lemmas.List.Elements.{All-map}
use Rattle.std.specs.List.{All}
use Rattle.jxlm_transform.proofs.ShiftBounds.{IsSide-shift_size, IsShift-hshift}
use Rattle.jxlm_transform.specs.Channels.{Channel, image_channel, image_list}
use Rattle.jxlm_transform.specs.Params.{IsSide, IsValidChannel}
use Rattle.jxlm_transform.specs.Shifts.{IsShift}
use Rattle.jxlm_transform.specs.declared.param.ModularChannelParams.{ModularChannelParams}

-- sides and shifts are those that parameters may have
pub record IsWithinLimits (c : Channel) : Type 0 where
  pub width : IsSide c.width
  pub height : IsSide c.height
  pub original_width : IsSide c.original_width
  pub original_height : IsSide c.original_height
  pub hshift : IsShift c.hshift
  pub vshift : IsShift c.vshift

pub IsWithinLimits-image_channel : (p : ModularChannelParams) → IsValidChannel p → IsWithinLimits (image_channel p)
IsWithinLimits-image_channel p valid =
    let sides = IsSide-shift_size p.shift p.width p.height valid.0 valid.1 in
    let shifts = IsShift-hshift p.shift valid.2 in
    record { width = sides.0; height = sides.1; original_width = valid.0; original_height = valid.1; hshift = shifts.0; vshift = shifts.1 }

-- Every channel of an image without transforms is within the limits.
pub All-image_list : (ps : List ModularChannelParams) → All IsValidChannel ps → All IsWithinLimits (image_list ps).channels
All-image_list ps valid = All-map IsWithinLimits image_channel ps (λ k d h. IsWithinLimits-image_channel _ (valid k d h))
