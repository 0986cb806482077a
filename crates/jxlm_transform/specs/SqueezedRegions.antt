-- The parts of a squeezed region of a store (ISO/IEC 18181-1, Modular: squeeze).
use Rattle.std.specs.Prelude.{◌+◌, ◌/◌, Bool, true, false}
use Rattle.jxlm_lanes.specs.Squeeze.{averages}
use Rattle.jxlm_base.specs.declared.subgrid.Region.{Region}

-- the part of a squeezed region that has the averages: the left one, or the upper one
abbrev pub average_region : Bool → Region → Region
average_region true r = record r { width = averages r.width }
average_region false r = record r { height = averages r.height }

-- the part that has the residuals
abbrev pub residual_region : Bool → Region → Region
residual_region true r = record r { x = r.x + averages r.width; width = r.width / 2 }
residual_region false r = record r { y = r.y + averages r.height; height = r.height / 2 }
