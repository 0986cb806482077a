-- Regions whose ends can be counted.
use Rattle.std.specs.Prelude.{◌+◌, ◌^◌, ◌<◌}
use Rattle.jxlm_base.specs.declared.subgrid.Region.{Region}

-- the column and the row after its last ones are numbers of 64 bits
pub record HasEnds (r : Region) : Type 0 where
  pub column : r.x + r.width < 2 ^ 64
  pub row : r.y + r.height < 2 ^ 64
