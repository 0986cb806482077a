use Rattle.jxlm_base.proofs.Regions.{grids_of_written}
use Rattle.jxlm_base.proofs.laws.writes_change_one_region.Goals as goal

pub returns : goal.returns
returns c = λ rs apart store i x y v d. grids_of_written store rs i x y v d apart
