use Rattle.jxlm_inverse.proofs.PaletteLaws.{palette_has_one_image}
use Rattle.jxlm_inverse.proofs.palette.palettes_have_one_image.Goals as goal

pub returns : goal.returns
returns c = palette_has_one_image
