use Rattle.jxl_patches.proofs.PatchedLaws.{read_patches_fit}
use Rattle.jxl_patches.proofs.laws.what_is_read_fits.Goals as goal

pub returns : goal.returns
returns c = read_patches_fit
